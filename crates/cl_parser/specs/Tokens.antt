-- What a token of a line gives for the type of an argument.
use Rattle.std.specs.Prelude.{ℕ, Bool, true, false, List, Option, Some, None}
use Rattle.cl_application.specs.declared.applications.App.{App}
use Rattle.cl_eval.specs.Slots.{Slots}
use Rattle.cl_eval.specs.Statements.{Member}
use Rattle.cl_eval.specs.TypeMeanings.{Reads}
use Rattle.cl_line.specs.Texts.{object_of, text_of}
use Rattle.cl_line.specs.declared.elements.Element.{Element}
use Rattle.cl_line.specs.declared.tokens.Token.{Token}
use Rattle.cl_parser.specs.declared.parsing.Parser.{Parser}
use Rattle.cl_syntax.specs.TypeSpecTree.{TypeSpecTree}
use Rattle.cl_value.specs.Data.{Data}
use Rattle.cl_value.specs.Value.{data_of}
use Rattle.cl_value.specs.declared.Value.{Value}

-- what arguments are read by: an application, which values are members of its types, what texts read as, and slots
pub record Scene : Type 0 where
  pub app : App
  pub holds : Member
  pub reads : Reads
  pub slots : Slots

-- that of a parser, by what its types say
abbrev pub scene_of : {T : Type 0} → (T → Member) → (T → Reads) → Parser T → Scene
scene_of holds reads p = record { app = p.app.now; holds = holds p.types.now; reads = reads p.types.now; slots = p.slots.now }

-- an object, where a test holds
abbrev pub if_holds : Bool → Data → Option Data
if_holds true d = Some d
if_holds false d = None

-- what an object gives: itself, where it is a member
abbrev pub object_value : Scene → TypeSpecTree → Data → Option Data
object_value s spec d = if_holds (s.holds d spec) d

-- what a token with this text or this object gives; an open one has neither
abbrev pub value_by : Scene → TypeSpecTree → Option (List ℕ) → Option Value → Option Data
value_by s spec (Some x) object = s.reads s.slots spec x
value_by s spec None (Some v) = object_value s spec (data_of v)
value_by s spec None None = None

-- what a token gives for a type, if anything
abbrev pub token_value : Scene → TypeSpecTree → List Element → Token → Option Data
token_value s spec line t = value_by s spec (text_of line t) (object_of line t)
