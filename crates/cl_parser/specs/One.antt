-- What a whole line is read as, as the one token of a type.
use Rattle.std.specs.Prelude.{List, [], ◌∷◌, Option, Some, None}
use Rattle.cl_line.specs.Tokens.{tokens_behind}
use Rattle.cl_line.specs.declared.elements.Element.{Element}
use Rattle.cl_line.specs.declared.tokens.Token.{Token}
use Rattle.cl_parser.specs.Tokens.{Scene, token_value}
use Rattle.cl_parser.specs.declared.one.One.{One}
use Rattle.cl_parser.specs.declared.one.One.TheVariants as one
use Rattle.cl_syntax.specs.TypeSpecTree.{TypeSpecTree}
use Rattle.cl_value.specs.Data.{Data}
use Rattle.cl_value.specs.Value.{data_of}

-- the object of the token; no token that gives one; or more than one token
pub data OneAt : Type 0 where
  Object : Data → OneAt
  Bad : OneAt
  Surplus : OneAt

-- what a `One` of the program is
abbrev pub one_at : One → OneAt
one_at (one.Object v) = Object (data_of v)
one_at one.Bad = Bad
one_at one.Surplus = Surplus

-- this object, where no more tokens stand behind its own
abbrev pub only : Data → List Token → OneAt
only d [] = Object d
only d (t ∷ ts) = Surplus

-- what the first token gives, with these tokens behind it
abbrev pub one_behind : List Token → Option Data → OneAt
one_behind ts None = Bad
one_behind ts (Some d) = only d ts

-- the first token comes before those that are too many
abbrev pub one_in : Scene → TypeSpecTree → List Element → List Token → OneAt
one_in s spec line [] = Bad
one_in s spec line (t ∷ ts) = one_behind ts (token_value s spec line t)

-- what a line is read as, as the one token of a type
abbrev pub one_of : Scene → TypeSpecTree → List Element → OneAt
one_of s spec line = one_in s spec line (tokens_behind 0 line)
