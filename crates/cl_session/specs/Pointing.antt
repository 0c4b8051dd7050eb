-- What is pointed at: the input contexts of a command line, and the choice at a place of a pane.
use Rattle.std.specs.Prelude.{ℕ, zero, suc, ◌+◌, ℤ, pos, int_le, int_lt, Bool, false, ◌&&◌, List, [], ◌∷◌, length, Option, Some, None, option_map, unwrap_or}
use Rattle.cl_application.specs.declared.applications.App.{App}
use Rattle.cl_application.specs.declared.declarations.ArgumentDecl.{ArgumentDecl}
use Rattle.cl_application.specs.declared.declarations.CommandDecl.{CommandDecl}
use Rattle.cl_application.specs.declared.declarations.PaneDecl.{PaneDecl}
use Rattle.cl_eval.specs.Operators.{list_of}
use Rattle.cl_eval.specs.Slots.{Slots}
use Rattle.cl_frame.specs.Ground.{Ground}
use Rattle.cl_frame.specs.Panes.{PaneMarks, marks_in}
use Rattle.cl_gesture.specs.declared.answers.PointAt.{PointAt}
use Rattle.cl_line.specs.Lines.{front_start, pointed}
use Rattle.cl_line.specs.Places.{line_slot}
use Rattle.cl_line.specs.declared.elements.Element.{Element}
use Rattle.cl_line.specs.declared.places.LineSlot.{LineSlot}
use Rattle.cl_line.specs.declared.places.LineSlot.TheVariants.{Name, Arg, Past}
use Rattle.cl_line.specs.declared.places.Named.{Named}
use Rattle.cl_medium.specs.Items.{item_bounds}
use Rattle.cl_record.specs.Touches.{TouchAt, touched_labels}
use Rattle.cl_session.specs.Naming.{command_of_line, sight_in}
use Rattle.cl_session.specs.TranslatorPlaces.{translators_in}
use Rattle.cl_session.specs.World.{Enabled, World}
use Rattle.cl_syntax.specs.TypeSpecTree.{TypeSpecTree}
use Rattle.cl_table.specs.Names.{declared_at}
use Rattle.cl_translate.specs.Applies.{command_type}
use Rattle.cl_translate.specs.Choices.{Given, blank_area, candidates, chosen}
use Rattle.cl_translate.specs.Scenes.{Scene}
use Rattle.cl_value.specs.Data.{Data, int, bool, text, symbol, null, list, rec}
use Rattle.cl_value.specs.declared.Value.{Value}
use Rattle.cl_value.specs.declared.Value.TheVariants as value

-- ---- objects as values of the program

-- the value that is this data
abbrev pub value_of : Data → Value
value_of (int n) = value.Int n
value_of (bool b) = value.Bool b
value_of (text x) = value.Text x
value_of (symbol x) = value.Symbol x
value_of null = value.Null
value_of (list ds) = value.List (list_of ds)
value_of (rec x ds) = value.Record x (list_of ds)

-- ---- input contexts

-- an argument of a command that is typed next, with its number, from 1
pub record TypedArgument : Type 0 where
  pub command : CommandDecl
  pub number : ℕ
  pub argument : ArgumentDecl

-- the argument of a command with this number, counted from 1
abbrev pub argument_numbered : CommandDecl → ℕ → Option TypedArgument
argument_numbered command zero = None
argument_numbered command (suc place) =
    option_map (λ a. record { command = command; number = suc place; argument = a }) (declared_at place command.arguments)

-- the argument of a command that is typed in a slot of the line
abbrev pub argument_in : CommandDecl → LineSlot → Option TypedArgument
argument_in command Name = None
argument_in command (Arg number) = argument_numbered command number
argument_in command Past = None

-- the name of a command in a line: where it ends, and how many arguments the command takes
abbrev pub named_in : CommandDecl → List Element → Named
named_in command line = record { end = front_start line + length command.line_name; arguments = length command.arguments }

-- the argument that is typed next, by the command that the line names
abbrev pub typed_by : List Element → Option CommandDecl → Option TypedArgument
typed_by line None = None
typed_by line (Some command) = argument_in command (line_slot (Some (named_in command line)) line)

-- the argument that is typed next in a line; None while the name is typed, and past the last argument
abbrev pub typed_in : App → List Element → Option TypedArgument
typed_in app line = typed_by line (command_of_line app line)

-- the input contexts, the innermost first: the type of the argument that is typed next, and `command`
abbrev pub contexts_of : Option TypedArgument → List TypeSpecTree
contexts_of None = command_type ∷ []
contexts_of (Some t) = t.argument.spec ∷ command_type ∷ []

-- an object takes the place of the token that is being typed
abbrev pub line_with : TypedArgument → Data → List Element → List Element
line_with t d line = pointed (front_start line + length t.command.line_name) (value_of d) line

-- ---- the choice

-- what a choice is made by on these slots, with these commands enabled
abbrev pub scene_by : Ground → Slots → Enabled → Scene
scene_by g slots enabled = record {
  app = g.app;
  holds = g.types.holds;
  hierarchy = g.hierarchy;
  slots = slots;
  commands = (sight_in g.app).commands;
  enabled = λ x. unwrap_or (enabled x) false;
  translators = translators_in g.app;
}

-- a column and a row lie within a pane
abbrev pub is_within : PaneDecl → (x y : ℤ) → Bool
is_within d x y = (int_le (pos 0) x && int_lt x (pos d.width)) && (int_le (pos 0) y && int_lt y (pos d.height))

-- what stands at a place of a pane that shows these marks
abbrev pub candidates_at : PaneDecl → PaneMarks → (x y : ℤ) → List TouchAt
candidates_at d marks x y = candidates (touched_labels item_bounds x y (marks_in marks)) (blank_area d.name x y)

-- what is chosen at a place of a pane in these contexts
abbrev pub chosen_by : Ground → Slots → Enabled → List TypeSpecTree → PointAt → PaneDecl → PaneMarks → Option Given
chosen_by g slots enabled contexts p d marks = chosen (scene_by g slots enabled) p.gesture contexts (candidates_at d marks p.x p.y)

-- what is chosen in a world
abbrev pub chosen_at : Ground → World → List TypeSpecTree → PointAt → PaneDecl → PaneMarks → Option Given
chosen_at g w contexts p d marks = chosen_by g w.slots w.enabled contexts p d marks
