-- The commands of an application, as lines and keystrokes name them.
use Rattle.std.specs.Prelude.{ℕ, ◌+◌, List, length, map, Option, Some, None}
use Rattle.std.specs.Str.{str_to_ascii_lowercase}
use Rattle.cl_application.specs.App.{command_named}
use Rattle.cl_application.specs.declared.applications.App.{App}
use Rattle.cl_application.specs.declared.declarations.CommandDecl.{CommandDecl}
use Rattle.cl_line.specs.Lines.{front, front_start}
use Rattle.cl_line.specs.Tokens.{tokens_behind}
use Rattle.cl_line.specs.declared.elements.Element.{Element}
use Rattle.cl_line.specs.declared.tokens.Token.{Token}
use Rattle.cl_tables.specs.Accessible.{CommandPlaces}
use Rattle.cl_tables.specs.Lookups.{Sight, line_command, sight_of, stroke_command}
use Rattle.cl_tables.specs.declared.declarations.CommandPlace.{CommandPlace}

-- where a command stands
abbrev pub place_of : CommandDecl → CommandPlace
place_of c = record { name = c.name; line_name = c.line_name; table = c.table; keystroke = c.keystroke }

-- what tables see of commands
abbrev pub places_of : List (List ℕ × CommandDecl) → CommandPlaces
places_of commands = map (λ e. (e.0, place_of e.1)) commands

-- what the frame's command table sees
abbrev pub sight_in : App → Sight
sight_in app = sight_of app.tables (places_of app.commands) app.frame.table

-- the command of a name, if one is given
abbrev pub named_by : App → Option (List ℕ) → Option CommandDecl
named_by app None = None
named_by app (Some x) = command_named x app

-- the declaration of a command that a table sees
abbrev pub declared_by : App → Option CommandPlace → Option CommandDecl
declared_by app None = None
declared_by app (Some p) = command_named p.name app

-- the command that a line names
abbrev pub command_of_line : App → List Element → Option CommandDecl
command_of_line app line = declared_by app (line_command (front line) (sight_in app).commands)

-- the command of a keystroke, which is written without regard to case
abbrev pub command_of_stroke : App → List ℕ → Option CommandDecl
command_of_stroke app stroke = named_by app (stroke_command (str_to_ascii_lowercase stroke) (sight_in app).commands)

-- the tokens of a line behind the name of its command
abbrev pub tokens_of_line : CommandDecl → List Element → List Token
tokens_of_line command line = tokens_behind (front_start line + length command.line_name) line
