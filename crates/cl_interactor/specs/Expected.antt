-- What a person is expected to give next, in words.
use Rattle.std.specs.Prelude.{ℕ, zero, suc, ◌+◌, List, codes, length, Option, None, Some}
use Rattle.cl_application.specs.App.{command_named, dialog_named}
use Rattle.cl_application.specs.declared.applications.App.{App}
use Rattle.cl_application.specs.declared.declarations.ArgumentDecl.{ArgumentDecl}
use Rattle.cl_application.specs.declared.declarations.CommandDecl.{CommandDecl}
use Rattle.cl_application.specs.declared.declarations.DialogDecl.{DialogDecl}
use Rattle.cl_dialog.specs.OpenDialog.{OpenDialog}
use Rattle.cl_dialog_forms.specs.Forms.{arguments_of}
use Rattle.cl_line.specs.Lines.{front, front_start}
use Rattle.cl_line.specs.Places.{line_slot}
use Rattle.cl_line.specs.declared.elements.Element.{Element}
use Rattle.cl_line.specs.declared.places.LineSlot.{LineSlot}
use Rattle.cl_line.specs.declared.places.LineSlot.TheVariants.{Name, Arg, Past}
use Rattle.cl_line.specs.declared.places.Named.{Named}
use Rattle.cl_table.specs.Names.{declared_at, named}
use Rattle.cl_tables.specs.Lookups.{Sight, line_command}
use Rattle.cl_tables.specs.declared.declarations.CommandPlace.{CommandPlace}

-- the declaration of a command that a table sees
abbrev pub declared_by : App → Option CommandPlace → Option CommandDecl
declared_by app None = None
declared_by app (Some p) = command_named p.name app

-- the command that a line names, of those that the frame's command table sees
abbrev pub command_seen : App → Sight → List Element → Option CommandDecl
command_seen app sight line = declared_by app (line_command (front line) sight.commands)

-- the name of a command in a line: where it ends, and how many arguments the command takes
abbrev pub named_in : CommandDecl → List Element → Named
named_in command line = record { end = front_start line + length command.line_name; arguments = length command.arguments }

-- an argument is expected by its prompt; where there is none the line is to be ended
abbrev pub argument_words : Option ArgumentDecl → List ℕ
argument_words None = codes "return"
argument_words (Some a) = a.prompt

-- the argument of this number, from 1
abbrev pub numbered_words : CommandDecl → ℕ → List ℕ
numbered_words command zero = codes "return"
numbered_words command (suc place) = argument_words (declared_at place command.arguments)

-- what is expected at a place of a line with this command
abbrev pub words_at : CommandDecl → LineSlot → List ℕ
words_at command Name = codes "a command"
words_at command (Arg number) = numbered_words command number
words_at command Past = codes "return"

-- what is expected of a line, by the command that it names
abbrev pub words_of_line : List Element → Option CommandDecl → List ℕ
words_of_line line None = codes "a command"
words_of_line line (Some command) = words_at command (line_slot (Some (named_in command line)) line)

-- what is expected of a line
abbrev pub expected_in_line : App → Sight → List Element → List ℕ
expected_in_line app sight line = words_of_line line (command_seen app sight line)

-- ---- while a dialog is open

-- the argument of this name of a dialog's command
abbrev pub argument_declared : App → List ℕ → Option DialogDecl → Option ArgumentDecl
argument_declared app x None = None
argument_declared app x (Some d) = named x (arguments_of app d)

-- the argument of a name, if one is given, of a dialog's command
abbrev pub argument_named : App → Option DialogDecl → Option (List ℕ) → Option ArgumentDecl
argument_named app d None = None
argument_named app d (Some x) = argument_declared app x d

-- the argument of the query that is selected, by the dialog's declaration
abbrev pub argument_selected : App → OpenDialog → Option ArgumentDecl
argument_selected app dialog = argument_named app (dialog_named dialog.name app) dialog.selected

-- a query is expected by the prompt of its argument; where none is selected one is to be selected
abbrev pub query_words : Option ArgumentDecl → List ℕ
query_words None = codes "a query"
query_words (Some a) = a.prompt

-- what is expected of the open dialog: the prompt of the selected query
abbrev pub expected_in_dialog : App → OpenDialog → List ℕ
expected_in_dialog app dialog = query_words (argument_selected app dialog)

-- what is expected next: in the dialog, where one is open, and else of the line
abbrev pub expected_words : App → Sight → List Element → Option OpenDialog → List ℕ
expected_words app sight line None = expected_in_line app sight line
expected_words app sight line (Some dialog) = expected_in_dialog app dialog
