-- What gestures do while a dialog is open.
use Rattle.std.specs.Prelude.{ℕ, ◌==◌, if◌then◌else◌, List, [], ◌∷◌, ◌++◌, Option, Some, None, codes}
use Rattle.std.specs.Str.{bytes_eq}
use Rattle.cl_application.specs.App.{command_named, dialog_named}
use Rattle.cl_application.specs.declared.applications.App.{App}
use Rattle.cl_application.specs.declared.declarations.CommandDecl.{CommandDecl}
use Rattle.cl_application.specs.declared.declarations.DialogDecl.{DialogDecl}
use Rattle.cl_dialog.specs.OpenDialog.{OpenDialog}
use Rattle.cl_dialog.specs.Selected.{selected_type, with_selected, with_value}
use Rattle.cl_dialog.specs.Exits.{ExitAt, exit_of}
use Rattle.cl_dialog.specs.Exits as exit
use Rattle.cl_eval.specs.Slots.{Slots}
use Rattle.cl_frame.specs.Ground.{Ground}
use Rattle.cl_line.specs.declared.elements.Element.{Element}
use Rattle.cl_parser.specs.One.{OneAt, one_of}
use Rattle.cl_parser.specs.One as one
use Rattle.cl_session.specs.Runs.{Handled, command_outcome, is_on, refuse, run_command, scene_at, tell}
use Rattle.cl_session.specs.World.{World}
use Rattle.cl_session.specs.declared.handling.After.TheVariants as after
use Rattle.cl_syntax.specs.TypeSpecTree.{TypeSpecTree, plain_type}
use Rattle.cl_translate.specs.Choices.{Given}
use Rattle.cl_value.specs.Data.{Data, symbol}

-- ---- input contexts

-- the type of the names of queries, of `exit` and of `abort`
abbrev pub choice_type : TypeSpecTree
choice_type = plain_type (codes "dialog-choice")

-- the type of the selected query, if one is selected
abbrev pub selected_contexts : Option TypeSpecTree → List TypeSpecTree
selected_contexts None = []
selected_contexts (Some spec) = spec ∷ []

-- the innermost first: choices, and then the type of the selected query
abbrev pub dialog_contexts : App → OpenDialog → List TypeSpecTree
dialog_contexts app o = choice_type ∷ selected_contexts (selected_type app o)

-- ---- values of queries

-- the selected query takes a value, and the line is empty then
abbrev pub set_query : World → OpenDialog → (selected : Option (List ℕ)) → Data → Handled
set_query w o None d = refuse w 0 (codes "! query")
set_query w o (Some x) d = record {
  replies = (codes "ok " ++ x) ∷ [];
  world = record w { line = []; dialog = Some (with_value d o) };
  after = after.Commit;
  cost = 0;
}

-- the selected query of the open dialog is set; refused where none is open
abbrev pub set_selected : World → Option OpenDialog → Data → Handled
set_selected w None d = refuse w 0 (codes "! none")
set_selected w (Some o) d = set_query w o o.selected d

-- what the line is read as by a type, if there is one
abbrev pub read_by : Ground → Slots → List Element → Option TypeSpecTree → Option OneAt
read_by g slots line None = None
read_by g slots line (Some spec) = Some (one_of (scene_at g slots) spec line)

-- what the line is read as for the selected query; None where none is selected
abbrev pub read_line : Ground → Slots → List Element → OpenDialog → Option OneAt
read_line g slots line o = read_by g slots line (selected_type g.app o)

-- the line sets the selected query: refused first where none is selected, then where there is no token or it gives no value, then where there is
-- more than one token
abbrev pub return_read : World → Option OpenDialog → Option OneAt → Handled
return_read w dialog None = refuse w 0 (codes "! query")
return_read w dialog (Some (one.Object d)) = set_selected w dialog d
return_read w dialog (Some one.Bad) = refuse w 0 (codes "! bad 1")
return_read w dialog (Some one.Surplus) = refuse w 0 (codes "! surplus")

-- the line is the value of the selected query
abbrev pub return_in_dialog : Ground → World → OpenDialog → Handled
return_in_dialog g w o = return_read w (Some o) (read_line g w.slots w.line o)

-- ---- choices

-- a query is selected, and nothing is settled
abbrev pub select_query : World → Option OpenDialog → List ℕ → Handled
select_query w None x = refuse w 0 (codes "! none")
select_query w (Some o) x = tell (record w { dialog = Some (with_selected x o) }) 0 ((codes "query " ++ x) ∷ [])

-- the dialog is closed, and the line stays
abbrev pub abort : World → Handled
abort w = record { replies = codes "aborted" ∷ []; world = record w { dialog = None }; after = after.Commit; cost = 0 }

-- a command is run with these values; refused where there is none, or where it is disabled
abbrev pub exit_command : Ground → World → List Data → Option CommandDecl → Handled
exit_command g w ds None = refuse w 0 (codes "! none")
exit_command g w ds (Some command) =
    if is_on w command then run_command g.app command.line_name w (command_outcome g command ds w.slots) else refuse w 0 (codes "! disabled")

-- the dialog's command is run with the values of the queries: refused first where a query that is shown has none, then where the command is disabled
abbrev pub exit_with : Ground → World → DialogDecl → ExitAt → Handled
exit_with g w d (exit.Unset x) = refuse w 0 (codes "! unset " ++ x)
exit_with g w d (exit.Runs ds) = exit_command g w ds (command_named d.command g.app)

-- the open dialog ends with its command; refused where it is not declared
abbrev pub exit_declared : Ground → World → OpenDialog → Option DialogDecl → Handled
exit_declared g w o None = refuse w 0 (codes "! none")
exit_declared g w o (Some d) = exit_with g w d (exit_of g.app d w.slots o)

-- the open dialog, if one is open, ends with its command
abbrev pub exit_dialog : Ground → World → Option OpenDialog → Handled
exit_dialog g w None = refuse w 0 (codes "! none")
exit_dialog g w (Some o) = exit_declared g w o (dialog_named o.name g.app)

-- what a choice does: `[Abort]`, `[Exit]`, or the line of a query
abbrev pub choose_named : Ground → World → Option OpenDialog → List ℕ → Handled
choose_named g w dialog x =
    if bytes_eq x (codes "abort") then abort w else (if bytes_eq x (codes "exit") then exit_dialog g w dialog else select_query w dialog x)

-- a choice is a symbol; what is none is refused
abbrev pub choose : Ground → World → Option OpenDialog → Data → Handled
choose g w dialog (symbol x) = choose_named g w dialog x
choose g w dialog d = refuse w 0 (codes "! none")

-- what is pointed at: a choice, or an object for the selected query
abbrev pub answer : Ground → World → Option OpenDialog → Option Given → Handled
answer g w dialog None = refuse w 0 (codes "! none")
answer g w dialog (Some r) = if r.number == 0 then choose g w dialog r.value else set_selected w dialog r.value
