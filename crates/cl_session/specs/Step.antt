-- The step of a world by a gesture: the next world and the lines that are said of it.
use Rattle.std.specs.Prelude.{ℕ, ◌+◌, ◌==◌, Bool, true, false, nat_le, if◌then◌else◌, List, [], ◌∷◌, ◌++◌, length, map, Option, Some, None, codes}
use Rattle.std.specs.Fmt.{decimal}
use Rattle.std.specs.Str.{str_eq_ignore_ascii_case}
use Rattle.cl_application.specs.App.{command_named}
use Rattle.cl_application.specs.Panes.{panes_of}
use Rattle.cl_application.specs.declared.declarations.ArgumentDecl.{ArgumentDecl}
use Rattle.cl_application.specs.declared.declarations.CommandDecl.{CommandDecl}
use Rattle.cl_application.specs.declared.declarations.PaneDecl.{PaneDecl}
use Rattle.cl_dialog.specs.OpenDialog.{OpenDialog}
use Rattle.cl_eval.specs.Outcome.{RisesBy}
use Rattle.cl_eval.specs.Slots.{Slots}
use Rattle.cl_record.specs.Lines.{item_line, lines_from}
use Rattle.cl_redisplay.specs.Shown.{Shown, shown_ink_rows, shown_rows}
use Rattle.cl_frame.specs.Ground.{Ground}
use Rattle.cl_frame.specs.Panes.{PaneMarks, marks_in, shown_panes}
use Rattle.cl_frame.specs.Sending.{update_bytes}
use Rattle.cl_frame.specs.Settling.{PaneStep, SpendsPanes, costs, marks_after, report_after, settle_panes}
use Rattle.cl_frame.specs.declared.reports.PaneReport.{PaneReport}
use Rattle.cl_frame.specs.declared.reports.PaneReport.TheVariants as report
use Rattle.cl_frame.specs.declared.settling.Which.{Which}
use Rattle.cl_frame.specs.declared.settling.Which.TheVariants as which
use Rattle.cl_gesture.specs.declared.answers.Gesture.{Gesture}
use Rattle.cl_gesture.specs.declared.answers.Gesture.TheVariants as gesture
use Rattle.cl_gesture.specs.declared.answers.PointAt.{PointAt}
use Rattle.cl_line.specs.Elements.{typed}
use Rattle.cl_line.specs.Lines.{without_last}
use Rattle.cl_line.specs.declared.lines.TheConstants.{MAX_ELEMENTS}
use Rattle.cl_line.specs.declared.elements.Element.{Element}
use Rattle.cl_parser.specs.Parses.{decls_of, parse, without_tokens}
use Rattle.cl_parser.specs.declared.parsing.Parsed.{Parsed}
use Rattle.cl_parser.specs.declared.parsing.Parsed.TheVariants as parsed
use Rattle.cl_session.specs.declared.handling.After.{After}
use Rattle.cl_session.specs.declared.handling.After.TheVariants as after
use Rattle.cl_session.specs.Naming.{command_of_line, command_of_stroke, tokens_of_line}
use Rattle.cl_session.specs.Dialogs.{answer, dialog_contexts, return_in_dialog}
use Rattle.cl_eval.specs.Operators.{list_of}
use Rattle.cl_session.specs.Pointing.{TypedArgument, chosen_at, contexts_of, is_within, line_with, typed_in}
use Rattle.cl_session.specs.Runs.{Handled, bad_line, command_outcome, is_on, refuse, run_command, scene_at, tell}
use Rattle.cl_session.specs.World.{World, state_in}
use Rattle.cl_table.specs.Names.{declared_at}
use Rattle.cl_translate.specs.Choices.{Given}
use Rattle.cl_value.specs.Data.{Data, symbol, list, item}

-- What met want of memory in a gesture: its handling, and the settling of each pane, in order; and whether the device failed.
pub record Met : Type 0 where
  pub handling : Bool
  pub panes : List Bool
  pub wire : Bool

-- ---- the handling

-- the characters stand behind the line, where that has room for them
abbrev pub type_text : World → List ℕ → Handled
type_text w text =
    if nat_le (length (w.line ++ typed text)) MAX_ELEMENTS
    then tell (record w { line = w.line ++ typed text }) 0 []
    else refuse w 0 (codes "! full")

-- the line loses its last element
abbrev pub rub_out : World → Handled
rub_out w = tell (record w { line = without_last w.line }) 0 []

-- the line loses all its elements
abbrev pub clear_line : World → Handled
clear_line w = tell (record w { line = [] }) 0 []

-- the name of an argument; empty where there is none
abbrev pub name_of : Option ArgumentDecl → List ℕ
name_of None = []
name_of (Some a) = a.name

-- an argument that has neither a token nor a default
abbrev pub need_line : CommandDecl → ℕ → List ℕ
need_line command place = codes "! need " ++ name_of (declared_at place command.arguments)

-- a command by what its tokens are read as
abbrev pub finish_parsed : Ground → World → CommandDecl → Parsed → Handled
finish_parsed g w command (parsed.Arguments ds) = run_command g.app command.line_name w (command_outcome g command ds w.slots)
finish_parsed g w command (parsed.Need place) = refuse w 0 (need_line command place)
finish_parsed g w command (parsed.BadArg number) = refuse w 0 (bad_line number)
finish_parsed g w command parsed.Surplus = refuse w 0 (codes "! surplus")

-- what the tokens of a line are read as, for a command
abbrev pub parsed_line : Ground → Slots → List Element → CommandDecl → Parsed
parsed_line g slots line command = parse (scene_at g slots) line (tokens_of_line command line) (decls_of command.arguments)

-- the line of a command is run, where the command is enabled
abbrev pub finish_named : Ground → World → CommandDecl → Handled
finish_named g w command =
    if is_on w command then finish_parsed g w command (parsed_line g w.slots w.line command) else refuse w 0 (codes "! disabled")

-- the command that the line names, if it names one
abbrev pub finish_by : Ground → World → Option CommandDecl → Handled
finish_by g w None = refuse w 0 (codes "! unknown")
finish_by g w (Some command) = finish_named g w command

-- the line is run as a command
abbrev pub finish_line : Ground → World → Handled
finish_line g w = finish_by g w (command_of_line g.app w.line)

-- ---- keystrokes

-- these characters as a line, where it has room for them
abbrev pub line_of : List ℕ → List Element
line_of text = if nat_le (length (typed text)) MAX_ELEMENTS then typed text else []

-- a command that needs an argument is typed, and a space behind it
abbrev pub stroke_parsed : Ground → World → CommandDecl → Parsed → Handled
stroke_parsed g w command (parsed.Need place) =
    tell (record w { line = line_of (command.line_name ++ 32 ∷ []) }) 0 (need_line command place ∷ [])
stroke_parsed g w command (parsed.Arguments ds) = finish_parsed g w command (parsed.Arguments ds)
stroke_parsed g w command (parsed.BadArg number) = finish_parsed g w command (parsed.BadArg number)
stroke_parsed g w command parsed.Surplus = finish_parsed g w command parsed.Surplus

-- a command with all its defaults
abbrev pub stroke_named : Ground → World → CommandDecl → Handled
stroke_named g w command =
    if is_on w command then stroke_parsed g w command (without_tokens g.app 0 [] (decls_of command.arguments)) else refuse w 0 (codes "! disabled")

-- the command of the keystroke, if there is one
abbrev pub stroke_by : Ground → World → Option CommandDecl → Handled
stroke_by g w None = refuse w 0 (codes "! stroke")
stroke_by g w (Some command) = stroke_named g w command

-- the command of this keystroke is run
abbrev pub press : Ground → World → List ℕ → Handled
press g w stroke = stroke_by g w (command_of_stroke g.app stroke)

-- what the screen shows, and where
abbrev pub shown_in : Ground → World → List Shown
shown_in g w = shown_panes (panes_of g.app) w.panes

-- the rows of the screen, by their glyphs and by their inks
abbrev pub glyph_rows : Ground → World → List (List ℕ)
glyph_rows g w = shown_rows (shown_in g w) g.app.frame.width g.app.frame.height

-- the rows of the screen by their inks
abbrev pub ink_rows : Ground → World → List (List ℕ)
ink_rows g w = shown_ink_rows (shown_in g w) g.app.frame.width g.app.frame.height

-- `history NAME N` and N lines
abbrev pub headed_lines : List ℕ → List (List ℕ) → List (List ℕ)
headed_lines name lines = (codes "history " ++ name ++ 32 ∷ decimal (length lines)) ∷ lines

-- the lines of the history of a pane
abbrev pub history_rows : List ℕ → PaneMarks → List (List ℕ)
history_rows name marks = headed_lines name (lines_from item_line 0 (marks_in marks))

-- what is done with the first pane of this name, without regard to case
abbrev pub with_pane : (PaneDecl → PaneMarks → Handled) → World → List PaneDecl → List PaneMarks → List ℕ → Handled
with_pane does w [] marks name = refuse w 0 (codes "! pane")
with_pane does w (d ∷ ds) [] name = refuse w 0 (codes "! pane")
with_pane does w (d ∷ ds) (m ∷ ms) name = if str_eq_ignore_ascii_case name d.name then does d m else with_pane does w ds ms name

-- the history of a pane
abbrev pub tell_history : World → List PaneDecl → List PaneMarks → List ℕ → Handled
tell_history w ds ms name = with_pane (λ d m. tell w 0 (history_rows d.name m)) w ds ms name

-- ---- the pointer

-- the reply to an object for an argument
abbrev pub got_line : ℕ → List ℕ
got_line number = codes "got " ++ decimal number

-- an object is put into the line, where that has room for it
abbrev pub take_object : World → TypedArgument → Data → Handled
take_object w t d =
    if nat_le (length (line_with t d w.line)) MAX_ELEMENTS
    then tell (record w { line = line_with t d w.line }) 0 (got_line t.number ∷ [])
    else refuse w 0 (codes "! full")

-- a command is run with these values; refused where there is none
abbrev pub run_named : Ground → World → List Data → Option CommandDecl → Handled
run_named g w ds None = refuse w 0 (codes "! none")
run_named g w ds (Some command) = run_command g.app command.line_name w (command_outcome g command ds w.slots)

-- a command with all its arguments is run; what is none is not
abbrev pub run_chosen : Ground → World → Data → Handled
run_chosen g w (list (item (symbol x) ds)) = run_named g w (list_of ds) (command_named x g.app)
run_chosen g w d = refuse w 0 (codes "! none")

-- what is chosen for an argument is put into the line, and a command is run
abbrev pub act_on : Ground → World → Option TypedArgument → Option Given → Handled
act_on g w t None = refuse w 0 (codes "! none")
act_on g w None (Some r) = run_chosen g w r.value
act_on g w (Some t) (Some r) = if r.number == 0 then take_object w t r.value else run_chosen g w r.value

-- a place within a pane is pointed at, while a dialog is open or not
abbrev pub point_within : Ground → World → PointAt → PaneDecl → PaneMarks → Option OpenDialog → Handled
point_within g w p d m None = act_on g w (typed_in g.app w.line) (chosen_at g w (contexts_of (typed_in g.app w.line)) p d m)
point_within g w p d m (Some o) = answer g w (Some o) (chosen_at g w (dialog_contexts g.app o) p d m)

-- a place of a pane is pointed at; refused where it lies outside
abbrev pub point_at : Ground → World → PointAt → PaneDecl → PaneMarks → Handled
point_at g w p d m = if is_within d p.x p.y then point_within g w p d m w.dialog else refuse w 0 (codes "! outside")

-- a place of the pane of this name is pointed at
abbrev pub point : Ground → World → PointAt → Handled
point g w p = with_pane (point_at g w p) w (panes_of g.app) w.panes p.pane

-- the line is a command, or the value of a query of the open dialog
abbrev pub return_by : Ground → World → Option OpenDialog → Handled
return_by g w None = finish_line g w
return_by g w (Some o) = return_in_dialog g w o

-- while a dialog is open no keystroke runs a command
abbrev pub press_by : Ground → World → List ℕ → Option OpenDialog → Handled
press_by g w name None = press g w name
press_by g w name (Some o) = refuse w 0 (codes "! dialog")

-- what the handling of a gesture does
abbrev pub handled : Ground → World → Gesture → Handled
handled g w (gesture.«Type» text) = type_text w text
handled g w gesture.Return = return_by g w w.dialog
handled g w gesture.Rubout = rub_out w
handled g w gesture.Clear = clear_line w
handled g w gesture.Frame = tell w 0 (glyph_rows g w)
handled g w gesture.Inks = tell w 0 (ink_rows g w)
handled g w (gesture.Stroke name) = press_by g w name w.dialog
handled g w (gesture.History name) = tell_history w (panes_of g.app) w.panes name
handled g w (gesture.Point p) = point g w p
handled g w gesture.Force = record { replies = []; world = w; after = after.Force; cost = 0 }

-- a handling that met want of memory changes nothing
abbrev pub handled_or_not : Ground → World → Gesture → (met : Bool) → Handled
handled_or_not g w act true = refuse w 0 (codes "! memory")
handled_or_not g w act false = handled g w act

-- ---- the panes behind it

-- all panes are settled where a command committed or a dialog was set or closed, all anew at `force`, and else those that are blank for want of memory
abbrev pub which_after : After → Which
which_after after.Nothing = which.Blank
which_after after.Commit = which.All
which_after after.Force = which.Force

-- what becomes of the panes behind a handling
abbrev pub settled_behind : Ground → Handled → (mets : List Bool) → List PaneStep
settled_behind g h mets = settle_panes g (which_after h.after) (state_in g.app h.world) (panes_of g.app) h.world.panes mets

-- `pane NAME kept K moved M`
abbrev pub report_head : List ℕ → (kept moved : ℕ) → List ℕ
report_head name kept moved = codes "pane " ++ name ++ codes " kept " ++ decimal kept ++ codes " moved " ++ decimal moved

-- ` drawn D erased E`
abbrev pub report_tail : (drawn erased : ℕ) → List ℕ
report_tail drawn erased = codes " drawn " ++ decimal drawn ++ codes " erased " ++ decimal erased

-- the line of a pane that shows its display
abbrev pub report_line : List ℕ → (kept moved drawn erased : ℕ) → List ℕ
report_line name kept moved drawn erased = report_head name kept moved ++ report_tail drawn erased

-- the line of a pane whose display trapped
abbrev pub trap_line : List ℕ → ℕ → List ℕ
trap_line name kind = codes "pane " ++ name ++ codes " trap " ++ decimal kind

-- the line of a pane that met want of memory
abbrev pub memory_line : List ℕ → List ℕ
memory_line name = codes "pane " ++ name ++ codes " memory"

-- the line of a pane of this name, where it was settled
abbrev pub report_lines : List ℕ → PaneReport → List (List ℕ)
report_lines name (report.Shown r) = report_line name r.kept r.moved r.drawn r.erased ∷ []
report_lines name (report.Trapped k) = trap_line name k ∷ []
report_lines name report.Memory = memory_line name ∷ []
report_lines name report.Quiet = []

-- the lines of all panes, in order of declaration
abbrev pub pane_lines : List PaneDecl → List PaneReport → List (List ℕ)
pane_lines [] rs = []
pane_lines (d ∷ ds) [] = []
pane_lines (d ∷ ds) (r ∷ rs) = report_lines d.name r ++ pane_lines ds rs

-- `! wire`, where the device failed
abbrev pub wire_lines : Bool → List (List ℕ)
wire_lines true = codes "! wire" ∷ []
wire_lines false = []

-- ---- the step

-- what a gesture comes to: the next world, the lines that are said, and the cost
pub record Next : Type 0 where
  pub world : World
  pub lines : List (List ℕ)
  pub cost : ℕ

-- a handling, and then the panes: a screen that was stale before is redrawn in full at the end, so it is stale then exactly where the
-- device failed in this gesture
abbrev pub next_behind : Ground → Handled → List PaneStep → (failed : Bool) → Next
next_behind g h steps failed = record {
  world = record h.world { panes = map marks_after steps; stale = failed };
  lines = h.replies ++ (pane_lines (panes_of g.app) (map report_after steps) ++ wire_lines failed);
  cost = h.cost + costs steps;
}

-- what a gesture comes to, by what met want of memory in it
abbrev pub next : Ground → World → Gesture → Met → Next
next g w act met =
    next_behind g (handled_or_not g w act met.handling) (settled_behind g (handled_or_not g w act met.handling) met.panes) met.wire

-- what is sent to the device after a handling: what is touched of the panes that were settled, or the whole screen after a line feed where it was
-- stale, since its device is broken then
abbrev pub sent_behind : Ground → Handled → List PaneStep → List ℕ
sent_behind g h steps = update_bytes g (which_after h.after) (state_in g.app h.world) h.world.stale h.world.stale h.world.panes (map marks_after steps)

-- what is sent in a gesture
abbrev pub gesture_bytes : Ground → World → Gesture → Met → List ℕ
gesture_bytes g w act met = sent_behind g (handled_or_not g w act met.handling) (settled_behind g (handled_or_not g w act met.handling) met.panes)

-- the ledger rises by the cost of what the handling ran, and then by the costs of what was drawn anew of the panes that were settled; by
-- no more, where one of these met want of memory
pub record Spends (g : Ground) (w : World) (act : Gesture) (met : Met) (old new : ℕ) : Type 0 where
  pub handled_at : ℕ
  pub handling : RisesBy met.handling old handled_at (handled g w act).cost
  pub settling : SpendsPanes (settled_behind g (handled_or_not g w act met.handling) met.panes) handled_at new
