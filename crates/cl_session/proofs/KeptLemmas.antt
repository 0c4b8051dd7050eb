-- What a handling keeps of its world.
use Rattle.std.proofs.Common.{◌≡◌, ◌==◌, ℕ, Bool, true, false, List, [], ◌∷◌, ◌++◌, length, get_or, Option, Some, None, arith, refl, ap}
use Rattle.std.specs.Prelude.{nat_le, codes, if◌then◌else◌}
use Rattle.std.specs.Str.{bytes_eq, str_eq_ignore_ascii_case}
use Rattle.cl_application.specs.App.{command_named, dialog_named}
use Rattle.cl_application.specs.Panes.{panes_of}
use Rattle.cl_application.specs.declared.applications.App.{App}
use Rattle.cl_application.specs.declared.declarations.CommandDecl.{CommandDecl}
use Rattle.cl_application.specs.declared.declarations.DialogDecl.{DialogDecl}
use Rattle.cl_application.specs.declared.declarations.PaneDecl.{PaneDecl}
use Rattle.cl_dialog.specs.OpenDialog.{OpenDialog}
use Rattle.cl_dialog.specs.Selected.{with_selected}
use Rattle.cl_dialog.specs.Exits.{ExitAt, exit_of}
use Rattle.cl_dialog.specs.Exits as exit
use Rattle.cl_eval.specs.Outcome.{Outcome, Gives, Traps}
use Rattle.cl_eval.specs.declared.effects.Effects.{Effects}
use Rattle.cl_frame.specs.Ground.{Ground}
use Rattle.cl_frame.specs.Panes.{PaneMarks}
use Rattle.cl_frame.specs.States.{StateAt}
use Rattle.cl_gesture.specs.declared.answers.Gesture.{Gesture}
use Rattle.cl_gesture.specs.declared.answers.Gesture.TheVariants as gesture
use Rattle.cl_gesture.specs.declared.answers.PointAt.{PointAt}
use Rattle.cl_line.specs.Elements.{typed}
use Rattle.cl_line.specs.Lines.{without_last}
use Rattle.cl_line.specs.declared.elements.Element.{Element}
use Rattle.cl_line.specs.declared.lines.TheConstants.{MAX_ELEMENTS}
use Rattle.cl_parser.specs.One.{OneAt}
use Rattle.cl_parser.specs.One as one
use Rattle.cl_parser.specs.Parses.{decls_of, without_tokens}
use Rattle.cl_parser.specs.declared.parsing.Parsed.{Parsed}
use Rattle.cl_parser.specs.declared.parsing.Parsed.TheVariants as parsed
use Rattle.cl_session.specs.Dialogs.{abort, answer, choose, choose_named, dialog_contexts, exit_command, exit_declared, exit_dialog, exit_with}
use Rattle.cl_session.specs.Dialogs.{read_line, return_read, select_query, set_query, set_selected}
use Rattle.cl_session.specs.Naming.{command_of_line, command_of_stroke}
use Rattle.cl_eval.specs.Operators.{list_of}
use Rattle.cl_session.specs.Pointing.{TypedArgument, chosen_at, contexts_of, is_within, line_with, typed_in}
use Rattle.cl_session.specs.Runs.{Handled, bad_line, command_outcome, command_trap_line}
use Rattle.cl_session.specs.Step.{finish_by, finish_named, finish_parsed, handled}
use Rattle.cl_session.specs.Runs.{is_on, refuse, run_command, tell}
use Rattle.cl_session.specs.Step.{handled_or_not, history_rows, need_line, parsed_line, stroke_by, stroke_parsed}
use Rattle.cl_session.specs.Step.{tell_history}
use Rattle.cl_session.specs.Step.{act_on, got_line, point_at, point_within, press_by, return_by, run_chosen, run_named, take_object, with_pane}
use Rattle.cl_session.specs.World.{World, state_in}
use Rattle.cl_session.specs.declared.handling.After.{After}
use Rattle.cl_session.specs.declared.handling.After.TheVariants as after
use Rattle.cl_translate.specs.Choices.{Given}
use Rattle.cl_value.specs.Data.{Data, symbol, list, item}

-- what panes show changes only where they are all settled
abbrev pub KeepsState : After → (old new : StateAt) → Type 0
KeepsState after.Nothing old new = new ≡ old
KeepsState after.Commit old new = Unit {0}
KeepsState after.Force old new = new ≡ old

-- The panes stay; what they show changes only where they are all settled; and where the one reply is the line of a trap, slots, line, what is enabled
-- and the dialog stay.
pub record Keeps (w : World) (h : Handled) : Type 0 where
  pub panes : h.world.panes ≡ w.panes
  pub state : (app : App) → KeepsState h.after (state_in app w) (state_in app h.world)
  pub trapped : (kind : ℕ) → h.replies ≡ command_trap_line kind ∷ []
      → (h.world.slots ≡ w.slots) × (h.world.line ≡ w.line) × (h.world.enabled ≡ w.enabled) × (h.world.dialog ≡ w.dialog)

keeps_told : (w : World) (cost : ℕ) (replies : List (List ℕ)) → Keeps w (tell w cost replies)
keeps_told w cost replies = record { panes = refl; state = λ app. refl; trapped = λ kind e. (refl, refl, refl, refl) }

-- no lines are not one line
none_is_one : {A : Type 0} (x : A) → ◌≡◌ {A = List A} [] (x ∷ []) → ⊥
none_is_one x e = cc

keeps_line : (w : World) (line : List Element) → Keeps w (tell (record w { line = line }) 0 [])
keeps_line w line = record { panes = refl; state = λ app. refl; trapped = λ kind e. absurd (none_is_one (command_trap_line kind) e) }

keeps_if : (w : World) (b : Bool) (h k : Handled) → Keeps w h → Keeps w k → Keeps w (if b then h else k)
keeps_if w true h k p q = p
keeps_if w false h k p q = q

-- the first line of a run is not that of a trap
ok_is_no_trap : (name : List ℕ) (rest : List (List ℕ)) (kind : ℕ) → ◌≡◌ {A = List (List ℕ)} ((codes "ok " ++ name) ∷ rest) (command_trap_line kind ∷ []) → ⊥
ok_is_no_trap name rest kind e =
    let first = ap (λ (l : List (List ℕ)). get_or (get_or l 0 []) 0 0) e in omega (arith, first)

keeps_run : (app : App) (name : List ℕ) (w : World) (o : Outcome Effects) → Keeps w (run_command app name w o)
keeps_run app name w (Gives effects cost deepest) = record { panes = refl; state = λ a. tt; trapped = λ kind e. absurd (ok_is_no_trap name _ kind e) }
keeps_run app name w (Traps kind cost deepest) = keeps_told w cost (command_trap_line kind ∷ [])

keeps_parsed : (g : Ground) (w : World) (command : CommandDecl) (p : Parsed) → Keeps w (finish_parsed g w command p)
keeps_parsed g w command (parsed.Arguments ds) = keeps_run g.app command.line_name w (command_outcome g command ds w.slots)
keeps_parsed g w command (parsed.Need place) = keeps_told w 0 (need_line command place ∷ [])
keeps_parsed g w command (parsed.BadArg number) = keeps_told w 0 (bad_line number ∷ [])
keeps_parsed g w command parsed.Surplus = keeps_told w 0 (codes "! surplus" ∷ [])

disabled_told : (w : World) → Keeps w (refuse w 0 (codes "! disabled"))
disabled_told w = keeps_told w 0 (codes "! disabled" ∷ [])

keeps_named : (g : Ground) (w : World) (command : CommandDecl) → Keeps w (finish_named g w command)
keeps_named g w command =
    keeps_if w (is_on w command) (finish_parsed g w command (parsed_line g w.slots w.line command)) (refuse w 0 (codes "! disabled"))
    (keeps_parsed g w command (parsed_line g w.slots w.line command)) (disabled_told w)

keeps_finished : (g : Ground) (w : World) (c : Option CommandDecl) → Keeps w (finish_by g w c)
keeps_finished g w None = keeps_told w 0 (codes "! unknown" ∷ [])
keeps_finished g w (Some command) = keeps_named g w command

-- that an argument is needed is not the line of a trap
need_is_no_trap : (command : CommandDecl) (place kind : ℕ) → ◌≡◌ {A = List (List ℕ)} (need_line command place ∷ []) (command_trap_line kind ∷ []) → ⊥
need_is_no_trap command place kind e =
    let third = ap (λ (l : List (List ℕ)). get_or (get_or l 0 []) 2 0) e in omega (arith, third)

keeps_stroke : (g : Ground) (w : World) (command : CommandDecl) (p : Parsed) → Keeps w (stroke_parsed g w command p)
keeps_stroke g w command (parsed.Need place) =
    record { panes = refl; state = λ app. refl; trapped = λ kind e. absurd (need_is_no_trap command place kind e) }
keeps_stroke g w command (parsed.Arguments ds) = keeps_parsed g w command (parsed.Arguments ds)
keeps_stroke g w command (parsed.BadArg number) = keeps_parsed g w command (parsed.BadArg number)
keeps_stroke g w command parsed.Surplus = keeps_parsed g w command parsed.Surplus

keeps_pressed : (g : Ground) (w : World) (c : Option CommandDecl) → Keeps w (stroke_by g w c)
keeps_pressed g w None = keeps_told w 0 (codes "! stroke" ∷ [])
keeps_pressed g w (Some command) =
    keeps_if w (is_on w command) (stroke_parsed g w command (without_tokens g.app 0 [] (decls_of command.arguments))) (refuse w 0 (codes "! disabled"))
    (keeps_stroke g w command (without_tokens g.app 0 [] (decls_of command.arguments))) (disabled_told w)

keeps_pane : (does : PaneDecl → PaneMarks → Handled) (w : World) (ds : List PaneDecl) (ms : List PaneMarks) (name : List ℕ)
    → ((d : PaneDecl) (m : PaneMarks) → Keeps w (does d m)) → Keeps w (with_pane does w ds ms name)
keeps_pane does w [] ms name each = keeps_told w 0 (codes "! pane" ∷ [])
keeps_pane does w (d ∷ ds) [] name each = keeps_told w 0 (codes "! pane" ∷ [])
keeps_pane does w (d ∷ ds) (m ∷ ms) name each =
    keeps_if w (str_eq_ignore_ascii_case name d.name) (does d m) (with_pane does w ds ms name) (each d m) (keeps_pane does w ds ms name each)

keeps_history : (w : World) (ds : List PaneDecl) (ms : List PaneMarks) (name : List ℕ) → Keeps w (tell_history w ds ms name)
keeps_history w ds ms name = keeps_pane (λ d m. tell w 0 (history_rows d.name m)) w ds ms name (λ d m. keeps_told w 0 (history_rows d.name m))

-- ---- the pointer

-- that an object was taken is not the line of a trap
got_is_no_trap : (number kind : ℕ) → ◌≡◌ {A = List (List ℕ)} (got_line number ∷ []) (command_trap_line kind ∷ []) → ⊥
got_is_no_trap number kind e =
    let first = ap (λ (l : List (List ℕ)). get_or (get_or l 0 []) 0 0) e in omega (arith, first)

keeps_none : (w : World) → Keeps w (refuse w 0 (codes "! none"))
keeps_none w = keeps_told w 0 (codes "! none" ∷ [])

keeps_taken : (w : World) (t : TypedArgument) (d : Data) → Keeps w (take_object w t d)
keeps_taken w t d =
    keeps_if w (nat_le (length (line_with t d w.line)) MAX_ELEMENTS) (tell (record w { line = line_with t d w.line }) 0 (got_line t.number ∷ []))
    (refuse w 0 (codes "! full"))
    (record { panes = refl; state = λ app. refl; trapped = λ kind e. absurd (got_is_no_trap t.number kind e) })
    (keeps_told w 0 (codes "! full" ∷ []))

keeps_run_named : (g : Ground) (w : World) (ds : List Data) (c : Option CommandDecl) → Keeps w (run_named g w ds c)
keeps_run_named g w ds None = keeps_none w
keeps_run_named g w ds (Some command) = keeps_run g.app command.line_name w (command_outcome g command ds w.slots)

keeps_chosen : (g : Ground) (w : World) (d : Data) → Keeps w (run_chosen g w d)
keeps_chosen g w (list (item (symbol x) ds)) = keeps_run_named g w (list_of ds) (command_named x g.app)
keeps_chosen g w d = keeps_none w

keeps_acted : (g : Ground) (w : World) (t : Option TypedArgument) (r : Option Given) → Keeps w (act_on g w t r)
keeps_acted g w None None = keeps_none w
keeps_acted g w (Some t) None = keeps_none w
keeps_acted g w None (Some r) = keeps_chosen g w r.value
keeps_acted g w (Some t) (Some r) =
    keeps_if w (r.number == 0) (take_object w t r.value) (run_chosen g w r.value) (keeps_taken w t r.value) (keeps_chosen g w r.value)

-- ---- dialogs

-- a reply of these words and a name is not the line of a trap
ok_name_is_no_trap : (name : List ℕ) (kind : ℕ) → ◌≡◌ {A = List (List ℕ)} ((codes "ok " ++ name) ∷ []) (command_trap_line kind ∷ []) → ⊥
ok_name_is_no_trap name kind e = ok_is_no_trap name [] kind e

query_is_no_trap : (name : List ℕ) (kind : ℕ) → ◌≡◌ {A = List (List ℕ)} ((codes "query " ++ name) ∷ []) (command_trap_line kind ∷ []) → ⊥
query_is_no_trap name kind e =
    let first = ap (λ (l : List (List ℕ)). get_or (get_or l 0 []) 0 0) e in omega (arith, first)

aborted_is_no_trap : (kind : ℕ) → ◌≡◌ {A = List (List ℕ)} (codes "aborted" ∷ []) (command_trap_line kind ∷ []) → ⊥
aborted_is_no_trap kind e =
    let first = ap (λ (l : List (List ℕ)). get_or (get_or l 0 []) 0 0) e in omega (arith, first)

keeps_set : (w : World) (o : OpenDialog) (selected : Option (List ℕ)) (d : Data) → Keeps w (set_query w o selected d)
keeps_set w o None d = keeps_told w 0 (codes "! query" ∷ [])
keeps_set w o (Some x) d = record { panes = refl; state = λ app. tt; trapped = λ kind e. absurd (ok_name_is_no_trap x kind e) }

keeps_set_selected : (w : World) (o : Option OpenDialog) (d : Data) → Keeps w (set_selected w o d)
keeps_set_selected w None d = keeps_none w
keeps_set_selected w (Some o) d = keeps_set w o o.selected d

keeps_read : (w : World) (o : Option OpenDialog) (r : Option OneAt) → Keeps w (return_read w o r)
keeps_read w o None = keeps_told w 0 (codes "! query" ∷ [])
keeps_read w o (Some (one.Object d)) = keeps_set_selected w o d
keeps_read w o (Some one.Bad) = keeps_told w 0 (codes "! bad 1" ∷ [])
keeps_read w o (Some one.Surplus) = keeps_told w 0 (codes "! surplus" ∷ [])

-- a selection leaves what panes show
selected_shown : (app : App) (w : World) (o : OpenDialog) (x : List ℕ) → Some o ≡ w.dialog
    → state_in app (record w { dialog = Some (with_selected x o) }) ≡ state_in app w
selected_shown app w o x e = ap (λ (d : Option OpenDialog). state_in app (record w { dialog = d })) e

keeps_selected : (w : World) (o : Option OpenDialog) (x : List ℕ) → o ≡ w.dialog → Keeps w (select_query w o x)
keeps_selected w None x e = keeps_none w
keeps_selected w (Some o) x e = record {
  panes = refl;
  state = λ app. selected_shown app w o x e;
  trapped = λ kind e. absurd (query_is_no_trap x kind e);
}

keeps_exit_command : (g : Ground) (w : World) (ds : List Data) (c : Option CommandDecl) → Keeps w (exit_command g w ds c)
keeps_exit_command g w ds None = keeps_none w
keeps_exit_command g w ds (Some command) =
    keeps_if w (is_on w command) (run_command g.app command.line_name w (command_outcome g command ds w.slots)) (refuse w 0 (codes "! disabled"))
    (keeps_run g.app command.line_name w (command_outcome g command ds w.slots)) (disabled_told w)

-- that a query has no value is not the line of a trap
keeps_exit_with : (g : Ground) (w : World) (d : DialogDecl) (x : ExitAt) → Keeps w (exit_with g w d x)
keeps_exit_with g w d (exit.Unset q) = keeps_told w 0 ((codes "! unset " ++ q) ∷ [])
keeps_exit_with g w d (exit.Runs ds) = keeps_exit_command g w ds (command_named d.command g.app)

keeps_exit_declared : (g : Ground) (w : World) (o : OpenDialog) (d : Option DialogDecl) → Keeps w (exit_declared g w o d)
keeps_exit_declared g w o None = keeps_none w
keeps_exit_declared g w o (Some d) = keeps_exit_with g w d (exit_of g.app d w.slots o)

keeps_exit : (g : Ground) (w : World) (o : Option OpenDialog) → Keeps w (exit_dialog g w o)
keeps_exit g w None = keeps_none w
keeps_exit g w (Some o) = keeps_exit_declared g w o (dialog_named o.name g.app)

keeps_aborted : (w : World) → Keeps w (abort w)
keeps_aborted w = record { panes = refl; state = λ app. tt; trapped = λ kind e. absurd (aborted_is_no_trap kind e) }

keeps_named_choice : (g : Ground) (w : World) (o : Option OpenDialog) (x : List ℕ) → o ≡ w.dialog → Keeps w (choose_named g w o x)
keeps_named_choice g w o x e =
    keeps_if w (bytes_eq x (codes "abort")) (abort w) (if bytes_eq x (codes "exit") then exit_dialog g w o else select_query w o x) (keeps_aborted w)
    (keeps_if w (bytes_eq x (codes "exit")) (exit_dialog g w o) (select_query w o x) (keeps_exit g w o) (keeps_selected w o x e))

keeps_choice : (g : Ground) (w : World) (o : Option OpenDialog) (d : Data) → o ≡ w.dialog → Keeps w (choose g w o d)
keeps_choice g w o (symbol x) e = keeps_named_choice g w o x e
keeps_choice g w o d e = keeps_none w

keeps_answered : (g : Ground) (w : World) (o : Option OpenDialog) (r : Option Given) → o ≡ w.dialog → Keeps w (answer g w o r)
keeps_answered g w o None e = keeps_none w
keeps_answered g w o (Some r) e =
    keeps_if w (r.number == 0) (choose g w o r.value) (set_selected w o r.value) (keeps_choice g w o r.value e) (keeps_set_selected w o r.value)

keeps_within : (g : Ground) (w : World) (p : PointAt) (d : PaneDecl) (m : PaneMarks) (o : Option OpenDialog) → o ≡ w.dialog
    → Keeps w (point_within g w p d m o)
keeps_within g w p d m None e = keeps_acted g w (typed_in g.app w.line) (chosen_at g w (contexts_of (typed_in g.app w.line)) p d m)
keeps_within g w p d m (Some o) e = keeps_answered g w (Some o) (chosen_at g w (dialog_contexts g.app o) p d m) e

keeps_pointed : (g : Ground) (w : World) (p : PointAt) (d : PaneDecl) (m : PaneMarks) → Keeps w (point_at g w p d m)
keeps_pointed g w p d m =
    keeps_if w (is_within d p.x p.y) (point_within g w p d m w.dialog) (refuse w 0 (codes "! outside"))
    (keeps_within g w p d m w.dialog refl) (keeps_told w 0 (codes "! outside" ∷ []))

keeps_returned : (g : Ground) (w : World) (o : Option OpenDialog) → o ≡ w.dialog → Keeps w (return_by g w o)
keeps_returned g w None e = keeps_finished g w (command_of_line g.app w.line)
keeps_returned g w (Some o) e = keeps_read w (Some o) (read_line g w.slots w.line o)

keeps_pressed_by : (g : Ground) (w : World) (name : List ℕ) (o : Option OpenDialog) → Keeps w (press_by g w name o)
keeps_pressed_by g w name None = keeps_pressed g w (command_of_stroke g.app name)
keeps_pressed_by g w name (Some o) = keeps_told w 0 (codes "! dialog" ∷ [])

pub keeps_handled : (g : Ground) (w : World) (act : Gesture) → Keeps w (handled g w act)
keeps_handled g w (gesture.«Type» text) =
    keeps_if w (nat_le (length (w.line ++ typed text)) MAX_ELEMENTS) (tell (record w { line = w.line ++ typed text }) 0 [])
    (refuse w 0 (codes "! full")) (keeps_line w (w.line ++ typed text)) (keeps_told w 0 (codes "! full" ∷ []))
keeps_handled g w gesture.Return = keeps_returned g w w.dialog refl
keeps_handled g w gesture.Rubout = keeps_line w (without_last w.line)
keeps_handled g w gesture.Clear = keeps_line w []
keeps_handled g w gesture.Frame = keeps_told w 0 (handled g w gesture.Frame).replies
keeps_handled g w gesture.Inks = keeps_told w 0 (handled g w gesture.Inks).replies
keeps_handled g w (gesture.Stroke name) = keeps_pressed_by g w name w.dialog
keeps_handled g w (gesture.History name) = keeps_history w (panes_of g.app) w.panes name
keeps_handled g w (gesture.Point p) = keeps_pane (point_at g w p) w (panes_of g.app) w.panes p.pane (keeps_pointed g w p)
keeps_handled g w gesture.Force = record { panes = refl; state = λ app. refl; trapped = λ kind e. (refl, refl, refl, refl) }

pub keeps_handled_or_not : (g : Ground) (w : World) (act : Gesture) (met : Bool) → Keeps w (handled_or_not g w act met)
keeps_handled_or_not g w act true = keeps_told w 0 (codes "! memory" ∷ [])
keeps_handled_or_not g w act false = keeps_handled g w act
