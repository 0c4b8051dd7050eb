-- The own replies of a gesture do not begin with that of want of memory.
use Rattle.std.proofs.Common.{◌≡◌, ◌==◌, ℕ, zero, suc, ◌+◌, Bool, true, false, List, [], ◌∷◌, ◌++◌, length, get_or, Option, Some, None, sym, ap, arith}
use Rattle.std.specs.Prelude.{codes, nat_le, if◌then◌else◌}
use Rattle.std.specs.Str.{bytes_eq, str_eq_ignore_ascii_case}
use Rattle.cl_application.specs.App.{command_named, dialog_named}
use Rattle.cl_application.specs.declared.applications.App.{App}
use Rattle.cl_application.specs.declared.declarations.CommandDecl.{CommandDecl}
use Rattle.cl_application.specs.declared.declarations.DialogDecl.{DialogDecl}
use Rattle.cl_application.specs.declared.declarations.PaneDecl.{PaneDecl}
use Rattle.cl_dialog.specs.OpenDialog.{OpenDialog}
use Rattle.cl_dialog.specs.Exits.{ExitAt, exit_of}
use Rattle.cl_dialog.specs.Exits as exit
use Rattle.cl_eval.specs.Outcome.{Gives, Outcome, Traps}
use Rattle.cl_eval.specs.declared.effects.Effects.{Effects}
use Rattle.cl_frame.specs.Ground.{Ground}
use Rattle.cl_frame.specs.Panes.{PaneMarks}
use Rattle.cl_gesture.specs.declared.answers.PointAt.{PointAt}
use Rattle.cl_line.specs.declared.lines.TheConstants.{MAX_ELEMENTS}
use Rattle.cl_redisplay.specs.Shown.{Shown, digit_in, row_from, rows_from, shown_at}
use Rattle.cl_parser.specs.One.{OneAt}
use Rattle.cl_parser.specs.One as one
use Rattle.cl_parser.specs.Parses.{decls_of, without_tokens}
use Rattle.cl_parser.specs.declared.parsing.Parsed.{Parsed}
use Rattle.cl_parser.specs.declared.parsing.Parsed.TheVariants as parsed
use Rattle.cl_session.specs.Dialogs.{abort, answer, choose, choose_named, dialog_contexts, exit_command, exit_declared, exit_dialog, exit_with}
use Rattle.cl_session.specs.Dialogs.{read_line, return_read, select_query, set_query, set_selected}
use Rattle.cl_session.specs.Naming.{command_of_line, command_of_stroke}
use Rattle.cl_eval.specs.Operators.{list_of}
use Rattle.cl_session.specs.Pointing.{TypedArgument, chosen_at, contexts_of, is_within, line_with, typed_in}
use Rattle.cl_session.specs.Step.{act_on, got_line, point_at, point_within, press_by, return_by, run_chosen, run_named, take_object, with_pane}
use Rattle.cl_session.specs.Runs.{Handled, bad_line, command_outcome, command_trap_line, is_on}
use Rattle.cl_session.specs.Step.{finish_by, finish_parsed, need_line, parsed_line}
use Rattle.cl_session.specs.Runs.{refuse, run_command, tell}
use Rattle.cl_session.specs.Step.{stroke_by, stroke_parsed, history_rows, tell_history}
use Rattle.cl_session.specs.World.{World}
use Rattle.cl_translate.specs.Choices.{Given}
use Rattle.cl_value.specs.Data.{Data, symbol, list, item}

abbrev pub memory_said : List ℕ
memory_said = codes "! memory"

pub first_of : {A : Type 0} (x y : A) (xs ys : List A) → ◌≡◌ {A = List A} (x ∷ xs) (y ∷ ys) → x ≡ y
first_of x y xs ys e = cc

pub no_first : {A : Type 0} (x : A) (xs : List A) → ◌≡◌ {A = List A} [] (x ∷ xs) → ⊥
no_first x xs e = cc

-- two lines that differ at a place
differ_at : (n : ℕ) (a b : List ℕ) → (get_or a n 0 ≡ get_or b n 0 → ⊥) → a ≡ b → ⊥
differ_at n a b f e = f (ap (λ (l : List ℕ). get_or l n 0) e)

-- these lines do not begin with that of want of memory
abbrev pub IsNotMemory : List (List ℕ) → Type 0
IsNotMemory [] = Unit {0}
IsNotMemory (r ∷ rs) = memory_said ≡ r → ⊥

pub not_memory_if : (b : Bool) (h k : Handled) → IsNotMemory h.replies → IsNotMemory k.replies → IsNotMemory (if b then h else k).replies
not_memory_if true h k p q = p
not_memory_if false h k p q = q

pub not_full : IsNotMemory (codes "! full" ∷ [])
not_full = differ_at 2 memory_said (codes "! full") (λ no. omega (arith, no))

not_unknown : IsNotMemory (codes "! unknown" ∷ [])
not_unknown = differ_at 2 memory_said (codes "! unknown") (λ no. omega (arith, no))

not_surplus : IsNotMemory (codes "! surplus" ∷ [])
not_surplus = differ_at 2 memory_said (codes "! surplus") (λ no. omega (arith, no))

not_pane : IsNotMemory (codes "! pane" ∷ [])
not_pane = differ_at 2 memory_said (codes "! pane") (λ no. omega (arith, no))

not_run : (app : App) (name : List ℕ) (w : World) (o : Outcome Effects) → IsNotMemory (run_command app name w o).replies
not_run app name w (Gives effects cost deepest) = differ_at 0 memory_said (codes "ok " ++ name) (λ no. omega (arith, no))
not_run app name w (Traps kind cost deepest) = differ_at 2 memory_said (command_trap_line kind) (λ no. omega (arith, no))

not_need : (command : CommandDecl) (place : ℕ) → IsNotMemory (need_line command place ∷ [])
not_need command place = differ_at 2 memory_said (need_line command place) (λ no. omega (arith, no))

not_disabled : IsNotMemory (codes "! disabled" ∷ [])
not_disabled = differ_at 2 memory_said (codes "! disabled") (λ no. omega (arith, no))

not_parsed : (g : Ground) (w : World) (command : CommandDecl) (p : Parsed) → IsNotMemory (finish_parsed g w command p).replies
not_parsed g w command (parsed.Arguments ds) = not_run g.app command.line_name w (command_outcome g command ds w.slots)
not_parsed g w command (parsed.Need place) = not_need command place
not_parsed g w command (parsed.BadArg number) = differ_at 2 memory_said (bad_line number) (λ no. omega (arith, no))
not_parsed g w command parsed.Surplus = not_surplus

pub not_finished : (g : Ground) (w : World) (c : Option CommandDecl) → IsNotMemory (finish_by g w c).replies
not_finished g w None = not_unknown
not_finished g w (Some command) =
    not_memory_if (is_on w command) (finish_parsed g w command (parsed_line g w.slots w.line command)) (refuse w 0 (codes "! disabled"))
    (not_parsed g w command (parsed_line g w.slots w.line command)) not_disabled

not_stroke : (g : Ground) (w : World) (command : CommandDecl) (p : Parsed) → IsNotMemory (stroke_parsed g w command p).replies
not_stroke g w command (parsed.Need place) = not_need command place
not_stroke g w command (parsed.Arguments ds) = not_parsed g w command (parsed.Arguments ds)
not_stroke g w command (parsed.BadArg number) = not_parsed g w command (parsed.BadArg number)
not_stroke g w command parsed.Surplus = not_parsed g w command parsed.Surplus

pub not_pressed : (g : Ground) (w : World) (c : Option CommandDecl) → IsNotMemory (stroke_by g w c).replies
not_pressed g w None = differ_at 2 memory_said (codes "! stroke") (λ no. omega (arith, no))
not_pressed g w (Some command) =
    let defaults = without_tokens g.app 0 [] (decls_of command.arguments) in
    not_memory_if (is_on w command) (stroke_parsed g w command defaults) (refuse w 0 (codes "! disabled")) (not_stroke g w command defaults) not_disabled

not_rows : (name : List ℕ) (marks : PaneMarks) → IsNotMemory (history_rows name marks)
not_rows name marks = differ_at 0 memory_said (codes "history " ++ (name ++ 32 ∷ _)) (λ no. omega (arith, no))

pub not_with : (does : PaneDecl → PaneMarks → Handled) (w : World) (ds : List PaneDecl) (ms : List PaneMarks) (name : List ℕ)
    → ((d : PaneDecl) (m : PaneMarks) → IsNotMemory (does d m).replies) → IsNotMemory (with_pane does w ds ms name).replies
not_with does w [] ms name each = not_pane
not_with does w (d ∷ ds) [] name each = not_pane
not_with does w (d ∷ ds) (m ∷ ms) name each =
    not_memory_if (str_eq_ignore_ascii_case name d.name) (does d m) (with_pane does w ds ms name) (each d m) (not_with does w ds ms name each)

pub not_history : (w : World) (ds : List PaneDecl) (ms : List PaneMarks) (name : List ℕ) → IsNotMemory (tell_history w ds ms name).replies
not_history w ds ms name = not_with (λ d m. tell w 0 (history_rows d.name m)) w ds ms name (λ d m. not_rows d.name m)

not_none : IsNotMemory (codes "! none" ∷ [])
not_none = differ_at 2 memory_said (codes "! none") (λ no. omega (arith, no))

not_taken : (w : World) (t : TypedArgument) (d : Data) → IsNotMemory (take_object w t d).replies
not_taken w t d =
    not_memory_if (nat_le (length (line_with t d w.line)) MAX_ELEMENTS) (tell (record w { line = line_with t d w.line }) 0 (got_line t.number ∷ []))
    (refuse w 0 (codes "! full")) (differ_at 0 memory_said (got_line t.number) (λ no. omega (arith, no))) not_full

not_run_named : (g : Ground) (w : World) (ds : List Data) (c : Option CommandDecl) → IsNotMemory (run_named g w ds c).replies
not_run_named g w ds None = not_none
not_run_named g w ds (Some command) = not_run g.app command.line_name w (command_outcome g command ds w.slots)

not_chosen : (g : Ground) (w : World) (d : Data) → IsNotMemory (run_chosen g w d).replies
not_chosen g w (list (item (symbol x) ds)) = not_run_named g w (list_of ds) (command_named x g.app)
not_chosen g w d = not_none

not_acted : (g : Ground) (w : World) (t : Option TypedArgument) (r : Option Given) → IsNotMemory (act_on g w t r).replies
not_acted g w None None = not_none
not_acted g w (Some t) None = not_none
not_acted g w None (Some r) = not_chosen g w r.value
not_acted g w (Some t) (Some r) =
    not_memory_if (r.number == 0) (take_object w t r.value) (run_chosen g w r.value) (not_taken w t r.value) (not_chosen g w r.value)

-- ---- dialogs

not_query : IsNotMemory (codes "! query" ∷ [])
not_query = differ_at 2 memory_said (codes "! query") (λ no. omega (arith, no))

not_set : (w : World) (o : OpenDialog) (selected : Option (List ℕ)) (d : Data) → IsNotMemory (set_query w o selected d).replies
not_set w o None d = not_query
not_set w o (Some x) d = differ_at 0 memory_said (codes "ok " ++ x) (λ no. omega (arith, no))

not_set_selected : (w : World) (o : Option OpenDialog) (d : Data) → IsNotMemory (set_selected w o d).replies
not_set_selected w None d = not_none
not_set_selected w (Some o) d = not_set w o o.selected d

not_read : (w : World) (o : Option OpenDialog) (r : Option OneAt) → IsNotMemory (return_read w o r).replies
not_read w o None = not_query
not_read w o (Some (one.Object d)) = not_set_selected w o d
not_read w o (Some one.Bad) = differ_at 2 memory_said (codes "! bad 1") (λ no. omega (arith, no))
not_read w o (Some one.Surplus) = not_surplus

not_selected : (w : World) (o : Option OpenDialog) (x : List ℕ) → IsNotMemory (select_query w o x).replies
not_selected w None x = not_none
not_selected w (Some o) x = differ_at 0 memory_said (codes "query " ++ x) (λ no. omega (arith, no))

not_exit_command : (g : Ground) (w : World) (ds : List Data) (c : Option CommandDecl) → IsNotMemory (exit_command g w ds c).replies
not_exit_command g w ds None = not_none
not_exit_command g w ds (Some command) =
    not_memory_if (is_on w command) (run_command g.app command.line_name w (command_outcome g command ds w.slots)) (refuse w 0 (codes "! disabled"))
    (not_run g.app command.line_name w (command_outcome g command ds w.slots)) not_disabled

not_exit_with : (g : Ground) (w : World) (d : DialogDecl) (x : ExitAt) → IsNotMemory (exit_with g w d x).replies
not_exit_with g w d (exit.Unset q) = differ_at 2 memory_said (codes "! unset " ++ q) (λ no. omega (arith, no))
not_exit_with g w d (exit.Runs ds) = not_exit_command g w ds (command_named d.command g.app)

not_exit_declared : (g : Ground) (w : World) (o : OpenDialog) (d : Option DialogDecl) → IsNotMemory (exit_declared g w o d).replies
not_exit_declared g w o None = not_none
not_exit_declared g w o (Some d) = not_exit_with g w d (exit_of g.app d w.slots o)

not_exit : (g : Ground) (w : World) (o : Option OpenDialog) → IsNotMemory (exit_dialog g w o).replies
not_exit g w None = not_none
not_exit g w (Some o) = not_exit_declared g w o (dialog_named o.name g.app)

not_named_choice : (g : Ground) (w : World) (o : Option OpenDialog) (x : List ℕ) → IsNotMemory (choose_named g w o x).replies
not_named_choice g w o x =
    not_memory_if (bytes_eq x (codes "abort")) (abort w) (if bytes_eq x (codes "exit") then exit_dialog g w o else select_query w o x)
    (differ_at 0 memory_said (codes "aborted") (λ no. omega (arith, no)))
    (not_memory_if (bytes_eq x (codes "exit")) (exit_dialog g w o) (select_query w o x) (not_exit g w o) (not_selected w o x))

not_choice : (g : Ground) (w : World) (o : Option OpenDialog) (d : Data) → IsNotMemory (choose g w o d).replies
not_choice g w o (symbol x) = not_named_choice g w o x
not_choice g w o d = not_none

not_answered : (g : Ground) (w : World) (o : Option OpenDialog) (r : Option Given) → IsNotMemory (answer g w o r).replies
not_answered g w o None = not_none
not_answered g w o (Some r) =
    not_memory_if (r.number == 0) (choose g w o r.value) (set_selected w o r.value) (not_choice g w o r.value) (not_set_selected w o r.value)

not_within : (g : Ground) (w : World) (p : PointAt) (d : PaneDecl) (m : PaneMarks) (o : Option OpenDialog) → IsNotMemory (point_within g w p d m o).replies
not_within g w p d m None = not_acted g w (typed_in g.app w.line) (chosen_at g w (contexts_of (typed_in g.app w.line)) p d m)
not_within g w p d m (Some o) = not_answered g w (Some o) (chosen_at g w (dialog_contexts g.app o) p d m)

pub not_returned : (g : Ground) (w : World) (o : Option OpenDialog) → IsNotMemory (return_by g w o).replies
not_returned g w None = not_finished g w (command_of_line g.app w.line)
not_returned g w (Some o) = not_read w (Some o) (read_line g w.slots w.line o)

pub not_pressed_by : (g : Ground) (w : World) (name : List ℕ) (o : Option OpenDialog) → IsNotMemory (press_by g w name o).replies
not_pressed_by g w name None = not_pressed g w (command_of_stroke g.app name)
not_pressed_by g w name (Some o) = differ_at 2 memory_said (codes "! dialog") (λ no. omega (arith, no))

pub not_pointed : (g : Ground) (w : World) (p : PointAt) (d : PaneDecl) (m : PaneMarks) → IsNotMemory (point_at g w p d m).replies
not_pointed g w p d m =
    not_memory_if (is_within d p.x p.y) (point_within g w p d m w.dialog) (refuse w 0 (codes "! outside"))
    (not_within g w p d m w.dialog) (differ_at 2 memory_said (codes "! outside") (λ no. omega (arith, no)))

not_digits : (panes : List Shown) (y x count : ℕ) → memory_said ≡ row_from digit_in panes y x count → ⊥
not_digits panes y x zero e = no_first 33 _ (sym e)
not_digits panes y x (suc more) e =
    let first = first_of 33 (digit_in (shown_at panes x y)) _ (row_from digit_in panes y (x + 1) more) e in omega (arith, first)

pub not_inks : (panes : List Shown) (width y count : ℕ) → IsNotMemory (rows_from digit_in panes width y count)
not_inks panes width y zero = tt
not_inks panes width y (suc more) = not_digits panes y 0 width
