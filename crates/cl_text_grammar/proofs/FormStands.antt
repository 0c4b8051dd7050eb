-- What a form sees under each head that is fixed, and under a word that is none.
use Rattle.std.proofs.Common.{◌≡◌, ℕ, Bool, if◌then◌else◌, List, refl, sym, ap, ◌∙◌}
use Rattle.std.specs.Prelude.{Some, None, codes}
use Rattle.std.proofs.Math.Path.{subst}
use Rattle.cl_table.specs.Names.{named}
use Rattle.cl_syntax.specs.declared.operators.Operator.TheVariants as operator
use Rattle.cl_syntax.specs.declared.operators.Arithmetic.TheVariants as arithmetic
use Rattle.cl_syntax.specs.declared.operators.Comparison.TheVariants as comparison
use Rattle.cl_syntax.specs.declared.operators.ListOperator.TheVariants as on_lists
use Rattle.cl_syntax.specs.declared.operators.TextOperator.TheVariants as on_texts
use Rattle.cl_syntax.specs.declared.figures.Figure.TheVariants as figure
use Rattle.cl_words.specs.declared.heads.Special.TheVariants as special
use Rattle.cl_forms.specs.Datum.{Datum}
use Rattle.cl_words.specs.Heads.{arithmetic_named, comparison_named, list_operator_named, text_operator_named, other_operator_named, operator_named}
use Rattle.cl_words.specs.Heads.{access_named, walk_named, special_named, control_named, figure_named, figure_count, setting_named, writing_named}
use Rattle.cl_words.specs.Heads.{change_named, planned_display, planned_other, planned_named, shared_named, form_head, head_named}
use Rattle.cl_words.specs.Signatures.{display_in}
use Rattle.cl_words.specs.declared.heads.Head.{Head}
use Rattle.cl_words.specs.declared.heads.Head.TheVariants as head
use Rattle.cl_words.specs.declared.heads.Control.{Control}
use Rattle.cl_words.specs.declared.heads.Control.TheVariants as control
use Rattle.cl_words.specs.declared.heads.Setting.{Setting}
use Rattle.cl_words.specs.declared.heads.Setting.TheVariants as setting
use Rattle.cl_words.specs.declared.heads.Writing.{Writing}
use Rattle.cl_words.specs.declared.heads.Writing.TheVariants as writing
use Rattle.cl_words.specs.declared.heads.Change.{Change}
use Rattle.cl_words.specs.declared.heads.Change.TheVariants as change
use Rattle.cl_words.specs.declared.heads.Planned.{Planned}
use Rattle.cl_words.specs.declared.heads.Planned.TheVariants as planned
use Rattle.cl_words.specs.declared.signatures.Signatures.{Signatures}
use Rattle.cl_expressions.specs.Scopes.{Names}
use Rattle.cl_grammar.proofs.Spelled.{missed, not_fixed, Finds, nothing, word_is, of_some, first, last_found}
use Rattle.cl_text_grammar.specs.FormSights.{Row, UnknownHead, if_seen, when_seen, let_seen, dolist_seen, progn_seen, planned_seen, write_seen}
use Rattle.cl_text_grammar.specs.FormSights.{newline_seen, drawn_seen, indent_seen, ink_seen, room_seen, present_seen, presentation_seen, update_seen}
use Rattle.cl_text_grammar.specs.FormSights.{call_seen, shape_rows, shape_row_seen, setf_seen, reply_seen, switch_seen, dialog_seen, act_rows, act_row_seen}

abbrev pub control_seen : Control → Row
control_seen control.When = when_seen
control_seen control.Dolist = dolist_seen
control_seen control.Progn = progn_seen

abbrev pub setting_seen : Signatures → Setting → Row
setting_seen w setting.Indent = indent_seen
setting_seen w setting.Ink = ink_seen
setting_seen w setting.Room = room_seen
setting_seen w setting.Presentation = presentation_seen w
setting_seen w setting.Update = update_seen

abbrev pub writing_seen : Signatures → Writing → Row
writing_seen w writing.WriteText = write_seen
writing_seen w writing.Newline = newline_seen
writing_seen w writing.Present = present_seen w

abbrev pub change_seen : Change → Row
change_seen change.Setf = setf_seen
change_seen change.Reply = reply_seen
change_seen change.Enable = switch_seen
change_seen change.Disable = switch_seen
change_seen change.OpenDialog = dialog_seen

-- a word that heads no form of the language
abbrev pub unknown_seen : Row
unknown_seen h env ds = UnknownHead h

abbrev planned_shape : Planned → Row
planned_shape planned.Display = planned_seen
planned_shape planned.Part = unknown_seen

-- what a display form with this head sees
abbrev pub shape_under : Signatures → Head → Row
shape_under w head.If = if_seen
shape_under w head.Let = let_seen
shape_under w (head.Control c) = control_seen c
shape_under w (head.Special s) = unknown_seen
shape_under w (head.Operator o) = unknown_seen
shape_under w (head.Figure f) = drawn_seen (figure_count f)
shape_under w (head.Setting s) = setting_seen w s
shape_under w (head.Writing v) = writing_seen w v
shape_under w (head.Change c) = unknown_seen
shape_under w (head.Planned p) = planned_shape p

-- what a statement with this head sees
abbrev pub act_under : Head → Row
act_under head.If = if_seen
act_under head.Let = let_seen
act_under (head.Control c) = control_seen c
act_under (head.Special s) = unknown_seen
act_under (head.Operator o) = unknown_seen
act_under (head.Figure f) = unknown_seen
act_under (head.Setting s) = unknown_seen
act_under (head.Writing v) = unknown_seen
act_under (head.Change c) = change_seen c
act_under (head.Planned p) = unknown_seen

-- the word is that of the head, in both languages
record Stands (w : Signatures) (x : List ℕ) (k : Head) : Type 0 where
  shape : (h : ℕ) (env : Names) (ds : List Datum) → shape_row_seen w (named x (shape_rows w)) x h env ds ≡ shape_under w k h env ds
  act : (h : ℕ) (env : Names) (ds : List Datum) → act_row_seen (named x act_rows) h env ds ≡ act_under k h env ds

module _ (w : Signatures) (x : List ℕ) where
  stands : {y : List ℕ} (k : Head) → x ≡ y
      → ((h : ℕ) (env : Names) (ds : List Datum) → shape_row_seen w (named y (shape_rows w)) y h env ds ≡ shape_under w k h env ds)
      → ((h : ℕ) (env : Names) (ds : List Datum) → act_row_seen (named y act_rows) h env ds ≡ act_under k h env ds) → Stands w x k
  stands k e i j = subst (λ z. Stands w z k) (sym e) (record { shape = i; act = j })

  arithmetics : Finds (λ a. Stands w x (head.Operator (operator.Arithmetic a))) (arithmetic_named x)
  arithmetics =
      word_is arithmetic.Add x (codes "+") (λ e. stands (head.Operator (operator.Arithmetic arithmetic.Add)) e (λ h env ds. refl) (λ h env ds. refl)) (
      word_is arithmetic.Subtract x (codes "-") (λ e. stands (head.Operator (operator.Arithmetic arithmetic.Subtract)) e (λ h env ds. refl) (λ h env ds. refl)) (
      word_is arithmetic.Multiply x (codes "*") (λ e. stands (head.Operator (operator.Arithmetic arithmetic.Multiply)) e (λ h env ds. refl) (λ h env ds. refl)) (
      word_is arithmetic.Least x (codes "min") (λ e. stands (head.Operator (operator.Arithmetic arithmetic.Least)) e (λ h env ds. refl) (λ h env ds. refl)) (
      word_is arithmetic.Greatest x (codes "max") (λ e. stands (head.Operator (operator.Arithmetic arithmetic.Greatest)) e (λ h env ds. refl) (λ h env ds. refl)) (
      word_is arithmetic.Quotient x (codes "div") (λ e. stands (head.Operator (operator.Arithmetic arithmetic.Quotient)) e (λ h env ds. refl) (λ h env ds. refl)) (
      word_is arithmetic.Remainder x (codes "mod") (λ e. stands (head.Operator (operator.Arithmetic arithmetic.Remainder)) e (λ h env ds. refl) (λ h env ds. refl)) nothing))))))

  comparisons : Finds (λ a. Stands w x (head.Operator (operator.Comparison a))) (comparison_named x)
  comparisons =
      word_is comparison.Less x (codes "<") (λ e. stands (head.Operator (operator.Comparison comparison.Less)) e (λ h env ds. refl) (λ h env ds. refl)) (
      word_is comparison.AtMost x (codes "<=") (λ e. stands (head.Operator (operator.Comparison comparison.AtMost)) e (λ h env ds. refl) (λ h env ds. refl)) (
      word_is comparison.Greater x (codes ">") (λ e. stands (head.Operator (operator.Comparison comparison.Greater)) e (λ h env ds. refl) (λ h env ds. refl)) (
      word_is comparison.AtLeast x (codes ">=") (λ e. stands (head.Operator (operator.Comparison comparison.AtLeast)) e (λ h env ds. refl) (λ h env ds. refl)) nothing)))

  lists : Finds (λ a. Stands w x (head.Operator (operator.List a))) (list_operator_named x)
  lists =
      word_is on_lists.List x (codes "list") (λ e. stands (head.Operator (operator.List on_lists.List)) e (λ h env ds. refl) (λ h env ds. refl)) (
      word_is on_lists.Nth x (codes "nth") (λ e. stands (head.Operator (operator.List on_lists.Nth)) e (λ h env ds. refl) (λ h env ds. refl)) (
      word_is on_lists.Rest x (codes "rest") (λ e. stands (head.Operator (operator.List on_lists.Rest)) e (λ h env ds. refl) (λ h env ds. refl)) (
      word_is on_lists.Cons x (codes "cons") (λ e. stands (head.Operator (operator.List on_lists.Cons)) e (λ h env ds. refl) (λ h env ds. refl)) (
      word_is on_lists.Append x (codes "append") (λ e. stands (head.Operator (operator.List on_lists.Append)) e (λ h env ds. refl) (λ h env ds. refl)) (
      word_is on_lists.Contains x (codes "contains") (λ e. stands (head.Operator (operator.List on_lists.Contains)) e (λ h env ds. refl) (λ h env ds. refl)) (
      word_is on_lists.Range x (codes "range") (λ e. stands (head.Operator (operator.List on_lists.Range)) e (λ h env ds. refl) (λ h env ds. refl)) nothing))))))

  texts : Finds (λ a. Stands w x (head.Operator (operator.Text a))) (text_operator_named x)
  texts =
      word_is on_texts.Concat x (codes "concat") (λ e. stands (head.Operator (operator.Text on_texts.Concat)) e (λ h env ds. refl) (λ h env ds. refl)) (
      word_is on_texts.Subtext x (codes "subtext") (λ e. stands (head.Operator (operator.Text on_texts.Subtext)) e (λ h env ds. refl) (λ h env ds. refl)) (
      word_is on_texts.Pad x (codes "pad") (λ e. stands (head.Operator (operator.Text on_texts.Pad)) e (λ h env ds. refl) (λ h env ds. refl)) (
      word_is on_texts.Written x (codes "text") (λ e. stands (head.Operator (operator.Text on_texts.Written)) e (λ h env ds. refl) (λ h env ds. refl)) nothing)))

  others : Finds (λ a. Stands w x (head.Operator a)) (other_operator_named x)
  others =
      word_is operator.Not x (codes "not") (λ e. stands (head.Operator operator.Not) e (λ h env ds. refl) (λ h env ds. refl)) (
      word_is operator.Equal x (codes "=") (λ e. stands (head.Operator operator.Equal) e (λ h env ds. refl) (λ h env ds. refl)) (
      word_is operator.Length x (codes "length") (λ e. stands (head.Operator operator.Length) e (λ h env ds. refl) (λ h env ds. refl)) (
      word_is operator.IsNull x (codes "is-null") (λ e. stands (head.Operator operator.IsNull) e (λ h env ds. refl) (λ h env ds. refl)) nothing)))

  accesses : Finds (λ a. Stands w x (head.Special a)) (access_named x)
  accesses =
      word_is special.Slot x (codes "slot") (λ e. stands (head.Special special.Slot) e (λ h env ds. refl) (λ h env ds. refl)) (
      word_is special.Make x (codes "make") (λ e. stands (head.Special special.Make) e (λ h env ds. refl) (λ h env ds. refl)) (
      word_is special.Get x (codes "get") (λ e. stands (head.Special special.Get) e (λ h env ds. refl) (λ h env ds. refl)) (
      word_is special.With x (codes "with") (λ e. stands (head.Special special.With) e (λ h env ds. refl) (λ h env ds. refl)) nothing)))

  walks : Finds (λ a. Stands w x (head.Special a)) (walk_named x)
  walks =
      word_is special.And x (codes "and") (λ e. stands (head.Special special.And) e (λ h env ds. refl) (λ h env ds. refl)) (
      word_is special.Or x (codes "or") (λ e. stands (head.Special special.Or) e (λ h env ds. refl) (λ h env ds. refl)) (
      word_is special.Map x (codes "map") (λ e. stands (head.Special special.Map) e (λ h env ds. refl) (λ h env ds. refl)) (
      word_is special.Filter x (codes "filter") (λ e. stands (head.Special special.Filter) e (λ h env ds. refl) (λ h env ds. refl)) (
      word_is special.Fold x (codes "fold") (λ e. stands (head.Special special.Fold) e (λ h env ds. refl) (λ h env ds. refl)) nothing))))

  shared : Finds (λ a. Stands w x (a)) (shared_named x)
  shared =
      word_is head.If x (codes "if") (λ e. stands (head.If) e (λ h env ds. refl) (λ h env ds. refl)) (
      word_is head.Let x (codes "let") (λ e. stands (head.Let) e (λ h env ds. refl) (λ h env ds. refl)) nothing)

  controls : Finds (λ a. Stands w x (head.Control a)) (control_named x)
  controls =
      word_is control.When x (codes "when") (λ e. stands (head.Control control.When) e (λ h env ds. refl) (λ h env ds. refl)) (
      word_is control.Dolist x (codes "dolist") (λ e. stands (head.Control control.Dolist) e (λ h env ds. refl) (λ h env ds. refl)) (
      word_is control.Progn x (codes "progn") (λ e. stands (head.Control control.Progn) e (λ h env ds. refl) (λ h env ds. refl)) nothing))

  drawings : Finds (λ a. Stands w x (head.Figure a)) (figure_named x)
  drawings =
      word_is figure.Point x (codes "draw-point") (λ e. stands (head.Figure figure.Point) e (λ h env ds. refl) (λ h env ds. refl)) (
      word_is figure.HorizontalLine x (codes "draw-hline") (λ e. stands (head.Figure figure.HorizontalLine) e (λ h env ds. refl) (λ h env ds. refl)) (
      word_is figure.VerticalLine x (codes "draw-vline") (λ e. stands (head.Figure figure.VerticalLine) e (λ h env ds. refl) (λ h env ds. refl)) (
      word_is figure.Outline x (codes "draw-box") (λ e. stands (head.Figure figure.Outline) e (λ h env ds. refl) (λ h env ds. refl)) (
      word_is figure.Filled x (codes "fill-box") (λ e. stands (head.Figure figure.Filled) e (λ h env ds. refl) (λ h env ds. refl)) nothing))))

  settings : Finds (λ a. Stands w x (head.Setting a)) (setting_named x)
  settings =
      word_is setting.Indent x (codes "indenting-output") (λ e. stands (head.Setting setting.Indent) e (λ h env ds. refl) (λ h env ds. refl)) (
      word_is setting.Ink x (codes "with-ink") (λ e. stands (head.Setting setting.Ink) e (λ h env ds. refl) (λ h env ds. refl)) (
      word_is setting.Room x (codes "with-room-for-graphics") (λ e. stands (head.Setting setting.Room) e (λ h env ds. refl) (λ h env ds. refl)) (
      word_is setting.Presentation x (codes "with-output-as-presentation") (λ e. stands (head.Setting setting.Presentation) e (λ h env ds. refl) (λ h env ds. refl)) (
      word_is setting.Update x (codes "updating-output") (λ e. stands (head.Setting setting.Update) e (λ h env ds. refl) (λ h env ds. refl)) nothing))))

  writings : Finds (λ a. Stands w x (head.Writing a)) (writing_named x)
  writings =
      word_is writing.WriteText x (codes "write-text") (λ e. stands (head.Writing writing.WriteText) e (λ h env ds. refl) (λ h env ds. refl)) (
      word_is writing.Newline x (codes "newline") (λ e. stands (head.Writing writing.Newline) e (λ h env ds. refl) (λ h env ds. refl)) (
      word_is writing.Present x (codes "present") (λ e. stands (head.Writing writing.Present) e (λ h env ds. refl) (λ h env ds. refl)) nothing))

  changes : Finds (λ a. Stands w x (head.Change a)) (change_named x)
  changes =
      word_is change.Setf x (codes "setf") (λ e. stands (head.Change change.Setf) e (λ h env ds. refl) (λ h env ds. refl)) (
      word_is change.Reply x (codes "reply") (λ e. stands (head.Change change.Reply) e (λ h env ds. refl) (λ h env ds. refl)) (
      word_is change.Enable x (codes "enable") (λ e. stands (head.Change change.Enable) e (λ h env ds. refl) (λ h env ds. refl)) (
      word_is change.Disable x (codes "disable") (λ e. stands (head.Change change.Disable) e (λ h env ds. refl) (λ h env ds. refl)) (
      word_is change.OpenDialog x (codes "open-dialog") (λ e. stands (head.Change change.OpenDialog) e (λ h env ds. refl) (λ h env ds. refl)) nothing))))

  planned_displays : Finds (λ a. Stands w x (head.Planned a)) (planned_display x)
  planned_displays =
      word_is planned.Display x (codes "formatting-table") (λ e. stands (head.Planned planned.Display) e (λ h env ds. refl) (λ h env ds. refl)) nothing

  planned_others : Finds (λ a. Stands w x (head.Planned a)) (planned_other x)
  planned_others =
      word_is planned.Part x (codes "formatting-row") (λ e. stands (head.Planned planned.Part) e (λ h env ds. refl) (λ h env ds. refl)) (
      word_is planned.Part x (codes "formatting-cell") (λ e. stands (head.Planned planned.Part) e (λ h env ds. refl) (λ h env ds. refl)) nothing)

  operators_found : Finds (λ o. Stands w x (head.Operator o)) (operator_named x)
  operators_found =
      first (λ a. operator.Arithmetic a) (arithmetic_named x) arithmetics (first (λ c. operator.Comparison c) (comparison_named x) comparisons
      (first (λ l. operator.List l) (list_operator_named x) lists (first (λ t. operator.Text t) (text_operator_named x) texts others)))

  specials_found : Finds (λ s. Stands w x (head.Special s)) (special_named x)
  specials_found = first (λ s. s) (access_named x) accesses walks

  planned_found : Finds (λ p. Stands w x (head.Planned p)) (planned_named x)
  planned_found = first (λ p. p) (planned_display x) planned_displays planned_others

  forms_found : Finds (Stands w x) (form_head x)
  forms_found =
      first (λ c. head.Control c) (control_named x) controls (first (λ f. head.Figure f) (figure_named x) drawings
      (first (λ s. head.Setting s) (setting_named x) settings (first (λ v. head.Writing v) (writing_named x) writings
      (first (λ c. head.Change c) (change_named x) changes (last_found (Stands w x) (λ p. head.Planned p) (planned_named x) planned_found)))))

  heads_found : Finds (Stands w x) (head_named x)
  heads_found =
      first (λ h. h) (shared_named x) shared (first (λ o. head.Operator o) (operator_named x) operators_found
      (first (λ s. head.Special s) (special_named x) specials_found forms_found))

  pub shape_stands : (k : Head) → head_named x ≡ Some k → (h : ℕ) (env : Names) (ds : List Datum)
      → shape_row_seen w (named x (shape_rows w)) x h env ds ≡ shape_under w k h env ds
  shape_stands k e = (of_some k (head_named x) e heads_found).shape

  pub act_stands : (k : Head) → head_named x ≡ Some k → (h : ℕ) (env : Names) (ds : List Datum)
      → act_row_seen (named x act_rows) h env ds ≡ act_under k h env ds
  act_stands k e = (of_some k (head_named x) e heads_found).act

  -- a word that is no head calls a display
  pub shape_called : head_named x ≡ None → (h : ℕ) (env : Names) (ds : List Datum)
      → shape_row_seen w (named x (shape_rows w)) x h env ds ≡ call_seen (display_in w x) h env ds
  shape_called e h env ds =
      ap (λ o. shape_row_seen w o x h env ds) (missed x (shape_rows w) refl e)
      ∙ ap (λ (b : Bool). if b then UnknownHead h else call_seen (display_in w x) h env ds) (not_fixed x e)

  pub act_called : head_named x ≡ None → (h : ℕ) (env : Names) (ds : List Datum) → act_row_seen (named x act_rows) h env ds ≡ UnknownHead h
  act_called e h env ds = ap (λ o. act_row_seen o h env ds) (missed x act_rows refl e)
