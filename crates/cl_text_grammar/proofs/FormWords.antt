-- The words behind the heads of display forms and statements.
use Rattle.std.proofs.Common.{◌≡◌, ℕ, List, refl, sym}
use Rattle.std.specs.Prelude.{Option, Some, None, option_map, codes}
use Rattle.std.proofs.Math.Path.{subst}
use Rattle.cl_table.specs.Names.{named}
use Rattle.cl_syntax.specs.declared.figures.Figure.{Figure}
use Rattle.cl_syntax.specs.declared.figures.Figure.TheVariants as figure
use Rattle.cl_words.specs.Heads.{operator_named, special_named, control_named, figure_named, figure_count, setting_named, writing_named, change_named}
use Rattle.cl_words.specs.Heads.{planned_named, shared_named, form_head, head_named}
use Rattle.cl_words.specs.declared.heads.Head.{Head}
use Rattle.cl_words.specs.declared.heads.Head.TheVariants as head
use Rattle.cl_words.specs.declared.heads.Control.{Control}
use Rattle.cl_words.specs.declared.heads.Control.TheVariants as control
use Rattle.cl_words.specs.declared.heads.Setting.{Setting}
use Rattle.cl_words.specs.declared.heads.Setting.TheVariants as setting
use Rattle.cl_words.specs.declared.heads.Writing.{Writing}
use Rattle.cl_words.specs.declared.heads.Writing.TheVariants as writing
use Rattle.cl_words.specs.declared.heads.Change.{Change}
use Rattle.cl_words.specs.declared.heads.Change.TheVariants as change
use Rattle.cl_grammar.proofs.Spelled.{Finds, nothing, word_is, of_some, first}
use Rattle.cl_text_grammar.specs.Displays.{figures}

abbrev pub control_word : Control → List ℕ
control_word control.When = codes "when"
control_word control.Dolist = codes "dolist"
control_word control.Progn = codes "progn"

abbrev pub setting_word : Setting → List ℕ
setting_word setting.Indent = codes "indenting-output"
setting_word setting.Ink = codes "with-ink"
setting_word setting.Room = codes "with-room-for-graphics"
setting_word setting.Presentation = codes "with-output-as-presentation"
setting_word setting.Update = codes "updating-output"

abbrev pub writing_word : Writing → List ℕ
writing_word writing.WriteText = codes "write-text"
writing_word writing.Newline = codes "newline"
writing_word writing.Present = codes "present"

abbrev pub change_word : Change → List ℕ
change_word change.Setf = codes "setf"
change_word change.Reply = codes "reply"
change_word change.Enable = codes "enable"
change_word change.Disable = codes "disable"
change_word change.OpenDialog = codes "open-dialog"

-- the word spells the head of a display form or a statement
abbrev pub Spells : List ℕ → Head → Type 0
Spells x head.If = x ≡ codes "if"
Spells x head.Let = x ≡ codes "let"
Spells x (head.Special s) = Unit {0}
Spells x (head.Operator o) = Unit {0}
Spells x (head.Control c) = x ≡ control_word c
Spells x (head.Figure f) = named x figures ≡ Some (f, figure_count f)
Spells x (head.Setting s) = x ≡ setting_word s
Spells x (head.Writing v) = x ≡ writing_word v
Spells x (head.Change c) = x ≡ change_word c
Spells x (head.Planned p) = Unit {0}

-- of the last table too, whatever it has
any_found : {A : Type 0} {P : A → Type 0} → ((a : A) → P a) → (o : Option A) → Finds P o
any_found h (Some a) = record { found = h a }
any_found h None = record { found = tt }

last : {A B : Type 0} (P : B → Type 0) (f : A → B) (o : Option A) → ((a : A) → P (f a)) → Finds P (option_map f o)
last P f (Some a) h = record { found = h a }
last P f None h = record { found = tt }

module _ (x : List ℕ) where
  drawn : {y : List ℕ} (f : Figure) → x ≡ y → Spells y (head.Figure f) → Spells x (head.Figure f)
  drawn f e i = subst (λ z. Spells z (head.Figure f)) (sym e) i

  shared_word : Finds (Spells x) (shared_named x)
  shared_word = word_is head.If x (codes "if") (λ e. e) (word_is head.Let x (codes "let") (λ e. e) nothing)

  controls : Finds (λ c. Spells x (head.Control c)) (control_named x)
  controls =
      word_is control.When x (codes "when") (λ e. e) (word_is control.Dolist x (codes "dolist") (λ e. e)
      (word_is control.Progn x (codes "progn") (λ e. e) nothing))

  drawings : Finds (λ f. Spells x (head.Figure f)) (figure_named x)
  drawings =
      word_is figure.Point x (codes "draw-point") (λ e. drawn figure.Point e refl)
      (word_is figure.HorizontalLine x (codes "draw-hline") (λ e. drawn figure.HorizontalLine e refl)
      (word_is figure.VerticalLine x (codes "draw-vline") (λ e. drawn figure.VerticalLine e refl)
      (word_is figure.Outline x (codes "draw-box") (λ e. drawn figure.Outline e refl)
      (word_is figure.Filled x (codes "fill-box") (λ e. drawn figure.Filled e refl) nothing))))

  settings : Finds (λ s. Spells x (head.Setting s)) (setting_named x)
  settings =
      word_is setting.Indent x (codes "indenting-output") (λ e. e) (word_is setting.Ink x (codes "with-ink") (λ e. e)
      (word_is setting.Room x (codes "with-room-for-graphics") (λ e. e)
      (word_is setting.Presentation x (codes "with-output-as-presentation") (λ e. e)
      (word_is setting.Update x (codes "updating-output") (λ e. e) nothing))))

  writings : Finds (λ v. Spells x (head.Writing v)) (writing_named x)
  writings =
      word_is writing.WriteText x (codes "write-text") (λ e. e) (word_is writing.Newline x (codes "newline") (λ e. e)
      (word_is writing.Present x (codes "present") (λ e. e) nothing))

  changes : Finds (λ c. Spells x (head.Change c)) (change_named x)
  changes =
      word_is change.Setf x (codes "setf") (λ e. e) (word_is change.Reply x (codes "reply") (λ e. e)
      (word_is change.Enable x (codes "enable") (λ e. e) (word_is change.Disable x (codes "disable") (λ e. e)
      (word_is change.OpenDialog x (codes "open-dialog") (λ e. e) nothing))))

  form_words : Finds (Spells x) (form_head x)
  form_words =
      first (λ c. head.Control c) (control_named x) controls (first (λ f. head.Figure f) (figure_named x) drawings
      (first (λ s. head.Setting s) (setting_named x) settings (first (λ v. head.Writing v) (writing_named x) writings
      (first (λ c. head.Change c) (change_named x) changes (last (Spells x) (λ p. head.Planned p) (planned_named x) (λ p. tt))))))

  head_words : Finds (Spells x) (head_named x)
  head_words =
      first (λ h. h) (shared_named x) shared_word (first (λ o. head.Operator o) (operator_named x) (any_found (λ o. tt) (operator_named x))
      (first (λ s. head.Special s) (special_named x) (any_found (λ s. tt) (special_named x)) form_words))

  pub head_spells : (h : Head) → head_named x ≡ Some h → Spells x h
  head_spells h e = of_some h (head_named x) e head_words
