-- How a statement is written: a row for each form of the language, with its offsets left out.
use Rattle.std.specs.Prelude.{◌≡◌, ℕ, true, false, List, [], ◌∷◌, Some, codes}
use Rattle.cl_syntax.specs.ExprTree.{ExprTree, Bindings}
use Rattle.cl_syntax.specs.ActTree.{ActTree, ActTrees}
use Rattle.cl_syntax.specs.ActTree as act
use Rattle.cl_forms.specs.Datum.{Datum, Datums, word, list, item, none, in_order}
use Rattle.cl_forms.specs.Naming.{name_in}
use Rattle.cl_grammar.specs.Writes.{Writes, WritesBindings}

mutual
  -- a statement writes a datum
  pub data WritesAct : ActTree → Datum → Type 0 where
    a_form : {s : ActTree} {ds : Datums} {at : ℕ} → WritesActForm s (in_order ds) → WritesAct s (list ds at)

  -- a statement writes the parts of a list
  pub data WritesActForm : ActTree → List Datum → Type 0 where
    -- (setf (slot NAME) E)
    a_setf : {x : List ℕ} {t : ExprTree} {n e : Datum} {slot_at at h : ℕ} → name_in n ≡ Some x → Writes t e
        → WritesActForm (act.Setf x t) (word (codes "setf") h ∷ list (item (word (codes "slot") slot_at) (item n none)) at ∷ e ∷ [])
    -- (reply E)
    a_reply : {t : ExprTree} {e : Datum} {h : ℕ} → Writes t e → WritesActForm (act.Reply t) (word (codes "reply") h ∷ e ∷ [])
    -- (enable COMMAND)
    an_enable : {x : List ℕ} {n : Datum} {h : ℕ} → name_in n ≡ Some x → WritesActForm (act.Switch x true) (word (codes "enable") h ∷ n ∷ [])
    -- (disable COMMAND)
    a_disable : {x : List ℕ} {n : Datum} {h : ℕ} → name_in n ≡ Some x → WritesActForm (act.Switch x false) (word (codes "disable") h ∷ n ∷ [])
    -- (open-dialog DIALOG)
    an_open_dialog : {x : List ℕ} {n : Datum} {h : ℕ} → name_in n ≡ Some x → WritesActForm (act.OpenDialog x) (word (codes "open-dialog") h ∷ n ∷ [])
    -- (if TEST THEN ELSE)
    an_if : {t : ExprTree} {r s : ActTree} {a b c : Datum} {h : ℕ} → Writes t a → WritesAct r b → WritesAct s c
        → WritesActForm (act.If t r s) (word (codes "if") h ∷ a ∷ b ∷ c ∷ [])
    -- (when TEST STATEMENT ...)
    a_when : {t : ExprTree} {ss : ActTrees} {a : Datum} {ds : List Datum} {h : ℕ} → Writes t a → WritesActs ss ds
        → WritesActForm (act.When t ss) (word (codes "when") h ∷ a ∷ ds)
    -- (let ((NAME E) ...) STATEMENT ...)
    a_let : {bs : Bindings} {ss : ActTrees} {es : Datums} {ds : List Datum} {at h : ℕ} → WritesBindings bs (in_order es) → WritesActs ss ds
        → WritesActForm (act.Let bs ss) (word (codes "let") h ∷ list es at ∷ ds)
    -- (dolist (NAME LIST) STATEMENT ...)
    a_dolist : {x : List ℕ} {t : ExprTree} {ss : ActTrees} {n e : Datum} {ds : List Datum} {at h : ℕ} → name_in n ≡ Some x → Writes t e
        → WritesActs ss ds → WritesActForm (act.Dolist x t ss) (word (codes "dolist") h ∷ list (item n (item e none)) at ∷ ds)
    -- (progn STATEMENT ...)
    a_progn : {ss : ActTrees} {ds : List Datum} {h : ℕ} → WritesActs ss ds → WritesActForm (act.Progn ss) (word (codes "progn") h ∷ ds)

  -- the statements of a body write data, one each
  pub data WritesActs : ActTrees → List Datum → Type 0 where
    no_more : WritesActs act.none []
    one_more : {s : ActTree} {ss : ActTrees} {d : Datum} {ds : List Datum} → WritesAct s d → WritesActs ss ds → WritesActs (act.statement s ss) (d ∷ ds)
