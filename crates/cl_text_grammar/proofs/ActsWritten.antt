-- What is read of a datum as a statement writes it: a lemma for each row that display forms do not have.
use Rattle.std.proofs.Common.{◌≡◌, ℕ, Bool, true, false, List, [], ◌∷◌, sym}
use Rattle.std.specs.Prelude.{Some, Ok, codes}
use Rattle.std.specs.Str.{bytes_eq}
use Rattle.std.proofs.lemmas.Result.{IfOk-at_ok}
use Rattle.std.proofs.Math.Path.{subst}
use Rattle.cl_syntax.specs.ExprTree.{ExprTree}
use Rattle.cl_syntax.specs.ActTree.{ActTree, act_trees_of}
use Rattle.cl_syntax.specs.ActTree as act
use Rattle.cl_syntax.specs.declared.expressions.Binding.{Binding}
use Rattle.cl_forms.specs.Datum.{Datum, Datums, number, literal, word, quoted, stray, list, none, item, in_order, parts_of, offset}
use Rattle.cl_forms.specs.Naming.{name_in}
use Rattle.cl_words.specs.Signatures.{slot_in, command_in, dialog_in}
use Rattle.cl_words.specs.declared.heads.Head.{Head}
use Rattle.cl_words.specs.declared.heads.Head.TheVariants as head
use Rattle.cl_words.specs.declared.heads.Change.{Change}
use Rattle.cl_words.specs.declared.heads.Change.TheVariants as change
use Rattle.cl_words.specs.declared.signatures.Signatures.{Signatures}
use Rattle.cl_expressions.specs.Load.{Load, Notes}
use Rattle.cl_expressions.specs.Scopes.{Names}
use Rattle.cl_expressions.specs.Expressions.{Sub}
use Rattle.cl_bodies.specs.declared.own.Own.{Own}
use Rattle.cl_bodies.specs.Statements.{parse_place, parse_setf, parse_reply, parse_switch, parse_open_dialog, parse_change, parse_own, statements}
use Rattle.cl_bodies.specs.Statements.{parse_act, parse_acts}
use Rattle.cl_grammar.specs.Heads.{CallsNames}
use Rattle.cl_grammar.specs.Writes.{Writes}
use Rattle.cl_grammar.proofs.Endings.{Ends, gives, refuses, chooses, notes_then, binds, asks_name}
use Rattle.cl_grammar.proofs.Spelled.{same_word}
use Rattle.cl_grammar.proofs.Written.{shapes, WrittenParts}
use Rattle.cl_text_grammar.specs.WritesActs.{WritesAct, WritesActForm, WritesActs, a_form, a_setf, a_reply, an_enable, a_disable, an_open_dialog}
use Rattle.cl_text_grammar.specs.WritesActs.{an_if, a_when, a_let, a_dolist, a_progn, no_more, one_more}
use Rattle.cl_text_grammar.proofs.FormWords.{change_word, Spells}
use Rattle.cl_text_grammar.proofs.Bindings.{WritesBinding, a_binding}
use Rattle.cl_text_grammar.proofs.FormsWritten.{OwnWrites, Rules, form_ends, body_ends}

-- what the statements of a body write
abbrev Body : List ActTree → List Datum → Type 0
Body ss ds = WritesActs (act_trees_of ss) ds

-- what is read writes the head with the parts behind it
abbrev RowEnds : List ℕ → ℕ → List Sub → ActTree → Type 0
RowEnds x h ps s = WritesActForm s (word x h ∷ shapes ps)

abbrev OwnEnds : List ℕ → ℕ → List Sub → Own ActTree (Unit {0}) (Unit {0}) → Type 0
OwnEnds x h ps own = OwnWrites statements WritesActForm Body (word x h) (shapes ps) own

-- the datum is `(slot NAME)`
data WritesPlace : List ℕ → Datum → Type 0 where
  a_place : {x : List ℕ} {n : Datum} {slot_at at : ℕ} → name_in n ≡ Some x → WritesPlace x (list (item (word (codes "slot") slot_at) (item n none)) at)

place_named : (x s : List ℕ) (n : Datum) (slot_at at : ℕ) → bytes_eq s (codes "slot") ≡ true → name_in n ≡ Some x
    → WritesPlace x (list (item (word s slot_at) (item n none)) at)
place_named x s n slot_at at e i = subst (λ y. WritesPlace x (list (item (word y slot_at) (item n none)) at)) (sym (same_word s (codes "slot") e)) (a_place i)

place_ends : (w : Signatures) (at : ℕ) (d : Datum) → Ends (λ x. WritesPlace x d) (parse_place w at (parts_of d))
place_ends w at (list (item (word s slot_at) (item n none)) list_at) =
    chooses (bytes_eq s (codes "slot"))
    (λ e. asks_name at n λ x i. notes_then (slot_in w x) (offset n) (gives (place_named x s n slot_at list_at e i))) (λ e. refuses)
place_ends w at (list (item (number z d_at) (item n none)) list_at) = refuses
place_ends w at (list (item (literal s d_at) (item n none)) list_at) = refuses
place_ends w at (list (item (quoted s d_at name_at) (item n none)) list_at) = refuses
place_ends w at (list (item (stray d_at) (item n none)) list_at) = refuses
place_ends w at (list (item (list ds d_at) (item n none)) list_at) = refuses
place_ends w at (list none list_at) = refuses
place_ends w at (list (item d none) list_at) = refuses
place_ends w at (list (item d (item n (item e ds))) list_at) = refuses
place_ends w at (number z d_at) = refuses
place_ends w at (literal s d_at) = refuses
place_ends w at (word s d_at) = refuses
place_ends w at (quoted s d_at name_at) = refuses
place_ends w at (stray d_at) = refuses

setf_writes : (x : List ℕ) (t : ExprTree) (a b : Datum) (h : ℕ) → WritesPlace x a → Writes t b → WritesActForm (act.Setf x t) (word (codes "setf") h ∷ a ∷ b ∷ [])
setf_writes x t a b h (a_place i) j = a_setf i j

setf_ends : (w : Signatures) (h at : ℕ) (ps : List Sub) (env : Names) → WrittenParts ps → Ends (RowEnds (codes "setf") h ps) (parse_setf w at ps env)
setf_ends w h at (a ∷ b ∷ []) env k =
    binds (place_ends w at a.shape) λ x i. binds (k.1.0.expr env) λ t j. gives (setf_writes x t a.shape b.shape h i j)
setf_ends w h at [] env k = refuses
setf_ends w h at (a ∷ []) env k = refuses
setf_ends w h at (a ∷ b ∷ c ∷ ps) env k = refuses

reply_ends : (h at : ℕ) (ps : List Sub) (env : Names) → WrittenParts ps → Ends (RowEnds (codes "reply") h ps) (parse_reply at ps env)
reply_ends h at (a ∷ []) env k = binds (k.0.expr env) λ t i. gives (a_reply i)
reply_ends h at [] env k = refuses
reply_ends h at (a ∷ b ∷ ps) env k = refuses

-- the word for a statement that switches a command on, or off where it is false
abbrev switch_word : Bool → List ℕ
switch_word true = codes "enable"
switch_word false = codes "disable"

switch_writes : (on : Bool) (x : List ℕ) (n : Datum) (h : ℕ) → name_in n ≡ Some x → WritesActForm (act.Switch x on) (word (switch_word on) h ∷ n ∷ [])
switch_writes true x n h i = an_enable i
switch_writes false x n h i = a_disable i

switch_ends : (w : Signatures) (on : Bool) (h at : ℕ) (ps : List Sub) → Ends (RowEnds (switch_word on) h ps) (parse_switch w on at ps)
switch_ends w on h at (a ∷ []) =
    binds {P = λ x. name_in a.shape ≡ Some x} (asks_name at a.shape λ x i. notes_then (command_in w x) (offset a.shape) (gives i)) λ x i.
    gives (switch_writes on x a.shape h i)
switch_ends w on h at [] = refuses
switch_ends w on h at (a ∷ b ∷ ps) = refuses

open_dialog_ends : (w : Signatures) (h at : ℕ) (ps : List Sub) → Ends (RowEnds (codes "open-dialog") h ps) (parse_open_dialog w at ps)
open_dialog_ends w h at (a ∷ []) =
    binds {P = λ x. name_in a.shape ≡ Some x} (asks_name at a.shape λ x i. notes_then (dialog_in w x) (offset a.shape) (gives i)) λ x i.
    gives (an_open_dialog i)
open_dialog_ends w h at [] = refuses
open_dialog_ends w h at (a ∷ b ∷ ps) = refuses

change_ends : (w : Signatures) (c : Change) (h at : ℕ) (ps : List Sub) (env : Names) → WrittenParts ps
    → Ends (RowEnds (change_word c) h ps) (parse_change w c at ps env)
change_ends w change.Setf h at ps env k = setf_ends w h at ps env k
change_ends w change.Reply h at ps env k = reply_ends h at ps env k
change_ends w change.Enable h at ps env k = switch_ends w true h at ps
change_ends w change.Disable h at ps env k = switch_ends w false h at ps
change_ends w change.OpenDialog h at ps env k = open_dialog_ends w h at ps

spelled_so : (y x : List ℕ) (h : ℕ) (ps : List Sub) (m : Load (Own ActTree (Unit {0}) (Unit {0}))) → x ≡ y → Ends (OwnEnds y h ps) m
    → Ends (OwnEnds x h ps) m
spelled_so y x h ps m e i = subst (λ z. Ends (OwnEnds z h ps) m) (sym e) i

own_ends : (w : Signatures) (o : Head) (x : List ℕ) (h at : ℕ) (ps : List Sub) (env : Names) → Spells x o → WrittenParts ps
    → Ends (OwnEnds x h ps) (parse_own w o h at ps env)
own_ends w (head.Change c) x h at ps env e k =
    spelled_so (change_word c) x h ps (parse_own w (head.Change c) h at ps env) e (binds (change_ends w c h at ps env k) λ s i. gives i)
own_ends w (head.Planned p) x h at ps env e k = refuses
own_ends w head.If x h at ps env e k = refuses
own_ends w head.Let x h at ps env e k = refuses
own_ends w (head.Control o) x h at ps env e k = refuses
own_ends w (head.Special s) x h at ps env e k = refuses
own_ends w (head.Operator o) x h at ps env e k = refuses
own_ends w (head.Figure g) x h at ps env e k = refuses
own_ends w (head.Setting s) x h at ps env e k = refuses
own_ends w (head.Writing v) x h at ps env e k = refuses

dolist_writes : (b : Binding) (ss : List ActTree) (a : Datum) (ds : List Datum) (h : ℕ) → WritesBinding b a → Body ss ds
    → WritesActForm (act.Dolist b.name b.value (act_trees_of ss)) (word (codes "dolist") h ∷ a ∷ ds)
dolist_writes b ss a ds h (a_binding i j) k = a_dolist i j k

rules : (w : Signatures) → Rules statements w WritesAct (λ at. WritesActForm) Body
rules w = record {
  a_form = λ s ds at i. a_form i;
  no_more = no_more;
  one_more = λ s ss d ds i j. one_more i j;
  an_if = λ at t r s a b c h i j k. an_if i j k;
  a_when = λ at t ss a ds h i j. a_when i j;
  a_let = λ at bs ss es ds list_at h i j. a_let i j;
  a_dolist = λ at. dolist_writes;
  a_progn = λ at ss ds h i. a_progn i;
  an_own = λ c. own_ends w;
  a_call = λ x h at ps env n k. refuses;
}

module _ (w : Signatures) (names : CallsNames w) where
  pub act_written : (d : Datum) (env : Names) (u v : Notes) (s : ActTree) → parse_act w d env u ≡ Ok (s, v) → WritesAct s d
  act_written d env u v s e =
      IfOk-at_ok (λ x. WritesAct x.0 d) e ((form_ends statements w names WritesAct (λ at. WritesActForm) Body (rules w) tt d env).ends u)

  pub acts_end : (ds : Datums) (env : Names) → Ends (λ ss. WritesActs (act_trees_of ss) (in_order ds)) (parse_acts w ds env)
  acts_end ds env = body_ends statements w names WritesAct (λ at. WritesActForm) Body (rules w) tt ds env

  pub acts_written : (ds : Datums) (env : Names) (u v : Notes) (ss : List ActTree) → parse_acts w ds env u ≡ Ok (ss, v)
      → WritesActs (act_trees_of ss) (in_order ds)
  acts_written ds env u v ss e = IfOk-at_ok (λ x. Body x.0 (in_order ds)) e ((acts_end ds env).ends u)
