-- How a dialog is written behind its name: the keys of its command and of its pane in any order, and its queries.
use Rattle.std.specs.Prelude.{◌≡◌, ℕ, false, List, [], ◌∷◌, map, Option, Some, None, codes}
use Rattle.cl_table.specs.Names.{with_first}
use Rattle.cl_syntax.specs.ExprTree.{ExprTree}
use Rattle.cl_forms.specs.Datum.{Datum, Datums, word, list, item, in_order, offset}
use Rattle.cl_forms.specs.Naming.{name_in}
use Rattle.cl_words.specs.Signatures.{arguments_of}
use Rattle.cl_words.specs.declared.signatures.Signatures.{Signatures}
use Rattle.cl_expressions.specs.Scopes.{Names}
use Rattle.cl_application.specs.declared.declarations.ConditionDecl.{ConditionDecl}
use Rattle.cl_application.specs.declared.declarations.DefaultDecl.{DefaultDecl}
use Rattle.cl_application.specs.declared.declarations.QueryDecl.{QueryDecl}
use Rattle.cl_declare.specs.DialogShapes.{is_choice}
use Rattle.cl_declare.specs.Dialogs.{QueryTable}
use Rattle.cl_grammar.specs.Writes.{Writes}

-- the command and the pane, as far as they are there, write the keys of a dialog: in any order, each once at most
pub data WritesDialogKeys : Option (List ℕ) → Option (List ℕ) → List Datum → Type 0 where
  no_key : WritesDialogKeys None None []
  -- :command COMMAND
  its_command : {c : List ℕ} {p : Option (List ℕ)} {n : Datum} {ds : List Datum} {key_at : ℕ} → name_in n ≡ Some c → WritesDialogKeys None p ds
      → WritesDialogKeys (Some c) p (word (codes ":command") key_at ∷ n ∷ ds)
  -- :pane PANE
  its_pane : {c : Option (List ℕ)} {p : List ℕ} {n : Datum} {ds : List Datum} {key_at : ℕ} → name_in n ≡ Some p → WritesDialogKeys c None ds
      → WritesDialogKeys c (Some p) (word (codes ":pane") key_at ∷ n ∷ ds)

-- ---- queries

-- when a query is shown and what stands for it where it is not, as far as they are there, write its keys: in any order, each once at most
pub data WritesQueryKeys : Option ExprTree → Option DefaultDecl → List Datum → Type 0 where
  no_query_key : WritesQueryKeys None None []
  -- :when E
  its_when : {t : ExprTree} {v : Option DefaultDecl} {e : Datum} {ds : List Datum} {key_at : ℕ} → Writes t e → WritesQueryKeys None v ds
      → WritesQueryKeys (Some t) v (word (codes ":when") key_at ∷ e ∷ ds)
  -- :else E
  its_else : {t : Option ExprTree} {v : ExprTree} {e : Datum} {ds : List Datum} {key_at : ℕ} → Writes v e → WritesQueryKeys t None ds
      → WritesQueryKeys t (Some (record { value = v; at = offset e })) (word (codes ":else") key_at ∷ e ∷ ds)

-- the condition of a query writes what stands behind its name: both keys, or none
pub data WritesCondition : Option ConditionDecl → List Datum → Type 0 where
  always_shown : WritesCondition None []
  shown_when : {t : ExprTree} {v : DefaultDecl} {ds : List Datum} → WritesQueryKeys (Some t) (Some v) ds
      → WritesCondition (Some (record { when = t; otherwise = v.value; otherwise_at = v.at })) ds

-- queries write data, one each
pub data WritesQueries : List QueryDecl → List Datum → Type 0 where
  no_query : WritesQueries [] []
  -- (ARGUMENT), or (ARGUMENT :when E :else E): not named as one of the choices that stand behind the queries
  one_query : {x : List ℕ} {c : Option ConditionDecl} {others : List QueryDecl} {n : Datum} {keys : Datums} {ds : List Datum} {at : ℕ} → name_in n ≡ Some x
      → is_choice x ≡ false → WritesCondition c (in_order keys) → WritesQueries others ds
      → WritesQueries (record { name = x; condition = c; at = at } ∷ others) (list (item n keys) at ∷ ds)

-- queries behind others: of two of one name the first counts
abbrev pub with_queries : QueryTable → List QueryDecl → QueryTable
with_queries table [] = table
with_queries table (q ∷ qs) = with_queries (with_first (λ d. d.name) table q) qs

-- the queries ask for the arguments of the command, all in their order, where it is declared and these can be told
abbrev pub AskFor : Signatures → List ℕ → List QueryDecl → Type 0
AskFor w c qs = (xs : Names) → arguments_of w c ≡ Some xs → map (λ q. q.name) qs ≡ xs
