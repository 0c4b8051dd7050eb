-- How an update is written before its body: its keys in any order, each once at most.
use Rattle.std.specs.Prelude.{◌≡◌, ℕ, true, List, [], ◌∷◌, Option, Some, None, codes}
use Rattle.cl_syntax.specs.ExprTree.{ExprTree, ExprTrees}
use Rattle.cl_syntax.specs.ExprTree as expr
use Rattle.cl_syntax.specs.UpdateTree.{UpdateTree}
use Rattle.cl_syntax.specs.declared.operators.Operator.TheVariants.{Record}
use Rattle.cl_syntax.specs.declared.operators.RecordOperator.TheVariants.{Get}
use Rattle.cl_forms.specs.Datum.{Datum, Datums, word, list, item, none, in_order}
use Rattle.cl_forms.specs.Naming.{name_in}
use Rattle.cl_forms.specs.Words.{is_name}
use Rattle.cl_grammar.specs.Writes.{Writes}

-- a path writes a datum
pub data WritesPath : ExprTree → Datum → Type 0 where
  -- NAME
  a_variable : {x : List ℕ} {at : ℕ} → is_name x ≡ true → WritesPath (expr.Variable x) (word x at)
  -- (slot NAME)
  a_slot : {x : List ℕ} {n : Datum} {h at : ℕ} → name_in n ≡ Some x → WritesPath (expr.Slot x) (list (item (word (codes "slot") h) (item n none)) at)
  -- (get PATH FIELD)
  a_field : {x : List ℕ} {t : ExprTree} {p n : Datum} {h at : ℕ} → WritesPath t p → name_in n ≡ Some x
      → WritesPath (expr.Operation (Record (Get x)) (expr.part t expr.none)) (list (item (word (codes "get") h) (item p (item n none))) at)

-- paths write data, one each
pub data WritesPaths : ExprTrees → List Datum → Type 0 where
  no_path : WritesPaths expr.none []
  one_path : {t : ExprTree} {ts : ExprTrees} {d : Datum} {ds : List Datum} → WritesPath t d → WritesPaths ts ds → WritesPaths (expr.part t ts) (d ∷ ds)

-- the id and the paths of the cache, as far as they are there, write the keys
pub data WritesUpdateKeys : Option ExprTree → Option ExprTrees → List Datum → Type 0 where
  no_key : WritesUpdateKeys None None []
  -- :unique-id E
  its_id : {t : ExprTree} {c : Option ExprTrees} {e : Datum} {ds : List Datum} {key_at : ℕ} → Writes t e → WritesUpdateKeys None c ds
      → WritesUpdateKeys (Some t) c (word (codes ":unique-id") key_at ∷ e ∷ ds)
  -- :cache-value (list PATH ...)
  its_cache : {i : Option ExprTree} {ts : ExprTrees} {es : Datums} {ds : List Datum} {key_at list_at h : ℕ} → WritesPaths ts (in_order es)
      → WritesUpdateKeys i None ds
      → WritesUpdateKeys i (Some ts) (word (codes ":cache-value") key_at ∷ list (item (word (codes "list") h) es) list_at ∷ ds)

-- an update of the form at this offset writes the parts of a list
pub data WritesUpdate (at : ℕ) : UpdateTree → List Datum → Type 0 where
  an_update : {i : Option ExprTree} {c : Option ExprTrees} {ds : List Datum} → WritesUpdateKeys i c ds
      → WritesUpdate at (record { site = record { form = at; query = 0 }; id = i; cache = c }) ds
