-- How an expression is written: a row for each form of the language, with its offsets left out.
use Rattle.std.specs.Prelude.{◌≡◌, ℕ, ℤ, true, false, List, [], ◌∷◌, length, Option, Some, codes}
use Rattle.cl_value.specs.Data as value
use Rattle.cl_syntax.specs.ExprTree.{ExprTree, ExprTrees, Bindings, none, part, unbound, binding}
use Rattle.cl_syntax.specs.ExprTree as expr
use Rattle.cl_syntax.specs.declared.operators.Operator.{Operator}
use Rattle.cl_syntax.specs.declared.operators.Operator.TheVariants.{Record}
use Rattle.cl_syntax.specs.declared.operators.RecordOperator.TheVariants.{Make, Get, With}
use Rattle.cl_table.specs.Names.{named}
use Rattle.cl_forms.specs.Datum.{Datum, Datums, number, literal, word, quoted, list, in_order}
use Rattle.cl_forms.specs.Datum as datum
use Rattle.cl_forms.specs.Naming.{name_in, fits}
use Rattle.cl_forms.specs.Words.{is_name}
use Rattle.cl_grammar.specs.Heads.{operators, IsCallable}

mutual
  -- an expression writes a datum
  pub data Writes : ExprTree → Datum → Type 0 where
    a_number : {z : ℤ} {at : ℕ} → Writes (expr.Constant (value.int z)) (number z at)
    a_text : {s : List ℕ} {at : ℕ} → Writes (expr.Constant (value.text s)) (literal s at)
    a_quoted_name : {x : List ℕ} {at name_at : ℕ} → Writes (expr.Constant (value.symbol x)) (quoted x at name_at)
    the_true : {at : ℕ} → Writes (expr.Constant (value.bool true)) (word (codes "true") at)
    the_false : {at : ℕ} → Writes (expr.Constant (value.bool false)) (word (codes "false") at)
    the_null : {at : ℕ} → Writes (expr.Constant value.null) (word (codes "null") at)
    a_variable : {x : List ℕ} {at : ℕ} → is_name x ≡ true → Writes (expr.Variable x) (word x at)
    a_form : {t : ExprTree} {ds : Datums} {at : ℕ} → WritesForm t (in_order ds) → Writes t (list ds at)

  -- an expression writes the parts of a list
  pub data WritesForm : ExprTree → List Datum → Type 0 where
    -- (slot NAME)
    a_slot : {x : List ℕ} {n : Datum} {h : ℕ} → name_in n ≡ Some x → WritesForm (expr.Slot x) (word (codes "slot") h ∷ n ∷ [])
    -- (if TEST THEN ELSE)
    an_if : {t u v : ExprTree} {a b c : Datum} {h : ℕ} → Writes t a → Writes u b → Writes v c
        → WritesForm (expr.If t u v) (word (codes "if") h ∷ a ∷ b ∷ c ∷ [])
    -- (let ((NAME E) ...) BODY)
    a_let : {bs : Bindings} {t : ExprTree} {ds : Datums} {b : Datum} {at h : ℕ} → WritesBindings bs (in_order ds) → Writes t b
        → WritesForm (expr.Let bs t) (word (codes "let") h ∷ list ds at ∷ b ∷ [])
    -- (and E ...)
    an_and : {ts : ExprTrees} {ds : List Datum} {h : ℕ} → WritesAll ts ds → WritesForm (expr.And ts) (word (codes "and") h ∷ ds)
    -- (or E ...)
    an_or : {ts : ExprTrees} {ds : List Datum} {h : ℕ} → WritesAll ts ds → WritesForm (expr.Or ts) (word (codes "or") h ∷ ds)
    -- (make RECORD E ...)
    a_make : {x : List ℕ} {ts : ExprTrees} {n : Datum} {ds : List Datum} {h : ℕ} → name_in n ≡ Some x → WritesAll ts ds
        → WritesForm (expr.Operation (Record (Make x)) ts) (word (codes "make") h ∷ n ∷ ds)
    -- (get E FIELD)
    a_get : {x : List ℕ} {t : ExprTree} {a n : Datum} {h : ℕ} → Writes t a → name_in n ≡ Some x
        → WritesForm (expr.Operation (Record (Get x)) (part t none)) (word (codes "get") h ∷ a ∷ n ∷ [])
    -- (with E FIELD E)
    a_with : {x : List ℕ} {t u : ExprTree} {a n b : Datum} {h : ℕ} → Writes t a → name_in n ≡ Some x → Writes u b
        → WritesForm (expr.Operation (Record (With x)) (part t (part u none))) (word (codes "with") h ∷ a ∷ n ∷ b ∷ [])
    -- (map NAME LIST BODY)
    a_map : {x : List ℕ} {t u : ExprTree} {n a b : Datum} {h : ℕ} → name_in n ≡ Some x → Writes t a → Writes u b
        → WritesForm (expr.Map x t u) (word (codes "map") h ∷ n ∷ a ∷ b ∷ [])
    -- (filter NAME LIST BODY)
    a_filter : {x : List ℕ} {t u : ExprTree} {n a b : Datum} {h : ℕ} → name_in n ≡ Some x → Writes t a → Writes u b
        → WritesForm (expr.Filter x t u) (word (codes "filter") h ∷ n ∷ a ∷ b ∷ [])
    -- (fold NAME LIST ACCUMULATOR OPENING BODY)
    a_fold : {x y : List ℕ} {t u v : ExprTree} {n a m b c : Datum} {h : ℕ} → name_in n ≡ Some x → Writes t a
        → name_in m ≡ Some y → Writes u b → Writes v c → WritesForm (expr.Fold x t y u v) (word (codes "fold") h ∷ n ∷ a ∷ m ∷ b ∷ c ∷ [])
    -- (OPERATOR E ...)
    an_operation : {x : List ℕ} {o : Operator} {count : Option ℕ} {ts : ExprTrees} {ds : List Datum} {h : ℕ}
        → named x operators ≡ Some (o, count) → fits count (length ds) ≡ true → WritesAll ts ds → WritesForm (expr.Operation o ts) (word x h ∷ ds)
    -- (FUNCTION E ...)
    a_call : {x : List ℕ} {ts : ExprTrees} {ds : List Datum} {h : ℕ} → IsCallable x → WritesAll ts ds → WritesForm (expr.Call x ts) (word x h ∷ ds)

  -- expressions write data, one each
  pub data WritesAll : ExprTrees → List Datum → Type 0 where
    no_more : WritesAll none []
    one_more : {t : ExprTree} {ts : ExprTrees} {d : Datum} {ds : List Datum} → Writes t d → WritesAll ts ds → WritesAll (part t ts) (d ∷ ds)

  -- bindings write data, one each: (NAME E)
  pub data WritesBindings : Bindings → List Datum → Type 0 where
    no_binding : WritesBindings unbound []
    one_binding : {x : List ℕ} {t : ExprTree} {bs : Bindings} {n e : Datum} {ds : List Datum} {at : ℕ} → name_in n ≡ Some x → Writes t e
        → WritesBindings bs ds → WritesBindings (binding x t bs) (list (datum.item n (datum.item e datum.none)) at ∷ ds)
