-- The one expression that can write a form: a lemma for each row.
use Rattle.std.proofs.Common.{◌≡◌, ℕ, ℤ, Bool, true, List, [], ◌∷◌, refl, sym, ap, ◌∙◌}
use Rattle.std.specs.Prelude.{Option, Some, None, codes, ◌&&◌}
use Rattle.std.specs.Str.{bytes_eq}
use Rattle.cl_syntax.specs.Expr.{bindings_of}
use Rattle.cl_syntax.specs.ExprTree.{ExprTree, ExprTrees, Bindings, expr_trees_of, none, part, binding}
use Rattle.cl_syntax.specs.ExprTree as expr
use Rattle.cl_syntax.specs.declared.expressions.Binding.{Binding}
use Rattle.cl_syntax.specs.declared.operators.Operator.{Operator}
use Rattle.cl_syntax.specs.declared.operators.Operator.TheVariants.{Record}
use Rattle.cl_syntax.specs.declared.operators.RecordOperator.TheVariants.{Make, Get, With}
use Rattle.cl_value.specs.Data as value
use Rattle.cl_table.specs.Names.{named}
use Rattle.cl_forms.specs.Datum.{Datum, Datums, number, literal, word, quoted, stray, list, item, in_order}
use Rattle.cl_forms.specs.Datum as datum
use Rattle.cl_forms.specs.Naming.{name_in}
use Rattle.cl_words.specs.Heads.{head_named}
use Rattle.cl_expressions.specs.Scopes.{among}
use Rattle.cl_grammar.specs.Heads.{Counted, operators, fixed_heads}
use Rattle.cl_grammar.specs.Writes.{Writes, WritesForm, WritesAll, WritesBindings, a_number, a_text, a_quoted_name, a_slot, an_if, a_let, an_and, an_or, a_make, a_get, a_with, a_map, a_filter, a_fold, an_operation, a_call, no_more, one_more, no_binding, one_binding}
use Rattle.cl_grammar.proofs.Spelled.{false_true, both_parts, same_word, missed, found_one}

-- no other expression writes the datum
abbrev pub Only : ExprTree → Datum → Type 0
Only t d = (s : ExprTree) → Writes s d → s ≡ t

-- no other expressions write the data
abbrev pub OnlyAll : List ExprTree → List Datum → Type 0
OnlyAll ts ds = (us : ExprTrees) → WritesAll us ds → us ≡ expr_trees_of ts

-- no other bindings write the data
abbrev pub OnlyBindings : List Binding → List Datum → Type 0
OnlyBindings bs ds = (cs : Bindings) → WritesBindings cs ds → cs ≡ bindings_of bs

-- no other bindings write the parts of the datum, where it is a list
abbrev pub OnlyList : List Binding → Datum → Type 0
OnlyList bs (list ds at) = OnlyBindings bs (in_order ds)
OnlyList bs (number z at) = Unit {0}
OnlyList bs (literal s at) = Unit {0}
OnlyList bs (word s at) = Unit {0}
OnlyList bs (quoted s at name_at) = Unit {0}
OnlyList bs (stray at) = Unit {0}

-- no other expression writes the parts of a form
abbrev pub OnlyForm : ExprTree → List Datum → Type 0
OnlyForm t ds = (s : ExprTree) → WritesForm s ds → s ≡ t

same_name : (n : Datum) (x y : List ℕ) → name_in n ≡ Some x → name_in n ≡ Some y → y ≡ x
same_name n x y e f = cc

pub only_number : (z : ℤ) (at : ℕ) → Only (expr.Constant (value.int z)) (number z at)
only_number z at s a_number = refl

pub only_literal : (x : List ℕ) (at : ℕ) → Only (expr.Constant (value.text x)) (literal x at)
only_literal x at s a_text = refl

pub only_quoted : (x : List ℕ) (at name_at : ℕ) → Only (expr.Constant (value.symbol x)) (quoted x at name_at)
only_quoted x at name_at s a_quoted_name = refl

pub only_none : OnlyAll [] []
only_none us no_more = refl

pub only_more : (t : ExprTree) (ts : List ExprTree) (d : Datum) (ds : List Datum) → Only t d → OnlyAll ts ds → OnlyAll (t ∷ ts) (d ∷ ds)
only_more t ts d ds f g us (one_more {t = x} {ts = xs} i j) =
    let p : x ≡ t = f x i in let q : xs ≡ expr_trees_of ts = g xs j in λ n. part (p n) (q n)

pub only_unbound : OnlyBindings [] []
only_unbound cs no_binding = refl

pub only_bound : (x : List ℕ) (t : ExprTree) (n e : Datum) (at : ℕ) (bs : List Binding) (ds : List Datum) → name_in n ≡ Some x → Only t e
    → OnlyBindings bs ds → OnlyBindings (record { name = x; value = t } ∷ bs) (list (item n (item e datum.none)) at ∷ ds)
only_bound x t n e at bs ds f g k cs (one_binding {x = y} {t = u} {bs = us} i j l) =
    let p : y ≡ x = same_name n x y f i in let q : u ≡ t = g u j in let r : us ≡ bindings_of bs = k us l in λ m. binding (p m) (q m) (r m)

-- ---- rows

pub only_slot : (x : List ℕ) (h : ℕ) (n : Datum) → name_in n ≡ Some x → OnlyForm (expr.Slot x) (word (codes "slot") h ∷ n ∷ [])
only_slot x h n f s (a_slot {x = y} i) =
    ap expr.Slot (same_name n x y f i)
only_slot x h n f s (an_operation e i j) = cc
only_slot x h n f s (a_call e i) = absurd (false_true (sym e.is_not_fixed))

pub only_if : (t u v : ExprTree) (h : ℕ) (a b c : Datum) → Only t a → Only u b → Only v c
    → OnlyForm (expr.If t u v) (word (codes "if") h ∷ a ∷ b ∷ c ∷ [])
only_if t u v h a b c f g k s (an_if {t = x} {u = y} {v = z} i j l) =
    let p : x ≡ t = f x i in let q : y ≡ u = g y j in let r : z ≡ v = k z l in λ m. expr.If (p m) (q m) (r m)
only_if t u v h a b c f g k s (an_operation e i j) = cc
only_if t u v h a b c f g k s (a_call e i) = absurd (false_true (sym e.is_not_fixed))

pub only_let : (bs : List Binding) (t : ExprTree) (h : ℕ) (d b : Datum) → OnlyList bs d → Only t b
    → OnlyForm (expr.Let (bindings_of bs) t) (word (codes "let") h ∷ d ∷ b ∷ [])
only_let bs t h d b f g s (a_let {bs = cs} {t = x} i j) =
    let p : cs ≡ bindings_of bs = f cs i in let q : x ≡ t = g x j in λ m. expr.Let (p m) (q m)
only_let bs t h d b f g s (an_operation e i j) = cc
only_let bs t h d b f g s (a_call e i) = absurd (false_true (sym e.is_not_fixed))

pub only_and : (ts : List ExprTree) (h : ℕ) (ds : List Datum) → OnlyAll ts ds → OnlyForm (expr.And (expr_trees_of ts)) (word (codes "and") h ∷ ds)
only_and ts h ds f s (an_and {ts = us} i) =
    ap expr.And (f us i)
only_and ts h ds f s (an_operation e i j) = cc
only_and ts h ds f s (a_call e i) = absurd (false_true (sym e.is_not_fixed))

pub only_or : (ts : List ExprTree) (h : ℕ) (ds : List Datum) → OnlyAll ts ds → OnlyForm (expr.Or (expr_trees_of ts)) (word (codes "or") h ∷ ds)
only_or ts h ds f s (an_or {ts = us} i) =
    ap expr.Or (f us i)
only_or ts h ds f s (an_operation e i j) = cc
only_or ts h ds f s (a_call e i) = absurd (false_true (sym e.is_not_fixed))

pub only_make : (x : List ℕ) (ts : List ExprTree) (h : ℕ) (n : Datum) (ds : List Datum) → name_in n ≡ Some x → OnlyAll ts ds
    → OnlyForm (expr.Operation (Record (Make x)) (expr_trees_of ts)) (word (codes "make") h ∷ n ∷ ds)
only_make x ts h n ds f g s (a_make {x = y} {ts = us} i j) =
    let p : y ≡ x = same_name n x y f i in let q : us ≡ expr_trees_of ts = g us j in λ m. expr.Operation (Record (Make (p m))) (q m)
only_make x ts h n ds f g s (an_operation e i j) = cc
only_make x ts h n ds f g s (a_call e i) = absurd (false_true (sym e.is_not_fixed))

pub only_get : (x : List ℕ) (t : ExprTree) (h : ℕ) (a n : Datum) → name_in n ≡ Some x → Only t a
    → OnlyForm (expr.Operation (Record (Get x)) (part t none)) (word (codes "get") h ∷ a ∷ n ∷ [])
only_get x t h a n f g s (a_get {x = y} {t = u} i j) =
    let p : y ≡ x = same_name n x y f j in let q : u ≡ t = g u i in λ m. expr.Operation (Record (Get (p m))) (part (q m) none)
only_get x t h a n f g s (an_operation e i j) = cc
only_get x t h a n f g s (a_call e i) = absurd (false_true (sym e.is_not_fixed))

pub only_with : (x : List ℕ) (t u : ExprTree) (h : ℕ) (a n b : Datum) → name_in n ≡ Some x → Only t a → Only u b
    → OnlyForm (expr.Operation (Record (With x)) (part t (part u none))) (word (codes "with") h ∷ a ∷ n ∷ b ∷ [])
only_with x t u h a n b f g k s (a_with {x = y} {t = v} {u = z} i j l) =
    let p : y ≡ x = same_name n x y f j in let q : v ≡ t = g v i in let r : z ≡ u = k z l in
    λ m. expr.Operation (Record (With (p m))) (part (q m) (part (r m) none))
only_with x t u h a n b f g k s (an_operation e i j) = cc
only_with x t u h a n b f g k s (a_call e i) = absurd (false_true (sym e.is_not_fixed))

pub only_map : (x : List ℕ) (t u : ExprTree) (h : ℕ) (n a b : Datum) → name_in n ≡ Some x → Only t a → Only u b
    → OnlyForm (expr.Map x t u) (word (codes "map") h ∷ n ∷ a ∷ b ∷ [])
only_map x t u h n a b f g k s (a_map {x = y} {t = v} {u = z} i j l) =
    let p : y ≡ x = same_name n x y f i in let q : v ≡ t = g v j in let r : z ≡ u = k z l in λ m. expr.Map (p m) (q m) (r m)
only_map x t u h n a b f g k s (an_operation e i j) = cc
only_map x t u h n a b f g k s (a_call e i) = absurd (false_true (sym e.is_not_fixed))

pub only_filter : (x : List ℕ) (t u : ExprTree) (h : ℕ) (n a b : Datum) → name_in n ≡ Some x → Only t a → Only u b
    → OnlyForm (expr.Filter x t u) (word (codes "filter") h ∷ n ∷ a ∷ b ∷ [])
only_filter x t u h n a b f g k s (a_filter {x = y} {t = v} {u = z} i j l) =
    let p : y ≡ x = same_name n x y f i in let q : v ≡ t = g v j in let r : z ≡ u = k z l in λ m. expr.Filter (p m) (q m) (r m)
only_filter x t u h n a b f g k s (an_operation e i j) = cc
only_filter x t u h n a b f g k s (a_call e i) = absurd (false_true (sym e.is_not_fixed))

pub only_fold : (x y : List ℕ) (t u v : ExprTree) (h : ℕ) (n a o b c : Datum) → name_in n ≡ Some x → Only t a → name_in o ≡ Some y
    → Only u b → Only v c → OnlyForm (expr.Fold x t y u v) (word (codes "fold") h ∷ n ∷ a ∷ o ∷ b ∷ c ∷ [])
only_fold x y t u v h n a o b c f g k l r s (a_fold {x = x'} {y = y'} {t = t'} {u = u'} {v = v'} i1 i2 i3 i4 i5) =
    let p1 : x' ≡ x = same_name n x x' f i1 in let p2 : t' ≡ t = g t' i2 in let p3 : y' ≡ y = same_name o y y' k i3 in
    let p4 : u' ≡ u = l u' i4 in let p5 : v' ≡ v = r v' i5 in λ m. expr.Fold (p1 m) (p2 m) (p3 m) (p4 m) (p5 m)
only_fold x y t u v h n a o b c f g k l r s (an_operation e i j) = cc
only_fold x y t u v h n a o b c f g k l r s (a_call e i) = absurd (false_true (sym e.is_not_fixed))

-- ---- operators and calls

none_some : {A : Type 0} {a : A} → ◌≡◌ {A = Option A} None (Some a) → ⊥
none_some e = cc

abbrev all_fixed : List (List ℕ × Counted) → Bool
all_fixed [] = true
all_fixed (e ∷ es) = among e.0 fixed_heads && all_fixed es

operator_fixed : (x : List ℕ) (es : List (List ℕ × Counted)) (c : Counted) → all_fixed es ≡ true → named x es ≡ Some c → among x fixed_heads ≡ true
operator_fixed x [] c h e = cc
operator_fixed x (f ∷ es) c h e =
    let parts : (among f.0 fixed_heads ≡ true) × (all_fixed es ≡ true) = both_parts (among f.0 fixed_heads) (all_fixed es) h in
    found_one (bytes_eq x f.0) f.1 (named x es) c (among x fixed_heads ≡ true) (λ i. ap (λ y. among y fixed_heads) (same_word x f.0 i) ∙ parts.0)
    (operator_fixed x es c parts.1) e

same_count : (r : Option Counted) (c d : Counted) → r ≡ Some c → r ≡ Some d → d ≡ c
same_count r c d e f = cc

pub only_operation : (o : Operator) (count : Option ℕ) (ts : List ExprTree) (x : List ℕ) (h : ℕ) (ds : List Datum) → named x operators ≡ Some (o, count)
    → OnlyAll ts ds → OnlyForm (expr.Operation o (expr_trees_of ts)) (word x h ∷ ds)
only_operation o count ts x h ds e f s (an_operation {o = p} {count = n} {ts = us} i j l) =
    let q : p ≡ o = ap (λ (c : Counted). c.0) (same_count (named x operators) (o, count) (p, n) e i) in
    let r : us ≡ expr_trees_of ts = f us l in λ m. expr.Operation (q m) (r m)
only_operation o count ts x h ds e f s (a_call i j) = absurd (false_true (sym i.is_not_fixed ∙ operator_fixed x operators (o, count) refl e))
only_operation o count ts x h ds e f s (a_slot i) = cc
only_operation o count ts x h ds e f s (an_if i j l) = cc
only_operation o count ts x h ds e f s (a_let i j) = cc
only_operation o count ts x h ds e f s (an_and i) = cc
only_operation o count ts x h ds e f s (an_or i) = cc
only_operation o count ts x h ds e f s (a_make i j) = cc
only_operation o count ts x h ds e f s (a_get i j) = cc
only_operation o count ts x h ds e f s (a_with i j l) = cc
only_operation o count ts x h ds e f s (a_map i j l) = cc
only_operation o count ts x h ds e f s (a_filter i j l) = cc
only_operation o count ts x h ds e f s (a_fold i j l q r) = cc

pub only_call : (ts : List ExprTree) (x : List ℕ) (h : ℕ) (ds : List Datum) → head_named x ≡ None → OnlyAll ts ds
    → OnlyForm (expr.Call x (expr_trees_of ts)) (word x h ∷ ds)
only_call ts x h ds e f s (a_call {ts = us} i j) = ap (expr.Call x) (f us j)
only_call ts x h ds e f s (an_operation {o} {count} i j l) = absurd (none_some (sym (missed x operators refl e) ∙ i))
only_call ts x h ds e f s (a_slot i) = cc
only_call ts x h ds e f s (an_if i j l) = cc
only_call ts x h ds e f s (a_let i j) = cc
only_call ts x h ds e f s (an_and i) = cc
only_call ts x h ds e f s (an_or i) = cc
only_call ts x h ds e f s (a_make i j) = cc
only_call ts x h ds e f s (a_get i j) = cc
only_call ts x h ds e f s (a_with i j l) = cc
only_call ts x h ds e f s (a_map i j l) = cc
only_call ts x h ds e f s (a_filter i j l) = cc
only_call ts x h ds e f s (a_fold i j l q r) = cc
