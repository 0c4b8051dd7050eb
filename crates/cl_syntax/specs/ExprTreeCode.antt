-- How the logic stores a term.
use Rattle.std.proofs.Common.{◌≡◌, ℕ, refl, ap}
use Rattle.std.proofs.lemmas.Bool.{eqb-false}
use Rattle.std.specs.Coded.{Coded}
use base.Stored.{Gv, gnil, gnum, gcons}
use Rattle.cl_value.specs.Data.{data_code}
use Rattle.cl_syntax.specs.contracts.operators.Operator as operator
use Rattle.cl_syntax.specs.Code.{head, tail, tag, has_parts, name_code, name_code-inj}
use Rattle.cl_syntax.specs.ExprTree.{ExprTree, Constant, Variable, Slot, If, Let, And, Or, Map, Filter, Fold, Operation, Call, ExprTrees, none, part, Bindings, unbound, binding}

-- the place of an expression's row in the table
abbrev pub row : ExprTree → ℕ
row (Constant d) = 0
row (Variable x) = 1
row (Slot x) = 2
row (If t u v) = 3
row (Let bs t) = 4
row (And ts) = 5
row (Or ts) = 6
row (Map x t u) = 7
row (Filter x t u) = 8
row (Fold x t a u v) = 9
row (Operation o ts) = 10
row (Call f ts) = 11

abbrev mutual
  -- the term of an expression
  pub code : ExprTree → Gv
  code (Constant d) = gcons (gnum 0) (data_code.code d)
  code (Variable x) = gcons (gnum 1) (name_code x)
  code (Slot x) = gcons (gnum 2) (name_code x)
  code (If t u v) = gcons (gnum 3) (gcons (code t) (gcons (code u) (code v)))
  code (Let bs t) = gcons (gnum 4) (gcons (code_bound bs) (code t))
  code (And ts) = gcons (gnum 5) (code_all ts)
  code (Or ts) = gcons (gnum 6) (code_all ts)
  code (Map x t u) = gcons (gnum 7) (gcons (name_code x) (gcons (code t) (code u)))
  code (Filter x t u) = gcons (gnum 8) (gcons (name_code x) (gcons (code t) (code u)))
  code (Fold x t a u v) = gcons (gnum 9) (gcons (name_code x) (gcons (code t) (gcons (name_code a) (gcons (code u) (code v)))))
  code (Operation o ts) = gcons (gnum 10) (gcons (operator.the_row.coded.code o) (code_all ts))
  code (Call f ts) = gcons (gnum 11) (gcons (name_code f) (code_all ts))

  -- the term of a row of expressions
  pub code_all : ExprTrees → Gv
  code_all none = gnil
  code_all (part t ts) = gcons (code t) (code_all ts)

  -- the term of a row of bindings
  pub code_bound : Bindings → Gv
  code_bound unbound = gnil
  code_bound (binding x t bs) = gcons (name_code x) (gcons (code t) (code_bound bs))

mutual
  -- expressions of one term are one expression
  pub code-inj : (x y : ExprTree) → code x ≡ code y → x ≡ y
  code-inj (Constant d) (Constant d') p = ap Constant (data_code.inj d d' (ap tail p))
  code-inj (Variable x) (Variable x') p = ap Variable (name_code-inj x x' (ap tail p))
  code-inj (Slot x) (Slot x') p = ap Slot (name_code-inj x x' (ap tail p))
  code-inj (If t u v) (If t' u' v') p =
      let pt : t ≡ t' = code-inj t t' (ap (λ g. head (tail g)) p) in
      let pu : u ≡ u' = code-inj u u' (ap (λ g. head (tail (tail g))) p) in
      let pv : v ≡ v' = code-inj v v' (ap (λ g. tail (tail (tail g))) p) in
      λ i. If (pt i) (pu i) (pv i)
  code-inj (Let bs t) (Let bs' t') p =
      let pbs : bs ≡ bs' = code_bound-inj bs bs' (ap (λ g. head (tail g)) p) in
      let pt : t ≡ t' = code-inj t t' (ap (λ g. tail (tail g)) p) in
      λ i. Let (pbs i) (pt i)
  code-inj (And ts) (And ts') p = ap And (code_all-inj ts ts' (ap tail p))
  code-inj (Or ts) (Or ts') p = ap Or (code_all-inj ts ts' (ap tail p))
  code-inj (Map x t u) (Map x' t' u') p =
      let px : x ≡ x' = name_code-inj x x' (ap (λ g. head (tail g)) p) in
      let pt : t ≡ t' = code-inj t t' (ap (λ g. head (tail (tail g))) p) in
      let pu : u ≡ u' = code-inj u u' (ap (λ g. tail (tail (tail g))) p) in
      λ i. Map (px i) (pt i) (pu i)
  code-inj (Filter x t u) (Filter x' t' u') p =
      let px : x ≡ x' = name_code-inj x x' (ap (λ g. head (tail g)) p) in
      let pt : t ≡ t' = code-inj t t' (ap (λ g. head (tail (tail g))) p) in
      let pu : u ≡ u' = code-inj u u' (ap (λ g. tail (tail (tail g))) p) in
      λ i. Filter (px i) (pt i) (pu i)
  code-inj (Fold x t a u v) (Fold x' t' a' u' v') p =
      let px : x ≡ x' = name_code-inj x x' (ap (λ g. head (tail g)) p) in
      let pt : t ≡ t' = code-inj t t' (ap (λ g. head (tail (tail g))) p) in
      let pa : a ≡ a' = name_code-inj a a' (ap (λ g. head (tail (tail (tail g)))) p) in
      let pu : u ≡ u' = code-inj u u' (ap (λ g. head (tail (tail (tail (tail g))))) p) in
      let pv : v ≡ v' = code-inj v v' (ap (λ g. tail (tail (tail (tail (tail g))))) p) in
      λ i. Fold (px i) (pt i) (pa i) (pu i) (pv i)
  code-inj (Operation o ts) (Operation o' ts') p =
      let po : o ≡ o' = operator.the_row.coded.inj o o' (ap (λ g. head (tail g)) p) in
      let pts : ts ≡ ts' = code_all-inj ts ts' (ap (λ g. tail (tail g)) p) in
      λ i. Operation (po i) (pts i)
  code-inj (Call f ts) (Call f' ts') p =
      let pf : f ≡ f' = name_code-inj f f' (ap (λ g. head (tail g)) p) in
      let pts : ts ≡ ts' = code_all-inj ts ts' (ap (λ g. tail (tail g)) p) in
      λ i. Call (pf i) (pts i)
  code-inj x y p = absurd (eqb-false (row x) (row y) refl (ap tag p))

  -- rows of one term are one row
  pub code_all-inj : (ts us : ExprTrees) → code_all ts ≡ code_all us → ts ≡ us
  code_all-inj none none p = refl
  code_all-inj (part t ts) (part u us) p =
      let first : t ≡ u = code-inj t u (ap head p) in
      let rest : ts ≡ us = code_all-inj ts us (ap tail p) in
      λ i. part (first i) (rest i)
  code_all-inj none (part u us) p = absurd (eqb-false 0 1 refl (ap has_parts p))
  code_all-inj (part t ts) none p = absurd (eqb-false 1 0 refl (ap has_parts p))

  -- bindings of one term are one row of bindings
  pub code_bound-inj : (bs cs : Bindings) → code_bound bs ≡ code_bound cs → bs ≡ cs
  code_bound-inj unbound unbound p = refl
  code_bound-inj (binding x t bs) (binding y u cs) p =
      let name : x ≡ y = name_code-inj x y (ap head p) in
      let first : t ≡ u = code-inj t u (ap (λ g. head (tail g)) p) in
      let rest : bs ≡ cs = code_bound-inj bs cs (ap (λ g. tail (tail g)) p) in
      λ i. binding (name i) (first i) (rest i)
  code_bound-inj unbound (binding y u cs) p = absurd (eqb-false 0 1 refl (ap has_parts p))
  code_bound-inj (binding x t bs) unbound p = absurd (eqb-false 1 0 refl (ap has_parts p))

-- how the logic stores an expression
abbrev pub coded_expr_tree : Coded ExprTree
coded_expr_tree = record { code = code; inj = code-inj }

-- how the logic stores a row of expressions
abbrev pub coded_expr_trees : Coded ExprTrees
coded_expr_trees = record { code = code_all; inj = code_all-inj }

-- how the logic stores bindings
abbrev pub coded_bindings : Coded Bindings
coded_bindings = record { code = code_bound; inj = code_bound-inj }
