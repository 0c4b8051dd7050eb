-- What is no path.
use Rattle.std.proofs.Common.{◌≡◌, ◌≤◌, ℕ, List, [], ◌∷◌, length, refl, arith}
use Rattle.std.specs.Prelude.{Option, None}
use Rattle.cl_syntax.specs.ExprTree as expr
use Rattle.cl_syntax.specs.ExprTree.{ExprTree, ExprTrees, expr_trees_of, part}
use Rattle.cl_syntax.specs.Paths.{Along}
use Rattle.cl_syntax.specs.declared.operators.Operator.TheVariants as operator
use Rattle.cl_syntax.specs.declared.operators.RecordOperator.TheVariants as fields
use Rattle.cl_syntax.specs.declared.paths.Path.{Path}
use Rattle.cl_cover.specs.Listed.{path_along, paths_of}

-- it adds no path
pub none_more : (t : ExprTree) (ts : ExprTrees) → path_along [] t ≡ None → paths_of (part t ts) ≡ paths_of ts
none_more t ts h = rw h refl

-- a field of many parts
pub none_of_many : (f : List ℕ) (ts : List ExprTree) (along : Along) → 2 ≤ length ts
    → ◌≡◌ {A = Option Path} None (path_along along (expr.Operation (operator.Record (fields.Get f)) (expr_trees_of ts)))
none_of_many f [] along l = absurd (omega (arith, l))
none_of_many f (t ∷ []) along l = absurd (omega (arith, l))
none_of_many f (t ∷ u ∷ ts) along l = refl
