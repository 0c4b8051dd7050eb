-- An expression's parts have fewer forms than it has, by which a recursion over expressions ends.
use Rattle.std.specs.Prelude.{◌≤◌, ◌+◌, List, [], ◌∷◌}
use Rattle.std.proofs.Common.{arith}
use Rattle.cl_syntax.specs.ExprTree.{ExprTree, expr_trees_of, nodes, nodes_all, nodes_bound}
use Rattle.cl_syntax.specs.Expr.{expr_tree_of, bindings_of}
use Rattle.cl_syntax.specs.declared.expressions.Binding.{Binding}
use Rattle.cl_syntax.specs.declared.expressions.ExprKind.{ExprKind}
use Rattle.cl_syntax.specs.declared.expressions.ExprKind.TheVariants as kind
use Rattle.cl_syntax.specs.declared.expressions.Expr.TheDeep.{deep-Binding, deep-ExprKind}
use denote.Param.Weighed.{most}

-- no expression of a row is larger than the row
pub most-nodes : (ts : List ExprTree) → most (λ t. nodes t + 1) ts ≤ nodes_all (expr_trees_of ts) + 1
most-nodes [] = omega arith
most-nodes (t ∷ ts) = omega (arith, most-nodes ts)

-- no binding of a row is deeper than the row is large
pub most-bound : (bs : List Binding) → most deep-Binding bs ≤ nodes_bound (bindings_of bs) + 1
most-bound [] = omega arith
most-bound (b ∷ bs) = omega (arith, most-bound bs)

-- an expression is no deeper than its tree is large
pub kind-nodes : (k : ExprKind) → deep-ExprKind k ≤ nodes (expr_tree_of k)
kind-nodes (kind.Constant v) = omega arith
kind-nodes (kind.Variable x) = omega arith
kind-nodes (kind.Slot x) = omega arith
kind-nodes (kind.If c) = omega arith
kind-nodes (kind.Let bs t) = omega (arith, most-bound bs.items)
kind-nodes (kind.And ts) = omega (arith, most-nodes ts.items)
kind-nodes (kind.Or ts) = omega (arith, most-nodes ts.items)
kind-nodes (kind.Map e) = omega arith
kind-nodes (kind.Filter e) = omega arith
kind-nodes (kind.Fold f) = omega arith
kind-nodes (kind.Operation o ts) = omega (arith, most-nodes ts.items)
kind-nodes (kind.Call f ts) = omega (arith, most-nodes ts.items)
