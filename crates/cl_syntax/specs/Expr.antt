-- The tree that an expression of the program stands for.
use Rattle.std.specs.Prelude.{List, [], ◌∷◌}
use Rattle.cl_value.specs.Value.{data_of}
use Rattle.cl_syntax.specs.ExprTree as expr
use Rattle.cl_syntax.specs.ExprTree.{ExprTree, Bindings, expr_trees_of, unbound, binding}
use Rattle.cl_syntax.specs.declared.expressions.Binding.{Binding}
use Rattle.cl_syntax.specs.declared.expressions.ExprKind.{ExprKind}
use Rattle.cl_syntax.specs.declared.expressions.ExprKind.TheVariants as kind

-- a list of bindings as a tree holds it
abbrev pub bindings_of : List Binding → Bindings
bindings_of [] = unbound
bindings_of (b ∷ bs) = binding b.name b.value (bindings_of bs)

-- the tree of an expression
abbrev pub expr_tree_of : ExprKind → ExprTree
expr_tree_of (kind.Constant v) = expr.Constant (data_of v)
expr_tree_of (kind.Variable x) = expr.Variable x
expr_tree_of (kind.Slot x) = expr.Slot x
expr_tree_of (kind.If c) = expr.If c.value.test c.value.then c.value.other
expr_tree_of (kind.Let bs t) = expr.Let (bindings_of bs.items) t.value
expr_tree_of (kind.And ts) = expr.And (expr_trees_of ts.items)
expr_tree_of (kind.Or ts) = expr.Or (expr_trees_of ts.items)
expr_tree_of (kind.Map e) = expr.Map e.value.name e.value.list e.value.body
expr_tree_of (kind.Filter e) = expr.Filter e.value.name e.value.list e.value.body
expr_tree_of (kind.Fold f) =
    expr.Fold f.value.name f.value.list f.value.accumulator f.value.opening f.value.body
expr_tree_of (kind.Operation o ts) = expr.Operation o (expr_trees_of ts.items)
expr_tree_of (kind.Call f ts) = expr.Call f (expr_trees_of ts.items)
