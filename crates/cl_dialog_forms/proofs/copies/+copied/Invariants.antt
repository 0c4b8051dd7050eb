use Rattle.std.proofs.Common.{◌≡◌, ◌+◌, ◌*◌, take}
use Rattle.cl_syntax.specs.ExprTree.{nodes, nodes_all, nodes_bound, expr_trees_of}
use Rattle.cl_syntax.specs.Expr.{bindings_of}
use Rattle.cl_dialog_forms.proofs.copies.+copied.Given as goal

abbrev pub decreases-copied : goal.decreases-copied
decreases-copied l = 2 * nodes l.expr.now

abbrev pub decreases-copied_parts : goal.decreases-copied_parts
decreases-copied_parts l = 2 * nodes_all (expr_trees_of l.parts.now) + 1

abbrev pub decreases-copied_bindings : goal.decreases-copied_bindings
decreases-copied_bindings l = 2 * nodes_bound (bindings_of l.bindings.now) + 1

abbrev pub invariant-copied_parts-loop-part : goal.invariant-copied_parts-loop-part
invariant-copied_parts-loop-part l = l.copies.items ≡ take l.part-index l.parts

abbrev pub invariant-copied_bindings-loop-binding : goal.invariant-copied_bindings-loop-binding
invariant-copied_bindings-loop-binding l = l.copies.items ≡ take l.binding-index l.bindings
