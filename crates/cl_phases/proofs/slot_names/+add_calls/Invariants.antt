use Rattle.std.proofs.Common.{◌≡◌, ◌+◌, ◌*◌, ◌++◌, drop}
use Rattle.cl_syntax.specs.ExprTree.{nodes, nodes_all, nodes_bound, expr_trees_of}
use Rattle.cl_syntax.specs.Expr.{bindings_of}
use Rattle.cl_phases.specs.SlotSearch.{calls_among, calls_bound}
use Rattle.cl_phases.proofs.slot_names.+add_calls.Given as goal

abbrev pub decreases-add_calls : goal.decreases-add_calls
decreases-add_calls l = 2 * nodes l.expr.now

abbrev pub decreases-add_calls_among : goal.decreases-add_calls_among
decreases-add_calls_among l = 2 * nodes_all (expr_trees_of l.parts.now) + 1

abbrev pub decreases-add_calls_bound : goal.decreases-add_calls_bound
decreases-add_calls_bound l = 2 * nodes_bound (bindings_of l.bindings.now) + 1

abbrev pub invariant-add_calls_among-loop-part : goal.invariant-add_calls_among-loop-part
invariant-add_calls_among-loop-part l = l.names ++ calls_among (expr_trees_of (drop l.part-index l.parts)) ≡ l.initial.names ++ calls_among (expr_trees_of l.parts)

abbrev pub invariant-add_calls_bound-loop-binding : goal.invariant-add_calls_bound-loop-binding
invariant-add_calls_bound-loop-binding l = l.names ++ calls_bound (bindings_of (drop l.binding-index l.bindings)) ≡ l.initial.names ++ calls_bound (bindings_of l.bindings)
