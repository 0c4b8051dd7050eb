use Rattle.std.proofs.Common.{◌≡◌, ◌+◌, ◌*◌, drop}
use Rattle.cl_syntax.specs.ExprTree.{nodes, nodes_all, nodes_bound, expr_trees_of}
use Rattle.cl_syntax.specs.Expr.{bindings_of}
use Rattle.cl_phases.specs.SlotSearch.{names_slot_among, names_slot_bound}
use Rattle.cl_phases.proofs.slot_names.+names_slot.Given as goal

abbrev pub decreases-names_slot : goal.decreases-names_slot
decreases-names_slot l = 2 * nodes l.expr.now

abbrev pub decreases-names_slot_among : goal.decreases-names_slot_among
decreases-names_slot_among l = 2 * nodes_all (expr_trees_of l.parts.now) + 1

abbrev pub decreases-names_slot_bound : goal.decreases-names_slot_bound
decreases-names_slot_bound l = 2 * nodes_bound (bindings_of l.bindings.now) + 1

abbrev pub invariant-names_slot_among-loop-part : goal.invariant-names_slot_among-loop-part
invariant-names_slot_among-loop-part l = names_slot_among (expr_trees_of (drop l.part-index l.parts)) ≡ names_slot_among (expr_trees_of l.parts)

abbrev pub invariant-names_slot_bound-loop-binding : goal.invariant-names_slot_bound-loop-binding
invariant-names_slot_bound-loop-binding l = names_slot_bound (bindings_of (drop l.binding-index l.bindings)) ≡ names_slot_bound (bindings_of l.bindings)
