use Rattle.std.proofs.Common.{◌≡◌, ◌+◌, ◌*◌, ◌++◌, drop}
use Rattle.cl_syntax.specs.ExprTree.{nodes, nodes_all, nodes_bound, expr_trees_of}
use Rattle.cl_syntax.specs.Expr.{bindings_of}
use Rattle.cl_cover.specs.Sights.{behind_all}
use Rattle.cl_cover.specs.Steps.{steps_among, steps_bound}
use Rattle.cl_cover.proofs.expression_steps.+add_steps.Given as goal

abbrev pub decreases-add_steps : goal.decreases-add_steps
decreases-add_steps l = 2 * nodes l.expr.now

abbrev pub decreases-add_among : goal.decreases-add_among
decreases-add_among l = 2 * nodes_all (expr_trees_of l.parts.now) + 1

abbrev pub decreases-add_bound : goal.decreases-add_bound
decreases-add_bound l = 2 * nodes_bound (bindings_of l.bindings.now) + 1

abbrev pub decreases-add_each : goal.decreases-add_each
decreases-add_each l = 2 * (nodes l.list.now + nodes l.body.now) + 1

abbrev pub decreases-add_folded : goal.decreases-add_folded
decreases-add_folded l = 2 * nodes l.body.now + 1

abbrev pub invariant-add_among-loop-part : goal.invariant-add_among-loop-part
invariant-add_among-loop-part l = record {
  steps :
      l.out.items ++ steps_among l.initial.sight l.along (expr_trees_of (drop l.part-index l.parts))
      ≡ l.initial.out.items ++ steps_among l.initial.sight l.along (expr_trees_of l.parts);
  sight : l.sight ≡ l.initial.sight;
}

abbrev pub invariant-add_bound-loop-binding : goal.invariant-add_bound-loop-binding
invariant-add_bound-loop-binding l = record {
  steps : l.out.items ++ steps_bound l.sight (bindings_of (drop l.binding-index l.bindings)) ≡ l.initial.out.items ++ steps_bound l.initial.sight (bindings_of l.bindings);
  sight : behind_all (bindings_of (drop l.binding-index l.bindings)) l.sight ≡ behind_all (bindings_of l.bindings) l.initial.sight;
}
