use Rattle.std.proofs.Common.{◌≡◌, ◌+◌, ◌*◌, drop}
use Rattle.cl_syntax.specs.ShapeTree.{nodes, nodes_all, shape_trees_of}
use Rattle.cl_cover.specs.Updates.{uncovered_among, updates_among}
use Rattle.cl_cover.proofs.updates.+uncovered_in_form.Given as goal

abbrev pub decreases-uncovered_in_form : goal.decreases-uncovered_in_form
decreases-uncovered_in_form l = 3 * nodes l.form.now

abbrev pub decreases-uncovered_at : goal.decreases-uncovered_at
decreases-uncovered_at l = 3 * nodes_all (shape_trees_of l.body.now) + 2

abbrev pub decreases-uncovered_in_forms : goal.decreases-uncovered_in_forms
decreases-uncovered_in_forms l = 3 * nodes_all (shape_trees_of l.forms.now) + 1

abbrev pub invariant-uncovered_in_forms-loop-form : goal.invariant-uncovered_in_forms-loop-form
invariant-uncovered_in_forms-loop-form l =
    uncovered_among l.app (updates_among (shape_trees_of (drop l.form-index l.forms))) ≡ uncovered_among l.app (updates_among (shape_trees_of l.forms))
