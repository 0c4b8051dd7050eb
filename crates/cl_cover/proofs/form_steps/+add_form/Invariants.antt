use Rattle.std.proofs.Common.{◌≡◌, ◌+◌, ◌*◌, ◌++◌, drop}
use Rattle.cl_syntax.specs.ShapeTree.{nodes, nodes_all, shape_trees_of}
use Rattle.cl_cover.specs.Steps.{steps_forms}
use Rattle.cl_cover.proofs.form_steps.+add_form.Given as goal

abbrev pub decreases-add_form : goal.decreases-add_form
decreases-add_form l = 3 * nodes l.form.now

abbrev pub decreases-add_with : goal.decreases-add_with
decreases-add_with l = 3 * nodes_all (shape_trees_of l.body.now) + 2

abbrev pub decreases-add_update : goal.decreases-add_update
decreases-add_update l = 3 * nodes_all (shape_trees_of l.body.now) + 2

abbrev pub decreases-add_each : goal.decreases-add_each
decreases-add_each l = 3 * nodes_all (shape_trees_of l.body.now) + 2

abbrev pub decreases-add_forms : goal.decreases-add_forms
decreases-add_forms l = 3 * nodes_all (shape_trees_of l.forms.now) + 1

abbrev pub invariant-add_forms-loop-form : goal.invariant-add_forms-loop-form
invariant-add_forms-loop-form l = record {
  steps : l.out.items ++ steps_forms l.initial.sight (shape_trees_of (drop l.form-index l.forms)) ≡ l.initial.out.items ++ steps_forms l.initial.sight (shape_trees_of l.forms);
  sight : l.sight ≡ l.initial.sight;
}
