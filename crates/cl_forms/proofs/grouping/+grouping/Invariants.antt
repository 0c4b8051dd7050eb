use Rattle.std.proofs.Common.{◌≡◌, ◌+◌, ◌*◌, ◌++◌, drop, map}
use Rattle.cl_forms.specs.Tree.{weight, weights, trees_of}
use Rattle.cl_forms.specs.Form.{tree_of}
use Rattle.cl_forms.specs.Grouped.{grouped}
use Rattle.cl_forms.specs.declared.grouping.Waiting.TheVariants.{Nothing}
use Rattle.cl_forms.proofs.grouping.+grouping.Given as goal

abbrev pub decreases-data_in : goal.decreases-data_in
decreases-data_in l = 2 * weights (trees_of (map tree_of l.forms.now)) + 1

abbrev pub decreases-take : goal.decreases-take
decreases-take l = 2 * weight (tree_of l.form.now)

abbrev pub invariant-data_in-loop-form : goal.invariant-data_in-loop-form
invariant-data_in-loop-form l =
    l.row ++ grouped l.waiting (trees_of (map tree_of (drop l.form-index l.forms))) ≡ grouped Nothing (trees_of (map tree_of l.forms))
