use Rattle.std.proofs.Common.{◌≡◌, ◌+◌, ◌*◌, drop}
use Rattle.cl_lattice.specs.Arguments.{trees_of}
use Rattle.cl_lattice.specs.Budgets.{left}
use Rattle.cl_lattice.specs.Sizes.{nodes_within, sized_args}
use Rattle.cl_lattice.proofs.sizes.+left_after.Given as goal

abbrev pub decreases-left_after : goal.decreases-left_after
decreases-left_after l = 4 * l.depth

abbrev pub decreases-left_after_args : goal.decreases-left_after_args
decreases-left_after_args l = 4 * l.depth + 2

abbrev pub decreases-left_after_arg : goal.decreases-left_after_arg
decreases-left_after_arg l = 4 * l.depth + 1

abbrev pub decreases-left_after_inherited : goal.decreases-left_after_inherited
decreases-left_after_inherited l = 4 * l.depth + 1

abbrev pub invariant-left_after_args-loop-arg : goal.invariant-left_after_args-loop-arg
invariant-left_after_args-loop-arg l =
    left (sized_args (nodes_within l.depth l.known) (trees_of (drop l.arg-index l.args))) l.nodes ≡ left (sized_args (nodes_within l.depth l.known) (trees_of l.args)) l.initial.nodes
