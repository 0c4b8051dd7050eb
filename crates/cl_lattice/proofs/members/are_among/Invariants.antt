use Rattle.std.proofs.Common.{◌≡◌, drop}
use Rattle.cl_value.specs.Value.{parts_of}
use Rattle.cl_lattice.specs.Arguments.{constants, given_by, trees_of, values_of}
use Rattle.cl_lattice.specs.Members.{are_among}
use Rattle.cl_lattice.proofs.members.are_among.Given as goal

abbrev pub invariant-loop-value : goal.invariant-loop-value
invariant-loop-value l =
    are_among (parts_of (drop l.value-index l.values)) (constants (values_of (given_by l.bound) (trees_of l.args)))
    ≡ are_among (parts_of l.values) (constants (values_of (given_by l.bound) (trees_of l.args)))
