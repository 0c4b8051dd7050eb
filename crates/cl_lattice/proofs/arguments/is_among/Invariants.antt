use Rattle.std.proofs.Common.{◌≡◌, drop}
use Rattle.cl_value.specs.Value.{data_of}
use Rattle.cl_lattice.specs.Arguments.{constants, given_by, trees_of, values_of}
use Rattle.cl_lattice.specs.Members.{is_among}
use Rattle.cl_lattice.proofs.arguments.is_among.Given as goal

abbrev pub invariant-loop-arg : goal.invariant-loop-arg
invariant-loop-arg l =
    is_among (data_of l.value) (constants (values_of (given_by l.bound) (trees_of (drop l.arg-index l.args))))
    ≡ is_among (data_of l.value) (constants (values_of (given_by l.bound) (trees_of l.args)))
