use Rattle.std.proofs.Common.{◌≡◌, ◌++◌, drop, map}
use Rattle.cl_value.specs.Value.{data_of}
use Rattle.cl_lattice.specs.Arguments.{given_by, trees_of, values_of}
use Rattle.cl_lattice.specs.Members.{arguments_given}
use Rattle.cl_lattice.proofs.members.arguments_given.Given as goal

abbrev pub invariant-loop-arg : goal.invariant-loop-arg
invariant-loop-arg l =
    map data_of l.values.items ++ arguments_given (values_of (given_by l.bound) (trees_of (drop l.arg-index l.args)))
    ≡ arguments_given (values_of (given_by l.bound) (trees_of l.args))
