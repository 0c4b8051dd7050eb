use Rattle.std.proofs.Common.{◌≡◌, [], drop}
use Rattle.cl_lattice.specs.Arguments.{constants, given_by, trees_of, values_of}
use Rattle.cl_lattice.specs.Subtypes.{all_among}
use Rattle.cl_lattice.proofs.comparing.all_among.Given as goal

abbrev pub invariant-loop-arg : goal.invariant-loop-arg
invariant-loop-arg l =
    all_among (constants (values_of (given_by l.bound) (trees_of (drop l.arg-index l.args)))) (constants (values_of [] (trees_of l.others)))
    ≡ all_among (constants (values_of (given_by l.bound) (trees_of l.args))) (constants (values_of [] (trees_of l.others)))
