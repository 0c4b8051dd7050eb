use Rattle.std.proofs.Common.{◌≡◌, drop}
use Rattle.cl_lattice.specs.Arguments.{constants, given_by, trees_of, values_of}
use Rattle.cl_ptext.specs.Words.{constant_in}
use Rattle.cl_ptext.proofs.words.constant_in.Given as goal

abbrev pub invariant-loop-arg : goal.invariant-loop-arg
invariant-loop-arg l =
    constant_in (constants (values_of (given_by l.bound) (trees_of (drop l.arg-index l.args)))) l.word
    ≡ constant_in (constants (values_of (given_by l.bound) (trees_of l.args))) l.word
