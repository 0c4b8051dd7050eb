use Rattle.std.proofs.Common.{◌≡◌, ◌++◌, drop}
use Rattle.cl_lattice.specs.Arguments.{trees_of}
use Rattle.cl_lattice.specs.Precedence.{part_names}
use Rattle.cl_lattice.proofs.precedences.part_names.Given as goal

abbrev pub invariant-loop-arg : goal.invariant-loop-arg
invariant-loop-arg l = l.names ++ part_names (trees_of (drop l.arg-index l.args)) ≡ part_names (trees_of l.args)
