use Rattle.cl_lattice.specs.Arguments.{layers}
use Rattle.cl_lattice.proofs.arguments.+value_of.Given as goal

abbrev pub decreases-value_of : goal.decreases-value_of
decreases-value_of l = layers l.bound.now
