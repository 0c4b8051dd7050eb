use Rattle.std.proofs.Common.{length}
use Rattle.cl_lattice.proofs.arguments.+next_spec.Given as goal

abbrev pub decreases-next_spec : goal.decreases-next_spec
decreases-next_spec l = length l.args.now
