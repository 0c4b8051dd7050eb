use Rattle.std.proofs.Common.{length}
use Rattle.cl_lattice.proofs.arguments.+tokens_in.Given as goal

abbrev pub decreases-tokens_in : goal.decreases-tokens_in
decreases-tokens_in l = length l.args.now
