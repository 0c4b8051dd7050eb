use Rattle.std.proofs.Common.{length}
use Rattle.cl_lattice.proofs.heads.+first_part.Given as goal

abbrev pub decreases-first_part : goal.decreases-first_part
decreases-first_part l = length l.args.now
