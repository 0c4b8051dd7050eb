use Rattle.std.proofs.Common.{length}
use Rattle.cl_lattice.proofs.rows.+add_either.Given as goal

abbrev pub decreases-add_either : goal.decreases-add_either
decreases-add_either l = length l.answers.now
