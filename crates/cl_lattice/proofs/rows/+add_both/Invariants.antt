use Rattle.std.proofs.Common.{length}
use Rattle.cl_lattice.proofs.rows.+add_both.Given as goal

abbrev pub decreases-add_both : goal.decreases-add_both
decreases-add_both l = length l.answers.now
