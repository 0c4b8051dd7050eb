use Rattle.std.proofs.Common.{length}
use Rattle.cl_lattice.proofs.arguments.+find.Given as goal

abbrev pub decreases-find : goal.decreases-find
decreases-find l = length l.parameters.now
