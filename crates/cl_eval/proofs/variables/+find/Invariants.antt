use Rattle.std.proofs.Common.{length}
use Rattle.cl_eval.proofs.variables.+find.Given as goal

abbrev pub decreases-find : goal.decreases-find
decreases-find l = length l.names.now
