use Rattle.std.proofs.Common.{length}
use Rattle.cl_dialog.proofs.variables.+values_env.Given as goal

abbrev pub decreases-values_env : goal.decreases-values_env
decreases-values_env l = length l.queries.now
