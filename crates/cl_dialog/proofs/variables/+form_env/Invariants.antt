use Rattle.std.proofs.Common.{length}
use Rattle.cl_dialog.proofs.variables.+form_env.Given as goal

abbrev pub decreases-form_env : goal.decreases-form_env
decreases-form_env l = length l.queries.now
