use Rattle.cl_session.proofs.CurrentLemmas.{unchanged_by_failure}
use Rattle.cl_session.proofs.laws.failed_commands_change_nothing.Goals as goal

pub returns : goal.returns
returns c = unchanged_by_failure
