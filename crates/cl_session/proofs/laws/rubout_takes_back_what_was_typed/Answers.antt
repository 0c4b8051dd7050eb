use Rattle.cl_session.proofs.LineLemmas.{taken_back}
use Rattle.cl_session.proofs.laws.rubout_takes_back_what_was_typed.Goals as goal

pub returns : goal.returns
returns c = taken_back
