use Rattle.cl_session.proofs.DeterminedLemmas.{determined}
use Rattle.cl_session.proofs.laws.want_of_memory_is_all_freedom.Goals as goal

pub returns : goal.returns
returns c = determined
