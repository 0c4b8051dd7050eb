use Rattle.cl_session.proofs.ToldLemmas.{told_by_lines}
use Rattle.cl_session.proofs.laws.what_met_want_of_memory_is_told.Goals as goal

pub returns : goal.returns
returns c = told_by_lines
