use Rattle.cl_reuse.proofs.FaithLemmas.{moved-faithful, none-faithful}
use Rattle.cl_reuse.proofs.laws.moved_records_stay_faithful.Goals as goal

pub returns-clause-none : goal.returns-clause-none
returns-clause-none c = none-faithful

pub returns-clause-moved : goal.returns-clause-moved
returns-clause-moved c = moved-faithful
