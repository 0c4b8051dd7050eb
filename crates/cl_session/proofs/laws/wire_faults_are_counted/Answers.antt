use Rattle.cl_session.proofs.CountedLemmas.{counted_by_faults}
use Rattle.cl_session.proofs.laws.wire_faults_are_counted.Goals as goal

pub returns : goal.returns
returns c = counted_by_faults
