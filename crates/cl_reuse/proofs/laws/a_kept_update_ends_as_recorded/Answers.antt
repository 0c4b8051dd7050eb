use Rattle.cl_reuse.proofs.KeepLemmas.{body-opened, kept-as-recorded, kept-joined}
use Rattle.cl_reuse.proofs.laws.a_kept_update_ends_as_recorded.Goals as goal

pub returns-clause-body : goal.returns-clause-body
returns-clause-body c = kept-as-recorded

pub returns-clause-opened : goal.returns-clause-opened
returns-clause-opened c = body-opened

pub returns-clause-joined : goal.returns-clause-joined
returns-clause-joined c = kept-joined
