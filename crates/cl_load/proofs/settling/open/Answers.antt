use Rattle.std.proofs.lemmas.Result.{err_from_is_err_and}
use Rattle.cl_load.proofs.SettlingLemmas.{opens_refused}
use Rattle.cl_load.proofs.settling.open.Goals as goal

pub returns-in_err-slots : goal.returns-in_err-slots
returns-in_err-slots g c =
    let refusal = err_from_is_err_and c.from_residual.result c.from_residual.ensures.1 in
    rw (refusal.1, refusal.2) (opens_refused c.in_err-slots.field-0.0 (g.H.Hosts.bounds c.args.hosts.now) c.args.app c.args.lattice c.in_err-slots.ensures)
