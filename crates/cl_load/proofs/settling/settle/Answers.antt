use Rattle.std.proofs.lemmas.Result.{err_from_is_err_and}
use Rattle.cl_load.proofs.SettlingLemmas.{no_ring_framed, opens, stops_frame, stops_reading}
use Rattle.cl_load.proofs.settling.settle.Goals as goal

pub returns-in_err-reading : goal.returns-in_err-reading
returns-in_err-reading g c = let refusal = err_from_is_err_and c.from_residual.result c.from_residual.ensures.1 in rw (refusal.1, refusal.2) tt

pub returns-in_err-pass : goal.returns-in_err-pass
returns-in_err-pass g c =
    let refusal = err_from_is_err_and c.from_residual-in_err-pass.result c.from_residual-in_err-pass.ensures.1 in
    rw (refusal.1, refusal.2)
    (stops_reading (Unit {0}) c.in_err-pass.field-0.0 (g.H.Hosts.bounds c.args.hosts.now) c.args.length c.args.declarations c.in_ok-reading.reading
    c.in_ok-reading.ensures c.in_err-pass.ensures)

pub returns-in_err-app : goal.returns-in_err-app
returns-in_err-app g c =
    let refusal = err_from_is_err_and c.from_residual-in_err-app.result c.from_residual-in_err-app.ensures.1 in
    rw (refusal.1, refusal.2)
    (stops_frame c.in_err-app.field-0.0 (g.H.Hosts.bounds c.args.hosts.now) c.args.length c.args.declarations c.in_ok-reading.reading c.in_ok-reading.ensures c.in_ok-pass.ensures
    c.in_err-app.ensures.framed)

pub returns : goal.returns
returns g c =
    opens c.open.result (g.H.Hosts.bounds c.args.hosts.now) c.args.length c.args.declarations c.args.lattice c.in_ok-reading.reading c.in_ok-app.app c.requires.types
    c.in_ok-reading.ensures c.in_ok-pass.ensures c.in_ok-app.ensures.framed c.open.ensures

pub open-requires-clause-no_ring : goal.open-requires-clause-no_ring
open-requires-clause-no_ring g c = no_ring_framed c.args.declarations c.in_ok-app.app c.in_ok-app.ensures.framed c.requires.no_ring

pub open-requires-clause-placed : goal.open-requires-clause-placed
open-requires-clause-placed g c = c.in_ok-app.ensures.placed
