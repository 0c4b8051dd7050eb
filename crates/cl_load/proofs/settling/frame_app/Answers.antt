use Rattle.std.proofs.lemmas.Result.{err_from_is_err_and}
use Rattle.cl_load.proofs.FramingLemmas.{app_framed, misses_frame, misses_place}
use Rattle.cl_load.proofs.settling.frame_app.Goals as goal

pub returns-in_err-frame-clause-framed : goal.returns-in_err-frame-clause-framed
returns-in_err-frame-clause-framed c =
    let refusal = err_from_is_err_and c.from_residual.result c.from_residual.ensures.1 in
    rw (refusal.1, refusal.2) (misses_frame c.in_err-frame.field-0.0 c.args.length c.args.declarations c.in_err-frame.ensures)

pub returns-in_err-frame-2-clause-framed : goal.returns-in_err-frame-2-clause-framed
returns-in_err-frame-2-clause-framed c =
    let refusal = err_from_is_err_and c.from_residual-in_err-frame-2.result c.from_residual-in_err-frame-2.ensures.1 in
    rw (refusal.1, refusal.2)
    (misses_place c.in_err-frame-2.field-0.0 c.args.length c.args.declarations c.in_ok-frame.frame c.in_ok-frame.ensures c.in_err-frame-2.ensures.value)

pub returns-clause-framed : goal.returns-clause-framed
returns-clause-framed c =
    app_framed c.args.declarations c.in_ok-frame.frame c.in_ok-frame-2.frame c.in_ok-app.app c.in_ok-frame.ensures c.in_ok-frame-2.ensures.value c.in_ok-app.ensures
