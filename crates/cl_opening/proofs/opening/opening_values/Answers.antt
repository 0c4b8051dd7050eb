use Rattle.std.proofs.lemmas.Result.{err_from_is_err_and}
use Rattle.cl_opening.proofs.OpeningLemmas.{unfit_here, fit_here}
use Rattle.cl_opening.proofs.opening.opening_values.Goals as goal

pub returns-in_err-value : goal.returns-in_err-value
returns-in_err-value g c =
    let refusal = err_from_is_err_and c.from_residual.result c.from_residual.ensures.1 in
    rw (refusal.1, refusal.2)
    (unfit_here _ (g.T.Types.holds c.args.types.now) c.args.app.now c.loop-place.place c.in-Some.slot.now c.in-Some.ensures c.loop-place.invariant.1 c.in_err-value.ensures)

pub loop-place-preserved : goal.loop-place-preserved
loop-place-preserved g c =
    fit_here (g.T.Types.holds c.args.types.now) c.args.app.now c.loop-place.place c.in-Some.slot.now _ _ c.loop-place.slots _ c.in-Some.ensures c.loop-place.invariant c.in_ok-value.ensures c.in_ok-copy.ensures
    c.in_ok-put.ensures.ok
