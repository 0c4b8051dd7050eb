use Rattle.std.proofs.Common.{◌∙◌, ap}
use Rattle.cl_cover.proofs.UpdateTurns.{display_passed, display_told, in_forms}
use Rattle.cl_cover.proofs.updates.first_uncovered_update.Goals as goal

pub returns-in-Some-2 : goal.returns-in-Some-2
returns-in-Some-2 c =
    display_told c.args.app.now c.args.app.now.displays c.loop-place.place c.in-Some.display.now c.in_ok-found.field-0 c.in-Some-2.found c.in-Some.ensures
    (c.in_ok-found.ensures ∙ ap (in_forms c.args.app.now) c.as_slice.ensures) c.in-Some-2.is c.loop-place.invariant

pub loop-place-preserved : goal.loop-place-preserved
loop-place-preserved c =
    display_passed c.args.app.now c.args.app.now.displays c.loop-place.place c.in-Some.display.now c.in_ok-found.field-0 c.in-Some.ensures
    (c.in_ok-found.ensures ∙ ap (in_forms c.args.app.now) c.as_slice.ensures) c.in_default-2.is c.loop-place.invariant
