use Rattle.cl_opening.proofs.ElseLemmas.{dialog_passed, dialog_told}
use Rattle.cl_opening.proofs.elses.first_unfit_dialog.Goals as goal

pub returns-in-Some-unfit : goal.returns-in-Some-unfit
returns-in-Some-unfit g c =
    dialog_told (g.T.Types.holds c.args.types.now) c.args.app.now c.args.app.now.dialogs c.loop-place.place c.in-Some.dialog.now c.in_ok-unfit.unfit
    c.in-Some-unfit.at c.in-Some.ensures c.in_ok-unfit.ensures c.in-Some-unfit.is c.loop-place.invariant

pub loop-place-preserved : goal.loop-place-preserved
loop-place-preserved g c =
    dialog_passed (g.T.Types.holds c.args.types.now) c.args.app.now c.args.app.now.dialogs c.loop-place.place c.in-Some.dialog.now c.in_ok-unfit.unfit
    c.in-Some.ensures c.in_ok-unfit.ensures c.in_default-unfit.is c.loop-place.invariant
