use Rattle.cl_opening.proofs.DefaultLemmas.{command_passed, command_told}
use Rattle.cl_opening.proofs.defaults.first_unfit_command.Goals as goal

pub returns-in-Some-unfit : goal.returns-in-Some-unfit
returns-in-Some-unfit g c =
    command_told (g.T.Types.holds c.args.types.now) c.args.app.now c.args.app.now.commands c.loop-place.place c.in-Some.command.now c.in_ok-unfit.unfit
    c.in-Some-unfit.at c.in-Some.ensures c.in_ok-unfit.ensures c.in-Some-unfit.is c.loop-place.invariant

pub loop-place-preserved : goal.loop-place-preserved
loop-place-preserved g c =
    command_passed (g.T.Types.holds c.args.types.now) c.args.app.now c.args.app.now.commands c.loop-place.place c.in-Some.command.now c.in_ok-unfit.unfit
    c.in-Some.ensures c.in_ok-unfit.ensures c.in_default-unfit.is c.loop-place.invariant
