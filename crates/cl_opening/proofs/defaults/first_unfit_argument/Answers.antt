use Rattle.cl_opening.proofs.DefaultLemmas.{argument_passed, argument_told}
use Rattle.cl_opening.proofs.defaults.first_unfit_argument.Goals as goal

pub returns-in-Some-2 : goal.returns-in-Some-2
returns-in-Some-2 g c =
    argument_told (g.T.Types.holds c.args.types.now) c.args.app.now c.args.arguments.now c.loop-place.place c.in-Some.argument.now c.in_ok-at.field-0 c.in-Some-2.at
    c.in-Some.ensures c.in_ok-at.ensures c.in-Some-2.is c.loop-place.invariant

pub loop-place-preserved : goal.loop-place-preserved
loop-place-preserved g c =
    argument_passed (g.T.Types.holds c.args.types.now) c.args.app.now c.args.arguments.now c.loop-place.place c.in-Some.argument.now c.in_ok-at.field-0
    c.in-Some.ensures c.in_ok-at.ensures c.in_default-2.is c.loop-place.invariant
