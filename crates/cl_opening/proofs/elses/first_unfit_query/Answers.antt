use Rattle.cl_opening.proofs.ElseLemmas.{query_passed, query_told}
use Rattle.cl_opening.proofs.elses.first_unfit_query.Goals as goal

pub returns-in-Some-2 : goal.returns-in-Some-2
returns-in-Some-2 g c =
    query_told (g.T.Types.holds c.args.types.now) c.args.app.now c.args.arguments.now c.args.queries.now c.loop-place.place c.in-Some.query.now c.in_ok-at.field-0 c.in-Some-2.at
    c.in-Some.ensures c.in_ok-at.ensures c.in-Some-2.is c.loop-place.invariant

pub loop-place-preserved : goal.loop-place-preserved
loop-place-preserved g c =
    query_passed (g.T.Types.holds c.args.types.now) c.args.app.now c.args.arguments.now c.args.queries.now c.loop-place.place c.in-Some.query.now c.in_ok-at.field-0
    c.in-Some.ensures c.in_ok-at.ensures c.in_default-2.is c.loop-place.invariant
