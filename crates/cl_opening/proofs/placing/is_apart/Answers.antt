use Rattle.std.proofs.Common.{sym, ◌∙◌}
use Rattle.cl_opening.proofs.PlacingLemmas.{apart_ends, apart_on}
use Rattle.cl_opening.proofs.placing.is_apart.Goals as goal

pub returns-then-not-lie_apart : goal.returns-then-not-lie_apart
returns-then-not-lie_apart c =
    apart_ends c.args.pane.now c.in-Some.other.now c.args.placed.now c.loop-place.place c.in-Some.ensures c.loop-place.invariant
    (sym c.lie_apart.ensures ∙ c.if-not-lie_apart.true)

pub loop-place-preserved : goal.loop-place-preserved
loop-place-preserved c =
    apart_on c.args.pane.now c.in-Some.other.now c.args.placed.now c.loop-place.place c.in-Some.ensures c.loop-place.invariant
    (sym c.lie_apart.ensures ∙ c.if-not-lie_apart.false)
