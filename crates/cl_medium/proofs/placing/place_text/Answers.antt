use Rattle.std.proofs.Common.{arith, rules}
use Rattle.std.proofs.lemmas.Int.{ints}
use mir.Syntax.{w64}
use mir.Val.{SFits}
use Rattle.cl_region.proofs.Corners.{near}
use Rattle.cl_medium.proofs.Placed.{placed_text}
use Rattle.cl_medium.proofs.placing.place_text.Goals as goal

pub returns : goal.returns
returns c =
    let sx : SFits w64 c.ambient.inside.x = search rules in
    let sy : SFits w64 c.ambient.inside.y = search rules in
    rw (← c.ambient.view_is)
    (placed_text (record { x = c.ambient.inside.x; y = c.ambient.inside.y; margin = c.ambient.inside.margin; origin_x = c.ambient.inside.origin_x; origin_y = c.ambient.inside.origin_y; ink = c.ambient.inside.ink }) c.args.count _ _ _ _ c.ambient.invariant
    (omega (arith, ints)) (omega (arith, ints)) (omega (arith, ints)) (omega (arith, ints))
    (near _ _ (omega (arith, ints)) c.in_ok-near_sum.ensures.1) (near _ _ (omega (arith, ints)) c.in_ok-near_sum-2.ensures.1))
