use Rattle.std.proofs.Common.{subst, arith, rules}
use Rattle.std.proofs.lemmas.Int.{ints}
use mir.Syntax.{w64}
use mir.Val.{SFits}
use Rattle.cl_region.specs.Places.{IsInRange}
use Rattle.cl_region.proofs.Corners.{near}
use Rattle.cl_medium.specs.Ambients.{AmbientAt}
use Rattle.cl_medium.specs.Drawing.{shape_area}
use Rattle.cl_medium.specs.Items.{bounds_of}
use Rattle.cl_medium.proofs.Placed.{placed_shape}
use Rattle.cl_medium.proofs.placing.place.Goals as goal

pub returns-in-Some : goal.returns-in-Some
returns-in-Some c =
    let f_x : SFits w64 c.args.x = c.ranges.x in
    let f_y : SFits w64 c.args.y = c.ranges.y in
    let f_width : SFits w64 c.args.width = c.ranges.width in
    let f_height : SFits w64 c.args.height = c.ranges.height in
    let ox : SFits w64 c.ambient.inside.origin_x = search rules in
    let oy : SFits w64 c.ambient.inside.origin_y = search rules in
    let sx : SFits w64 c.in_ok-x.x = search rules in
    let sy : SFits w64 c.in-Some.y = search rules in
    rw (← c.ambient.view_is)
    (placed_shape (record { x = c.ambient.inside.x; y = c.ambient.inside.y; margin = c.ambient.inside.margin; origin_x = c.ambient.inside.origin_x; origin_y = c.ambient.inside.origin_y; ink = c.ambient.inside.ink }) c.args.x c.args.y c.args.width c.args.height _ _ _ _ c.ambient.invariant c.requires.width c.requires.height
    (omega (arith, ints, c.in_ok-x.ensures.0)) (omega (arith, ints, c.in-Some.ensures.0)) (omega (arith, ints)) (omega (arith, ints))
    (near _ _ (omega (arith, ints)) c.in_ok-x.ensures.1) (near _ _ (omega (arith, ints)) c.in_ok-x.ensures.2) (near _ _ (omega (arith, ints)) c.in-Some.ensures.1) (near _ _ (omega (arith, ints)) c.in-Some.ensures.2))

pub returns-in-None : goal.returns-in-None
returns-in-None c =
    let f_x : SFits w64 c.args.x = c.ranges.x in
    let f_y : SFits w64 c.args.y = c.ranges.y in
    let f_width : SFits w64 c.args.width = c.ranges.width in
    let f_height : SFits w64 c.args.height = c.ranges.height in
    let ox : SFits w64 c.ambient.inside.origin_x = search rules in
    let oy : SFits w64 c.ambient.inside.origin_y = search rules in
    subst (λ (m : AmbientAt). IsInRange (bounds_of (shape_area m c.args.x c.args.y c.args.width c.args.height)) → ⊥) c.ambient.view_is
    (λ r. c.in-None.ensures (near _ _ (omega (arith, ints)) r.y1) (near _ _ (omega (arith, ints)) r.y2))
