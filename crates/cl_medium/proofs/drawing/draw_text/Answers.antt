use Rattle.std.proofs.Common.{◌≡◌, ◌∙◌, ap, refl, arith, rules, length, pos}
use Rattle.std.proofs.lemmas.Int.{ints}
use mir.Syntax.{w64}
use mir.Val.{SFits}
use Rattle.cl_region.proofs.Corners.{near}
use Rattle.cl_medium.specs.Ambients.{AmbientAt}
use Rattle.cl_medium.specs.declared.areas.Area.{Area}
use Rattle.cl_medium.proofs.Placed.{written}
use Rattle.cl_medium.proofs.drawing.draw_text.Goals as goal

pub invariant_of-ambient : goal.invariant_of-ambient
invariant_of-ambient c =
    let sx : SFits w64 c.ambient.inside.x = search rules in
    let placed = rw (c.columns_of-count.ensures, c.as_slice.ensures) at c.in-Some.ensures in
    let x : c.ambient.inside.x ≡ c.args.ambient.now.x = ap (λ (m : AmbientAt). m.x) c.ambient.view_is in
    let w : c.in-Some.area.width ≡ pos (length c.args.text.now) = ap (λ (r : Area). r.width) placed.0 in
    let r = placed.1.range.x2 in
    record {
      x = near _ _ (omega (arith, ints, x, w, r.low, r.high)) r;
      y = c.ambient.invariant.y;
      margin = c.ambient.invariant.margin;
      origin_x = c.ambient.invariant.origin_x;
      origin_y = c.ambient.invariant.origin_y;
      ink = c.ambient.invariant.ink;
    }

pub returns : goal.returns
returns c =
    let sx : SFits w64 c.ambient.inside.x = search rules in
    let placed = rw (c.columns_of-count.ensures, c.as_slice.ensures) at c.in-Some.ensures in
    let x : c.ambient.inside.x ≡ c.args.ambient.now.x = ap (λ (m : AmbientAt). m.x) c.ambient.view_is in
    let w : c.in-Some.area.width ≡ pos (length c.args.text.now) = ap (λ (r : Area). r.width) placed.0 in
    let r = placed.1.range.x2 in (
      c.new.ensures ∙ rw (placed.0, c.in-Ok.ensures) refl,
      search rules,
      placed.1,
      written (record { x = c.ambient.inside.x; y = c.ambient.inside.y; margin = c.ambient.inside.margin; origin_x = c.ambient.inside.origin_x; origin_y = c.ambient.inside.origin_y; ink = c.ambient.inside.ink }) c.args.ambient.now _ (length c.args.text.now) c.ambient.view_is (omega (arith, ints, x, w, r.low, r.high)),
    )
