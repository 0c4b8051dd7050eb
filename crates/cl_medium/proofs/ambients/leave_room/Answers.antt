use Rattle.std.proofs.Common.{arith, rules}
use Rattle.std.proofs.lemmas.Int.{ints, clamps}
use mir.Syntax.{w64}
use mir.Val.{SFits}
use Rattle.cl_region.proofs.Corners.{near}
use Rattle.cl_medium.proofs.ambients.leave_room.Goals as goal

pub invariant_of-ambient : goal.invariant_of-ambient
invariant_of-ambient c =
    let m : SFits w64 c.ambient.inside.margin = search rules in
    let x : SFits w64 c.before-2.inside.origin_x = search rules in
    let y : SFits w64 c.before-2.inside.origin_y = search rules in
    let z : SFits w64 c.before-2.inside.y = search rules in
    let b : SFits w64 c.args.bottom = c.ranges.bottom in
    record {
      x = near _ _ (omega (arith, ints)) c.ambient.invariant.margin;
      y = record {
        low = omega (arith, ints, clamps, c.max-ambient-inside.ensures.value, c.requires.low, c.requires.high, c.before-2.invariant.y.low, c.before-2.invariant.y.high);
        high = omega (arith, ints, clamps, c.max-ambient-inside.ensures.value, c.requires.low, c.requires.high, c.before-2.invariant.y.low, c.before-2.invariant.y.high);
      };
      margin = c.ambient.invariant.margin;
      origin_x = near _ _ (omega (arith, ints)) c.before-2.invariant.origin_x;
      origin_y = near _ _ (omega (arith, ints)) c.before-2.invariant.origin_y;
      ink = c.ambient.invariant.ink;
    }
