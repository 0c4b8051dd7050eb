use Rattle.std.proofs.Common.{arith, pos, ◌≤ℤ◌, inr}
use Rattle.std.proofs.lemmas.Int.{ints, to_z-of_z}
use mir.Syntax.{w64}
use mir.Val.{SFits}
use Rattle.cl_medium.proofs.Placed.{is_positive}
use Rattle.cl_medium.proofs.placing.fit_area.Goals as goal

pub returns-in-Some : goal.returns-in-Some
returns-in-Some c =
    let f_x : SFits w64 c.args.x = c.ranges.x in
    let f_y : SFits w64 c.args.y = c.ranges.y in
    let f_width : SFits w64 c.args.width = c.ranges.width in
    let f_height : SFits w64 c.args.height = c.ranges.height in
    let wide : pos 0 ≤ℤ c.args.width = omega (arith, ints, c.if-width-lt0.false) in
    let high : pos 0 ≤ℤ c.args.height = omega (arith, ints, c.if-height-lt0.false) in
    let d = simp to_z-of_z at c.in-Some.ensures in (
      d.0,
      d.1,
      record {
        width = is_positive c.args.width wide c.if-width-eq0.false;
        height = is_positive c.args.height high c.if-height-eq0.false;
      },
    )

pub returns-in-None : goal.returns-in-None
returns-in-None c =
    let f_x : SFits w64 c.args.x = c.ranges.x in
    let f_y : SFits w64 c.args.y = c.ranges.y in
    let f_width : SFits w64 c.args.width = c.ranges.width in
    let f_height : SFits w64 c.args.height = c.ranges.height in
    let wide : pos 0 ≤ℤ c.args.width = omega (arith, ints, c.if-width-lt0.false) in
    let high : pos 0 ≤ℤ c.args.height = omega (arith, ints, c.if-height-lt0.false) in
    let d = simp to_z-of_z at c.in-None.ensures in
    inr (inr (
      record {
        width = is_positive c.args.width wide c.if-width-eq0.false;
        height = is_positive c.args.height high c.if-height-eq0.false;
      },
      d,
    ))
