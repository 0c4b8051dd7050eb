use Rattle.std.proofs.Common.{arith, rules}
use Rattle.std.proofs.lemmas.Int.{ints, clamps}
use mir.Syntax.{w64}
use mir.Val.{SFits}
use Rattle.cl_region.specs.Places.{intersection}
use Rattle.cl_region.proofs.Corners.{rect_is, common_is}
use Rattle.cl_region.proofs.rects.Rect.meet.Goals as goal

pub returns-clause-rect : goal.returns-clause-rect
returns-clause-rect c =
    let a : SFits w64 c.args.self.now.x1 = search rules in
    let b : SFits w64 c.args.self.now.y1 = search rules in
    let d : SFits w64 c.args.self.now.x2 = search rules in
    let e : SFits w64 c.args.self.now.y2 = search rules in
    let f : SFits w64 c.args.other.now.x1 = search rules in
    let g : SFits w64 c.args.other.now.y1 = search rules in
    let h : SFits w64 c.args.other.now.x2 = search rules in
    let i : SFits w64 c.args.other.now.y2 = search rules in
    rect_is (intersection c.args.self.now c.args.other.now) _ _ _ _
    (omega (arith, ints, clamps, c.max.ensures.value)) (omega (arith, ints, clamps, c.max-2.ensures.value))
    (omega (arith, ints, clamps, c.min.ensures.value)) (omega (arith, ints, clamps, c.min-2.ensures.value))

pub returns-clause-cells : goal.returns-clause-cells
returns-clause-cells c =
    let a : SFits w64 c.args.self.now.x1 = search rules in
    let b : SFits w64 c.args.self.now.y1 = search rules in
    let d : SFits w64 c.args.self.now.x2 = search rules in
    let e : SFits w64 c.args.self.now.y2 = search rules in
    let f : SFits w64 c.args.other.now.x1 = search rules in
    let g : SFits w64 c.args.other.now.y1 = search rules in
    let h : SFits w64 c.args.other.now.x2 = search rules in
    let i : SFits w64 c.args.other.now.y2 = search rules in
    common_is _ c.args.self.now c.args.other.now
    (rect_is (intersection c.args.self.now c.args.other.now) _ _ _ _
    (omega (arith, ints, clamps, c.max.ensures.value)) (omega (arith, ints, clamps, c.max-2.ensures.value))
    (omega (arith, ints, clamps, c.min.ensures.value)) (omega (arith, ints, clamps, c.min-2.ensures.value)))
