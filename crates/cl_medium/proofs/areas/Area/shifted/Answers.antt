use Rattle.std.proofs.Common.{arith, rules}
use Rattle.std.proofs.lemmas.Int.{ints}
use mir.Syntax.{w64}
use mir.Val.{SFits}
use Rattle.cl_medium.specs.Items.{move_area}
use Rattle.cl_medium.proofs.Sizes.{area_is, area_same, area_moved}
use Rattle.cl_medium.proofs.areas.Area.shifted.Goals as goal

pub returns-clause-value : goal.returns-clause-value
returns-clause-value c =
    let f0 : SFits w64 c.args.self.now.x = search rules in
    let f1 : SFits w64 c.args.self.now.y = search rules in
    let f2 : SFits w64 c.args.self.now.width = search rules in
    let f3 : SFits w64 c.args.self.now.height = search rules in
    let g : SFits w64 c.args.by.dx = search rules in
    let h : SFits w64 c.args.by.dy = search rules in
    let r = c.requires.range in
    area_is (move_area c.args.by c.args.self.now) _ _ _ _ (omega (arith, ints, r.x1.low, r.x1.high)) (omega (arith, ints, r.y1.low, r.y1.high)) (omega (arith, ints)) (omega (arith, ints))

pub returns-clause-area : goal.returns-clause-area
returns-clause-area c =
    let f0 : SFits w64 c.args.self.now.x = search rules in
    let f1 : SFits w64 c.args.self.now.y = search rules in
    let f2 : SFits w64 c.args.self.now.width = search rules in
    let f3 : SFits w64 c.args.self.now.height = search rules in
    let g : SFits w64 c.args.by.dx = search rules in
    let h : SFits w64 c.args.by.dy = search rules in
    let r = c.requires.range in
    area_same _ (move_area c.args.by c.args.self.now)
    (area_is (move_area c.args.by c.args.self.now) _ _ _ _ (omega (arith, ints, r.x1.low, r.x1.high)) (omega (arith, ints, r.y1.low, r.y1.high)) (omega (arith, ints)) (omega (arith, ints)))
    (area_moved c.args.by c.args.self.now c.requires.area c.requires.range)
