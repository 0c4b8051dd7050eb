use Rattle.std.proofs.Common.{arith, rules}
use Rattle.std.proofs.lemmas.Int.{ints}
use mir.Syntax.{w64}
use mir.Val.{SFits}
use Rattle.cl_region.proofs.Corners.{rect_is}
use Rattle.cl_medium.specs.Items.{bounds_of}
use Rattle.cl_medium.proofs.areas.Area.bounds.Goals as goal

pub returns-clause-value : goal.returns-clause-value
returns-clause-value c =
    let f0 : SFits w64 c.args.self.now.x = search rules in
    let f1 : SFits w64 c.args.self.now.y = search rules in
    let f2 : SFits w64 c.args.self.now.width = search rules in
    let f3 : SFits w64 c.args.self.now.height = search rules in
    let r = c.requires.range in
    rect_is (bounds_of c.args.self.now) _ _ _ _ (omega (arith, ints)) (omega (arith, ints)) (omega (arith, ints, r.x2.low, r.x2.high)) (omega (arith, ints, r.y2.low, r.y2.high))
