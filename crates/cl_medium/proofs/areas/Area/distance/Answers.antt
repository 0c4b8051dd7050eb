use Rattle.std.proofs.Common.{◌≡◌, ◌∙◌, sym, true, arith, rules}
use Rattle.std.proofs.lemmas.Int.{ints, to_z-of_z}
use mir.Syntax.{w64}
use mir.Val.{SFits}
use Rattle.cl_region.specs.Places.{holds}
use Rattle.cl_region.proofs.Corners.{within}
use Rattle.cl_medium.specs.Items.{bounds_of}
use Rattle.cl_medium.proofs.areas.Area.distance.Goals as goal

pub returns : goal.returns
returns c =
    let f0 : SFits w64 c.args.self.now.x = search rules in
    let f1 : SFits w64 c.args.self.now.y = search rules in
    let f2 : SFits w64 c.args.self.now.width = search rules in
    let f3 : SFits w64 c.args.self.now.height = search rules in
    let fx : SFits w64 c.args.x = c.ranges.x in
    let fy : SFits w64 c.args.y = c.ranges.y in
    let held = simp to_z-of_z at c.contains.ensures in
    let inside : holds (bounds_of c.args.self.now) c.args.x c.args.y ≡ true = sym held ∙ c.if-not-contains.false in
    let w = within (bounds_of c.args.self.now) c.args.x c.args.y inside in
    let r = c.requires.range in
    (inside, omega (arith, ints, w.x1, w.x2, r.x1.low, r.x2.high), omega (arith, ints, w.y1, w.y2, r.y1.low, r.y2.high), omega (arith, ints, w.x1, w.x2, r.x1.low, r.x2.high), omega (arith, ints, w.y1, w.y2, r.y1.low, r.y2.high))
