use Rattle.std.proofs.Common.{arith}
use Rattle.std.proofs.lemmas.Int.{ints}
use Rattle.cl_region.specs.Places.{move_rect}
use Rattle.cl_region.proofs.Corners.{rect_is}
use Rattle.cl_region.proofs.rects.Rect.shifted.Goals as goal

pub returns : goal.returns
returns c =
    rect_is (move_rect c.args.by c.args.self.now) _ _ _ _ (omega (arith, ints)) (omega (arith, ints)) (omega (arith, ints)) (omega (arith, ints))
