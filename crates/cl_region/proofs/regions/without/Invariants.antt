use Rattle.std.proofs.Common.{◌≡◌, ◌++◌, drop}
use Rattle.cl_region.specs.Cutting.{cut_all}
use Rattle.cl_region.proofs.regions.without.Given as goal

abbrev pub invariant-loop-rect : goal.invariant-loop-rect
invariant-loop-rect l = l.pieces.items ++ cut_all l.hole (drop l.rect-index l.rects) ≡ cut_all l.hole l.rects
