use Rattle.std.proofs.Common.{◌↔◌, drop}
use Rattle.cl_region.specs.Pieces.{IsApart}
use Rattle.cl_region.proofs.regions.is_apart.Given as goal

abbrev pub invariant-loop-other : goal.invariant-loop-other
invariant-loop-other l = IsApart l.rect (drop l.other-index l.rects) ↔ IsApart l.rect l.rects
