use Rattle.std.proofs.Common.{◌≡◌, drop}
use Rattle.cl_region.specs.Places.{one_holds}
use Rattle.cl_region.proofs.regions.some_contains.Given as goal

abbrev pub invariant-loop-rect : goal.invariant-loop-rect
invariant-loop-rect l = one_holds (drop l.rect-index l.rects) l.x l.y ≡ one_holds l.rects l.x l.y
