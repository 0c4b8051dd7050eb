use Rattle.std.proofs.Common.{drop}
use Rattle.cl_region.proofs.Cuts.{IsRest}
use Rattle.cl_region.proofs.regions.outside_of_each.Given as goal

abbrev pub invariant-loop-hole : goal.invariant-loop-hole
invariant-loop-hole l = IsRest l.fn.rect l.holes l.parts.items (drop l.hole-index l.holes)
