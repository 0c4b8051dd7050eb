use Rattle.std.proofs.Common.{◌≡◌, drop}
use Rattle.cl_cover.specs.Sights.{is_name_among}
use Rattle.cl_cover.proofs.sights.BoundNames.contains.Given as goal

abbrev pub invariant-loop-bound : goal.invariant-loop-bound
invariant-loop-bound l = is_name_among l.name (drop l.bound-index l.bound-items) ≡ is_name_among l.name l.bound-items
