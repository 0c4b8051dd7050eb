use Rattle.std.proofs.Common.{◌≡◌, drop}
use Rattle.cl_cover.specs.Updates.{uncovered_among, updates_of}
use Rattle.cl_cover.proofs.updates.first_uncovered_update.Given as goal

abbrev pub invariant-loop-place : goal.invariant-loop-place
invariant-loop-place l = uncovered_among l.app (updates_of (drop l.place l.displays)) ≡ uncovered_among l.app (updates_of l.displays)
