use Rattle.std.proofs.Common.{◌≡◌, drop}
use Rattle.cl_record.specs.Replays.{meets_one}
use Rattle.cl_record.proofs.replaying.meets_one.Given as goal

abbrev pub invariant-loop-other : goal.invariant-loop-other
invariant-loop-other l = meets_one (drop l.other-index l.rects) l.rect ≡ meets_one l.rects l.rect
