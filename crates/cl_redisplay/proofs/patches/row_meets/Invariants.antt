use Rattle.std.proofs.Common.{◌≡◌, drop, false, true}
use Rattle.cl_region.specs.Places.{is_between}
use Rattle.cl_spans.specs.Runs.{row_holds}
use Rattle.cl_redisplay.proofs.patches.row_meets.Given as goal

-- a column of the rectangle that one of the spans holds is held by one of those that are left
abbrev pub invariant-loop-span : goal.invariant-loop-span
invariant-loop-span l =
    (x : _) → is_between l.rect.x1 x l.rect.x2 ≡ true → row_holds (drop l.span-index l.spans) x ≡ false → row_holds l.spans x ≡ false
