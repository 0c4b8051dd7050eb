use Rattle.std.proofs.Common.{◌≡◌, ◌+◌}
use Rattle.cl_display.proofs.presentations.count_on.Given as goal

abbrev pub invariant-ticks : goal.invariant-ticks
invariant-ticks g l = l.steps ≡ l.initial.steps + l._tick
