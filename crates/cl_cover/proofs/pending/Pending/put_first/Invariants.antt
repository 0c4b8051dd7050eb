use Rattle.std.proofs.Common.{◌≡◌, ◌++◌, length, reverse}
use Rattle.cl_cover.proofs.pending.Pending.put_first.Given as goal

abbrev pub invariant-loop-step : goal.invariant-loop-step
invariant-loop-step l = l.steps.items ++ reverse l.self-inside.items.items ≡ l.initial.steps.items ++ reverse l.initial.self-inside.items.items

abbrev pub decreases-loop-step : goal.decreases-loop-step
decreases-loop-step l = length l.steps.items
