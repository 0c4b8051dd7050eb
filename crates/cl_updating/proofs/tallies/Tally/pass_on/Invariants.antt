use Rattle.std.proofs.Common.{◌≡◌, ◌+◌}
use Rattle.cl_updating.proofs.tallies.Tally.pass_on.Given as goal

abbrev pub invariant-ticks : goal.invariant-ticks
invariant-ticks g l = l.steps ≡ l.initial.steps + l._tick
