use Rattle.std.proofs.Common.{◌≡◌}
use Rattle.cl_gen.specs.Workload.{joined, sets_to}
use Rattle.cl_gen.proofs.gestures.gestures_text.Given as goal

abbrev pub invariant-loop-done : goal.invariant-loop-done
invariant-loop-done l = l.text.items ≡ joined (sets_to l.done)
