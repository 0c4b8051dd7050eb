use Rattle.std.proofs.Common.{◌≡◌, length, map, reverse}
use Rattle.cl_eval.specs.Slots.{entry_of, value_named}
use Rattle.cl_eval.proofs.variables.newest.Given as goal

abbrev pub invariant-loop-last : goal.invariant-loop-last
invariant-loop-last l = value_named l.name (reverse (map entry_of l.left)) ≡ value_named l.name (reverse (map entry_of l.variables))

abbrev pub decreases-loop-last : goal.decreases-loop-last
decreases-loop-last l = length l.left
