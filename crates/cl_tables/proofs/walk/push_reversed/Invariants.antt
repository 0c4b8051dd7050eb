use Rattle.std.proofs.Common.{◌≡◌, ◌++◌, reverse, length}
use Rattle.cl_tables.proofs.walk.push_reversed.Given as goal

abbrev pub invariant-loop-last : goal.invariant-loop-last
invariant-loop-last l = l.waiting.items ++ reverse l.rest ≡ l.initial.waiting.items ++ reverse l.names

abbrev pub decreases-loop-last : goal.decreases-loop-last
decreases-loop-last l = length l.rest
