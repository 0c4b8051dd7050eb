use Rattle.std.proofs.Common.{◌≡◌, ◌+◌, length}
use Rattle.cl_tables.proofs.clearing.push_parents.Given as goal

abbrev pub invariant-loop-parent : goal.invariant-loop-parent
invariant-loop-parent l = length l.steps.items ≡ length l.initial.steps.items + l.parent-index
