use Rattle.std.proofs.Common.{◌≡◌, drop}
use Rattle.cl_phases.specs.SlotSearch.{calls, with_calls}
use Rattle.cl_phases.proofs.slot_reads.reach.Given as goal

abbrev pub invariant-loop-name : goal.invariant-loop-name
invariant-loop-name l = with_calls l.functions (drop l.name-index l.name-items) l.reached ≡ with_calls l.functions (calls l.expr) l.initial.reached
