use Rattle.std.proofs.Common.{◌+◌, ◌-◌, length}
use Rattle.cl_phases.proofs.Entries.{missing}
use Rattle.cl_phases.proofs.SearchLemmas.{Search}
use Rattle.cl_phases.proofs.slot_reads.reads_slot.Given as goal

abbrev pub invariant-loop-place : goal.invariant-loop-place
invariant-loop-place l = Search l.functions l.expr l.fn.reached l.reached l.place

abbrev pub decreases-loop-place : goal.decreases-loop-place
decreases-loop-place l = missing l.functions l.reached + length l.reached - l.place
