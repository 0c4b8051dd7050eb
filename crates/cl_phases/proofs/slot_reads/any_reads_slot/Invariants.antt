use Rattle.std.proofs.Common.{drop}
use Rattle.cl_phases.specs.SlotReads.{AnyReads}
use Rattle.cl_phases.specs.SlotSearch.{AreClear}
use Rattle.cl_phases.proofs.slot_reads.any_reads_slot.Given as goal

abbrev pub invariant-loop-place : goal.invariant-loop-place
invariant-loop-place l = record { clear : AreClear l.functions l.reached; left : AnyReads l.functions l.slots → AnyReads l.functions (drop l.place l.slots) }
