use Rattle.std.proofs.Common.{drop}
use Rattle.cl_phases.specs.SlotReads.{ElsesRead}
use Rattle.cl_phases.specs.SlotSearch.{AreClear}
use Rattle.cl_phases.proofs.slot_reads.elses_read_slot.Given as goal

abbrev pub invariant-loop-place : goal.invariant-loop-place
invariant-loop-place l = record { clear : AreClear l.functions l.reached; left : ElsesRead l.functions l.queries → ElsesRead l.functions (drop l.place l.queries) }
