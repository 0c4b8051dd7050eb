use Rattle.cl_phases.proofs.slot_reads.SlotSearch.function_reads_slot.Goals as goal

pub function_reads_slot-requires : goal.function_reads_slot-requires
function_reads_slot-requires c = rw c.replace-reached.ensures.value c.self.invariant
