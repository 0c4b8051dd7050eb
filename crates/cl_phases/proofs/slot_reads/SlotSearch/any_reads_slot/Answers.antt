use Rattle.cl_phases.proofs.slot_reads.SlotSearch.any_reads_slot.Goals as goal

pub any_reads_slot-requires : goal.any_reads_slot-requires
any_reads_slot-requires c = rw c.replace-reached.ensures.value c.self.invariant
