use Rattle.cl_phases.proofs.slot_reads.SlotSearch.dialog_reads_slot.Goals as goal

pub elses_read_slot-requires : goal.elses_read_slot-requires
elses_read_slot-requires c = rw c.replace-reached.ensures.value c.self.invariant
