use Rattle.cl_phases.proofs.slot_reads.SlotSearch.command_reads_slot.Goals as goal

pub defaults_read_slot-requires : goal.defaults_read_slot-requires
defaults_read_slot-requires c = rw c.replace-reached.ensures.value c.self.invariant
