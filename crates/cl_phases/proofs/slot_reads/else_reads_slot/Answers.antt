use Rattle.cl_phases.proofs.slot_reads.else_reads_slot.Goals as goal

pub returns-in-Some-clause-reads : goal.returns-in-Some-clause-reads
returns-in-Some-clause-reads c = rw c.in-Some.is c.reads_slot.ensures.reads
