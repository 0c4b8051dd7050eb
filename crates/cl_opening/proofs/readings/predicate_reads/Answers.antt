use Rattle.cl_opening.proofs.readings.predicate_reads.Goals as goal

pub returns-in-Some-clause-reads : goal.returns-in-Some-clause-reads
returns-in-Some-clause-reads c = rw (c.in-Some.is, ← c.as_slice.ensures) c.function_reads_slot.ensures.reads
