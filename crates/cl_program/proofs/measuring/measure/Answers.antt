use Rattle.cl_program.proofs.measuring.measure.Goals as goal

pub measure_types-requires-clause-reuse : goal.measure_types-requires-clause-reuse
measure_types-requires-clause-reuse g c = rw (c.new-types.ensures.app, c.new-types.ensures.lattice, c.new-types.ensures.hosts) c.requires.reuse

pub returns-clause-measures : goal.returns-clause-measures
returns-clause-measures g c = rw (c.new-types.ensures.app, c.new-types.ensures.lattice, c.new-types.ensures.hosts) at c.measure_types.ensures.measures
