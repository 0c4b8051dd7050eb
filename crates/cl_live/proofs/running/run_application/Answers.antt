use Rattle.cl_live.proofs.running.run_application.Goals as goal

pub run_types-requires-clause-reuse : goal.run_types-requires-clause-reuse
run_types-requires-clause-reuse g c = rw (c.new-types.ensures.app, c.new-types.ensures.lattice, c.new-types.ensures.hosts) c.requires.reuse

pub returns-clause-ran : goal.returns-clause-ran
returns-clause-ran g c = rw (c.new-types.ensures.app, c.new-types.ensures.lattice, c.new-types.ensures.hosts) at c.run_types.ensures.ran
