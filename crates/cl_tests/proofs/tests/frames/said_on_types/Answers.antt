use Rattle.cl_tests.proofs.tests.frames.said_on_types.Goals as goal

pub frame_states-requires-clause-reuse : goal.frame_states-requires-clause-reuse
frame_states-requires-clause-reuse g c = rw (c.new-types.ensures.app, c.new-types.ensures.lattice, c.new-types.ensures.hosts) c.requires

pub session_states-requires-clause-reuse : goal.session_states-requires-clause-reuse
session_states-requires-clause-reuse g c = rw (c.new-types.ensures.app, c.new-types.ensures.lattice, c.new-types.ensures.hosts) c.requires
