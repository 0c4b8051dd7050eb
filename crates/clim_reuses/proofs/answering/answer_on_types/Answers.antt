use Rattle.clim_reuses.proofs.answering.answer_on_types.Goals as goal

pub answer_all-requires : goal.answer_all-requires
answer_all-requires g c = rw (c.new-types.ensures.app, c.new-types.ensures.lattice, c.new-types.ensures.hosts) c.requires
