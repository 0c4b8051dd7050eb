use Rattle.clim_term.proofs.run.Goals as goal

pub returns-clause-refusal_due : goal.returns-clause-refusal_due
returns-clause-refusal_due g c = rw c.from.ensures c.live_main-status.ensures.refusal_due

pub returns-clause-complete : goal.returns-clause-complete
returns-clause-complete g c = rw c.from.ensures c.live_main-status.ensures.complete
