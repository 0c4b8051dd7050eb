use Rattle.clim_run.proofs.run.Goals as goal

pub returns-clause-complete : goal.returns-clause-complete
returns-clause-complete g c = rw c.exit_code.ensures c.clim_main.ensures.complete

pub returns-clause-limit_due : goal.returns-clause-limit_due
returns-clause-limit_due g c = rw c.exit_code.ensures c.clim_main.ensures.limit_due

pub returns-clause-bench_due : goal.returns-clause-bench_due
returns-clause-bench_due g c = rw c.exit_code.ensures c.clim_main.ensures.bench_due

pub returns-clause-bench_refusal_due : goal.returns-clause-bench_refusal_due
returns-clause-bench_refusal_due g c = rw c.exit_code.ensures c.clim_main.ensures.bench_refusal_due
