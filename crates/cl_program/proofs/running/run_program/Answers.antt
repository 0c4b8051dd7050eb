use Rattle.cl_program.proofs.running.run_program.Goals as goal

pub returns-in-Ok-open-clause-ran : goal.returns-in-Ok-open-clause-ran
returns-in-Ok-open-clause-ran g c = (_, c.serve.ensures.ended c.args.steps.now _ c.in-Ok-open.ensures.ledger c.in-Ok-open.ensures.opens)
