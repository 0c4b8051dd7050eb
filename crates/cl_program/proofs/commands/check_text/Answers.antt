use Rattle.cl_program.proofs.CommandLemmas.{Checked-refused}
use Rattle.cl_program.proofs.commands.check_text.Goals as goal

pub returns-in-Some-clause-checked : goal.returns-in-Some-clause-checked
returns-in-Some-clause-checked g c = λ left faults spent.
    Checked-refused (g.H.Hosts.bounds c.args.hosts.now) c.args.text.now c.in-Some.refusal _ _ c.tell_refusal.result c.in-Some.ensures
    (c.tell_refusal.ensures.tells left faults spent)
