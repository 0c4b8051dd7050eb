use Rattle.std.proofs.Common.{refl}
use Rattle.cl_program.specs.Hosts.{hosts_of}
use Rattle.cl_program.proofs.CommandLemmas.{Ran-application, Ran-refused, makes-kept, makes-ran, reuse-loaded}
use Rattle.cl_program.proofs.commands.run_text.Goals as goal

pub run_application-requires-clause-reuse : goal.run_application-requires-clause-reuse
run_application-requires-clause-reuse g c =
    reuse-loaded (hosts_of g.H.Hosts.bounds g.H.Hosts.entries c.args.hosts.now) _ c.in-Ok.loaded.app c.in-Ok.loaded.lattice c.in-Ok.ensures.0 c.in-Ok.ensures.1

pub returns-in-Ok-clause-ran : goal.returns-in-Ok-clause-ran
returns-in-Ok-clause-ran g c =
    Ran-application (hosts_of g.H.Hosts.bounds g.H.Hosts.entries c.args.hosts.now) _ _ _ c.in-Ok.loaded.app c.in-Ok.loaded.lattice _ _ _ _ c.run_application.result c.in-Ok.ensures.0 c.in-Ok.ensures.1 c.run_application.ensures.ran

pub returns-in-Err-clause-ran : goal.returns-in-Err-clause-ran
returns-in-Err-clause-ran g c =
    Ran-refused (hosts_of g.H.Hosts.bounds g.H.Hosts.entries c.args.hosts.now) _ _ _ c.in-Err.refusal _ _ _ _ c.tell_refusal.result c.in-Err.ensures
    (c.tell_refusal.ensures.tells (g.G.Source.left c.args.gestures.now) (g.G.Source.faults c.args.gestures.now) c.args.steps.now)

pub returns-in-Ok-clause-makes : goal.returns-in-Ok-clause-makes
returns-in-Ok-clause-makes g c = makes-ran _ _ _ _ _ _ c.run_application.result c.run_application.ensures.ran

pub returns-in-Err-clause-makes : goal.returns-in-Err-clause-makes
returns-in-Err-clause-makes g c = makes-kept _ _ c.tell_refusal.result (λ name. refl) refl refl
