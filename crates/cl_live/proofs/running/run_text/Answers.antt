use Rattle.cl_program.proofs.CommandLemmas.{reuse-loaded}
use Rattle.cl_program.specs.Hosts.{hosts_of}
use Rattle.cl_live.proofs.RunLemmas.{RanText-ran, RanText-refused}
use Rattle.cl_live.proofs.running.run_text.Goals as goal

pub run_application-end-requires-clause-reuse : goal.run_application-end-requires-clause-reuse
run_application-end-requires-clause-reuse g c =
    reuse-loaded (hosts_of g.H.Hosts.bounds g.H.Hosts.entries c.args.hosts.now) _ c.in-Ok.loaded.app c.in-Ok.loaded.lattice c.in-Ok.ensures.0 c.in-Ok.ensures.1

pub returns-in-Ok-clause-ran : goal.returns-in-Ok-clause-ran
returns-in-Ok-clause-ran g c =
    RanText-ran (g.O.Sink.lent c.args.out).told (hosts_of g.H.Hosts.bounds g.H.Hosts.entries c.args.hosts.now) _ _ c.in-Ok.loaded.app c.in-Ok.loaded.lattice _ _ _ c.in-Ok.ensures.0 c.in-Ok.ensures.1
    c.run_application-end.ensures.ran

pub returns-in-Err-clause-ran : goal.returns-in-Err-clause-ran
returns-in-Err-clause-ran g c =
    RanText-refused (g.O.Sink.lent c.args.out).told (hosts_of g.H.Hosts.bounds g.H.Hosts.entries c.args.hosts.now) _ _ c.in-Err.refusal _ _ c.tell_refusal.result c.in-Err.ensures
    (c.tell_refusal.ensures.tells (g.G.Source.left c.args.keys.now) (g.G.Source.faults c.args.keys.now) c.args.steps.now)
