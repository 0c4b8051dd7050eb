use Rattle.std.proofs.Common.{Bor, List, map, ℕ}
use Rattle.cl_frame.specs.Sending.{wire_of}
use Rattle.cl_live.proofs.RunLemmas.{Went-usage}
use Rattle.cl_live.specs.Words.{IsNoLive}
use Rattle.cl_program.specs.Hosts.{hosts_of}
use Rattle.cl_program.specs.Surroundings.{placed, streams}
use Rattle.cl_live.proofs.running.run_words.Goals as goal

pub returns-clause-went : goal.returns-clause-went
returns-clause-went g c =
    let words = map (λ (w : Bor (List ℕ)). w.now) c.args.words.now in
    let none : IsNoLive words = rw (c.in-None.is, c.as_slice.ensures.value, c.in-Ok.ensures) at c.in-Ok-read_run.ensures in
    Went-usage (g.O.Sink.lent c.args.out).told (hosts_of g.H.Hosts.bounds g.H.Hosts.entries c.args.hosts.now) words
    (placed (g.P.Place.file c.args.place.now) (g.P.Place.app_faults c.args.place.now) (g.P.Place.making_faults c.args.place.now)
    (wire_of (g.P.Place.taken c.args.place.now) (g.P.Place.writing_faults c.args.place.now) (g.P.Place.tells c.args.place.now)))
    (streams (g.G.Source.left c.args.keys.now) (g.G.Source.faults c.args.keys.now) (g.O.Sink.taken c.args.out) (g.O.Sink.faults c.args.out)
    c.args.steps.now)
    (streams (g.G.Source.left c.args.keys.now) (g.G.Source.faults c.args.keys.now) (g.O.Sink.taken c.tell_usage.new.out)
    (g.O.Sink.faults c.tell_usage.new.out) c.args.steps.now)
    c.tell_usage.result none
    (c.tell_usage.ensures.says (g.G.Source.left c.args.keys.now) (g.G.Source.faults c.args.keys.now) c.args.steps.now)
