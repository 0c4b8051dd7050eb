use Rattle.std.proofs.Common.{Bor, List, map, ℕ}
use Rattle.cl_frame.specs.Sending.{wire_of}
use Rattle.cl_live.proofs.StatusLemmas.{complete, refusal_due}
use Rattle.cl_program.specs.Hosts.{hosts_of}
use Rattle.cl_program.specs.Surroundings.{placed, streams}
use Rattle.cl_live.proofs.statuses.live_main.Goals as goal

pub returns-clause-refusal_due : goal.returns-clause-refusal_due
returns-clause-refusal_due g c = λ name budget reason is quiet refusal.
    let words = map (λ (w : Bor (List ℕ)). w.now) c.args.words.now in
    let old = placed (g.P.Place.file c.args.place.now) (g.P.Place.app_faults c.args.place.now) (g.P.Place.making_faults c.args.place.now)
    (wire_of (g.P.Place.taken c.args.place.now) (g.P.Place.writing_faults c.args.place.now) (g.P.Place.tells c.args.place.now)) in
    let here = c.run_words-how.new.place in
    let new = placed (g.P.Place.file here) (g.P.Place.app_faults here) (g.P.Place.making_faults here)
    (wire_of (g.P.Place.taken here) (g.P.Place.writing_faults here) (g.P.Place.tells here)) in
    let s = streams (g.G.Source.left c.args.keys.now) (g.G.Source.faults c.args.keys.now) (g.O.Sink.taken c.args.out) (g.O.Sink.faults c.args.out)
    c.args.steps.now in
    let t = streams (g.G.Source.left c.run_words-how.new.keys) (g.G.Source.faults c.run_words-how.new.keys) (g.O.Sink.taken c.run_words-how.result.1)
    (g.O.Sink.faults c.run_words-how.result.1) c.run_words-how.new.steps in
    rw c.status_of.ensures
    (refusal_due (g.O.Sink.lent c.args.out).told (hosts_of g.H.Hosts.bounds g.H.Hosts.entries c.args.hosts.now) words old new s t c.run_words-how.result.0 name budget reason
    c.run_words-how.ensures.went is quiet refusal)

pub returns-clause-complete : goal.returns-clause-complete
returns-clause-complete g c = λ name budget is quiet keys output declares.
    let words = map (λ (w : Bor (List ℕ)). w.now) c.args.words.now in
    let old = placed (g.P.Place.file c.args.place.now) (g.P.Place.app_faults c.args.place.now) (g.P.Place.making_faults c.args.place.now)
    (wire_of (g.P.Place.taken c.args.place.now) (g.P.Place.writing_faults c.args.place.now) (g.P.Place.tells c.args.place.now)) in
    let here = c.run_words-how.new.place in
    let new = placed (g.P.Place.file here) (g.P.Place.app_faults here) (g.P.Place.making_faults here)
    (wire_of (g.P.Place.taken here) (g.P.Place.writing_faults here) (g.P.Place.tells here)) in
    let s = streams (g.G.Source.left c.args.keys.now) (g.G.Source.faults c.args.keys.now) (g.O.Sink.taken c.args.out) (g.O.Sink.faults c.args.out)
    c.args.steps.now in
    let t = streams (g.G.Source.left c.run_words-how.new.keys) (g.G.Source.faults c.run_words-how.new.keys) (g.O.Sink.taken c.run_words-how.result.1)
    (g.O.Sink.faults c.run_words-how.result.1) c.run_words-how.new.steps in
    rw c.status_of.ensures
    (complete (g.O.Sink.lent c.args.out).told (hosts_of g.H.Hosts.bounds g.H.Hosts.entries c.args.hosts.now) words old new s t c.run_words-how.result.0 name budget
    c.run_words-how.ensures.went is quiet keys output declares)
