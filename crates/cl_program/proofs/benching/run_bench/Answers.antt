use Rattle.std.proofs.Common.{◌≡◌, ◌+◌, ◌*◌, ◌∙◌, List, ℕ, ap, arith, length, subst}
use Rattle.std.specs.Prelude.{Err, None}
use Rattle.cl_frame.specs.Ground.{ground}
use Rattle.cl_gen.specs.Workload.{application_text, gestures_text}
use Rattle.cl_gen.proofs.Lines.{are_counted}
use Rattle.cl_gesture.specs.Lines.{pieces}
use Rattle.cl_load.specs.Application.{IsApplication}
use Rattle.cl_load.specs.Loads.{Loads}
use Rattle.cl_ptext.specs.Subtyping.{hierarchy_in}
use Rattle.cl_program.specs.Hosts.{hosts_of, meanings_in, reads_in}
use Rattle.cl_program.specs.Run.{IsMeasured, limits_of}
use Rattle.cl_program.proofs.BenchLemmas.{bench-ran_out, bench-refused, bench-told}
use Rattle.cl_program.proofs.CommandLemmas.{reuse-loaded}
use Rattle.cl_program.proofs.benching.run_bench.Goals as goal

pub measure-requires-clause-reuse : goal.measure-requires-clause-reuse
measure-requires-clause-reuse g c =
    reuse-loaded (hosts_of g.H.Hosts.bounds g.H.Hosts.entries c.args.hosts.now) c.as_slice.result.now c.in-Ok-load.loaded.app c.in-Ok-load.loaded.lattice
    c.in-Ok-load.ensures.0 c.in-Ok-load.ensures.1

pub measure-requires-clause-few : goal.measure-requires-clause-few
measure-requires-clause-few g c =
    let same : c.as_slice-in-Ok-load.result.now ≡ gestures_text c.args.items = c.as_slice-in-Ok-load.ensures ∙ c.in-Ok.ensures.gestures in
    let count : length (pieces c.as_slice-in-Ok-load.result.now) ≡ 2 * c.args.items + 2 =
    ap (λ (bytes : List ℕ). length (pieces bytes)) same ∙ are_counted c.args.items in
    omega (arith, count, c.requires.most)

pub returns-in-Ok-measure-clause-ran : goal.returns-in-Ok-measure-clause-ran
returns-in-Ok-measure-clause-ran g c = λ left faults.
    let hosts = hosts_of g.H.Hosts.bounds g.H.Hosts.entries c.args.hosts.now in
    let app = c.in-Ok-load.loaded.app in
    let types = c.in-Ok-load.loaded.lattice in
    let text : c.as_slice.result.now ≡ application_text c.args.items = c.as_slice.ensures ∙ c.in-Ok.ensures.application in
    let gestures : c.as_slice-in-Ok-load.result.now ≡ gestures_text c.args.items = c.as_slice-in-Ok-load.ensures ∙ c.in-Ok.ensures.gestures in
    bench-told hosts c.args.items app types left faults c.args.steps.now c.measure.new.steps
    (subst (λ (bytes : List ℕ). IsApplication hosts.bounds bytes app) text c.in-Ok-load.ensures.0) c.in-Ok-load.ensures.1
    c.in-Ok-measure.totals (g.O.Sink.taken c.args.out.now) (g.O.Sink.taken c.tell_totals.new.out) (g.O.Sink.faults c.args.out.now) (g.O.Sink.faults c.tell_totals.new.out)
    (subst (λ (bytes : List ℕ). IsMeasured (ground app (meanings_in hosts.names types app) (reads_in hosts.names types app) (hierarchy_in types) (limits_of None)) bytes
    c.args.steps.now c.measure.new.steps c.in-Ok-measure.totals) gestures c.in-Ok-measure.ensures.measures)
    c.tell_totals.result c.tell_totals.ensures.tells

pub returns-in-Ok-load-clause-ran : goal.returns-in-Ok-load-clause-ran
returns-in-Ok-load-clause-ran g c = λ left faults.
    let hosts = hosts_of g.H.Hosts.bounds g.H.Hosts.entries c.args.hosts.now in
    let text : c.as_slice.result.now ≡ application_text c.args.items = c.as_slice.ensures ∙ c.in-Ok.ensures.application in
    bench-ran_out hosts c.args.items c.in-Ok-load.loaded.app c.in-Ok-load.loaded.lattice left faults c.args.steps.now c.measure.new.steps
    (subst (λ (bytes : List ℕ). IsApplication hosts.bounds bytes c.in-Ok-load.loaded.app) text c.in-Ok-load.ensures.0) c.in-Ok-load.ensures.1
    (g.O.Sink.taken c.args.out.now) (g.O.Sink.faults c.args.out.now) c.in-Err-measure.ensures.later c.in-Err-measure.ensures.measures

pub returns-clause-ran : goal.returns-clause-ran
returns-clause-ran g c = λ left faults.
    let hosts = hosts_of g.H.Hosts.bounds g.H.Hosts.entries c.args.hosts.now in
    let text : c.as_slice.result.now ≡ application_text c.args.items = c.as_slice.ensures ∙ c.in-Ok.ensures.application in
    bench-refused hosts c.args.items c.in-Err.refusal _ _ c.tell_refusal.result
    (subst (λ (bytes : List ℕ). Loads hosts.bounds bytes (Err c.in-Err.refusal)) text c.in-Err.ensures)
    (c.tell_refusal.ensures.tells left faults c.args.steps.now)
