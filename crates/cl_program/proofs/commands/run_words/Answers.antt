use Rattle.std.proofs.Common.{◌≡◌, ◌∙◌, ap, map, option_map, refl, subst, sym, Option, Some, List, ℕ, rules}
use denote.Bor.{Bor}
use Rattle.cl_invocation.specs.Shown.{invocation}
use Rattle.cl_invocation.specs.declared.invocation.Invocation.TheVariants as variant
use Rattle.cl_invocation.specs.Words.{Invocation, bench, check, invocation_of, run}
use Rattle.cl_program.specs.Commands.{KeptBy}
use Rattle.cl_frame.specs.Sending.{wire_of}
use Rattle.cl_program.specs.Hosts.{hosts_of}
use Rattle.cl_program.specs.Surroundings.{placed}
use Rattle.cl_program.proofs.BenchLemmas.{Ran-bench}
use Rattle.cl_program.proofs.BenchWords.{bench_within}
use Rattle.cl_program.proofs.CommandLemmas.{KeepsFiles-read, Ran-check, Ran-text, makes-kept, makes-read, wire_same}
use Rattle.cl_program.proofs.commands.run_words.Goals as goal

pub returns-in-Text-clause-ran : goal.returns-in-Text-clause-ran
returns-in-Text-clause-ran g c =
    let words = map (λ (w : Bor (List ℕ)). w.now) c.args.words.now in
    let is : invocation_of words ≡ Some (run c.in-Some-Run.application.now (option_map (λ (w : Bor (List ℕ)). w.now) c.in-Some-Run.wire) c.in-Some-Run.budget) =
    let read : c.in-Ok.read ≡ Some (variant.Run c.in-Some-Run.application c.in-Some-Run.wire c.in-Some-Run.budget) = search rules in
    sym c.in-Ok.ensures ∙ ap (option_map invocation) read in
    Ran-text (hosts_of g.H.Hosts.bounds g.H.Hosts.entries c.args.hosts.now) words c.in-Some-Run.application.now (option_map (λ (w : Bor (List ℕ)). w.now) c.in-Some-Run.wire) c.in-Some-Run.budget is _ _ _ _ _ c.in-Text.text.items c.run_text.result
    c.in-Text.ensures.text (wire_same _ _ _ _ _ _ c.in-Text.ensures.taken c.in-Text.ensures.writing c.in-Text.ensures.tells) c.in-Text.ensures.making
    (rw (c.as_slice.ensures.value, c.limits_of.ensures) at c.run_text.ensures.ran)

pub returns-in-Text-clause-keeps : goal.returns-in-Text-clause-keeps
returns-in-Text-clause-keeps g c =
    let words = map (λ (w : Bor (List ℕ)). w.now) c.args.words.now in
    let is : invocation_of words ≡ Some (run c.in-Some-Run.application.now (option_map (λ (w : Bor (List ℕ)). w.now) c.in-Some-Run.wire) c.in-Some-Run.budget) =
    let read : c.in-Ok.read ≡ Some (variant.Run c.in-Some-Run.application c.in-Some-Run.wire c.in-Some-Run.budget) = search rules in
    sym c.in-Ok.ensures ∙ ap (option_map invocation) read in
    let old = placed (g.P.Place.file c.args.place.now) (g.P.Place.app_faults c.args.place.now) (g.P.Place.making_faults c.args.place.now)
    (wire_of (g.P.Place.taken c.args.place.now) (g.P.Place.writing_faults c.args.place.now) (g.P.Place.tells c.args.place.now)) in
    let new = placed (g.P.Place.file c.run_text.new.place) (g.P.Place.app_faults c.run_text.new.place) (g.P.Place.making_faults c.run_text.new.place)
    (wire_of (g.P.Place.taken c.run_text.new.place) (g.P.Place.writing_faults c.run_text.new.place) (g.P.Place.tells c.run_text.new.place)) in
    subst (λ (i : Option Invocation). KeptBy i (g.P.Place.by_name c.args.place.now) old new) (sym is)
    (KeepsFiles-read c.in-Some-Run.application.now (option_map (λ (w : Bor (List ℕ)). w.now) c.in-Some-Run.wire) (g.P.Place.by_name c.args.place.now)
    (g.P.Place.by_name c.read_text.new.place) _ _ _ c.in-Text.ensures.by_name c.in-Text.ensures.files c.in-Text.ensures.making
    (wire_same _ _ _ _ _ _ c.in-Text.ensures.taken c.in-Text.ensures.writing c.in-Text.ensures.tells) c.in-Text.ensures.later c.in-Text.ensures.other_faults
    (c.run_text.ensures.keeps c.in-Some-Run.application.now))

pub returns-in-Text-read_text-clause-ran : goal.returns-in-Text-read_text-clause-ran
returns-in-Text-read_text-clause-ran g c =
    let words = map (λ (w : Bor (List ℕ)). w.now) c.args.words.now in
    let is : invocation_of words ≡ Some (check c.in-Some-Check.application.now) =
    let read : c.in-Ok.read ≡ Some (variant.Check c.in-Some-Check.application) = search rules in
    sym c.in-Ok.ensures ∙ ap (option_map invocation) read in
    Ran-check (hosts_of g.H.Hosts.bounds g.H.Hosts.entries c.args.hosts.now) words c.in-Some-Check.application.now _ _ _ _ c.in-Text-read_text.text.items c.check_text.result is c.in-Text-read_text.ensures.text
    (rw c.as_slice-in-Text-read_text.ensures.value at
    (c.check_text.ensures.checked (g.G.Source.left c.args.gestures.now) (g.G.Source.faults c.args.gestures.now) c.args.steps.now))

pub run_bench-requires-clause-least : goal.run_bench-requires-clause-least
run_bench-requires-clause-least g c =
    let words = map (λ (w : Bor (List ℕ)). w.now) c.args.words.now in
    let is : invocation_of words ≡ Some (bench c.in-Some-Bench.items) =
    let read : c.in-Ok.read ≡ Some (variant.Bench c.in-Some-Bench.items) = search rules in
    sym c.in-Ok.ensures ∙ ap (option_map invocation) read in
    (bench_within words c.in-Some-Bench.items is).0

pub run_bench-requires-clause-most : goal.run_bench-requires-clause-most
run_bench-requires-clause-most g c =
    let words = map (λ (w : Bor (List ℕ)). w.now) c.args.words.now in
    let is : invocation_of words ≡ Some (bench c.in-Some-Bench.items) =
    let read : c.in-Ok.read ≡ Some (variant.Bench c.in-Some-Bench.items) = search rules in
    sym c.in-Ok.ensures ∙ ap (option_map invocation) read in
    (bench_within words c.in-Some-Bench.items is).1

pub returns-in-Some-Bench-clause-ran : goal.returns-in-Some-Bench-clause-ran
returns-in-Some-Bench-clause-ran g c =
    let words = map (λ (w : Bor (List ℕ)). w.now) c.args.words.now in
    let is : invocation_of words ≡ Some (bench c.in-Some-Bench.items) =
    let read : c.in-Ok.read ≡ Some (variant.Bench c.in-Some-Bench.items) = search rules in
    sym c.in-Ok.ensures ∙ ap (option_map invocation) read in
    Ran-bench (hosts_of g.H.Hosts.bounds g.H.Hosts.entries c.args.hosts.now) words c.in-Some-Bench.items _ _ _ _ c.run_bench.result is
    (c.run_bench.ensures.ran (g.G.Source.left c.args.gestures.now) (g.G.Source.faults c.args.gestures.now))

pub returns-in-Some-Bench-clause-keeps : goal.returns-in-Some-Bench-clause-keeps
returns-in-Some-Bench-clause-keeps g c =
    let words = map (λ (w : Bor (List ℕ)). w.now) c.args.words.now in
    let is : invocation_of words ≡ Some (bench c.in-Some-Bench.items) =
    let read : c.in-Ok.read ≡ Some (variant.Bench c.in-Some-Bench.items) = search rules in
    sym c.in-Ok.ensures ∙ ap (option_map invocation) read in
    let old = placed (g.P.Place.file c.args.place.now) (g.P.Place.app_faults c.args.place.now) (g.P.Place.making_faults c.args.place.now)
    (wire_of (g.P.Place.taken c.args.place.now) (g.P.Place.writing_faults c.args.place.now) (g.P.Place.tells c.args.place.now)) in
    subst (λ (i : Option Invocation). KeptBy i (g.P.Place.by_name c.args.place.now) old old) (sym is) refl

pub returns-in-Text-clause-makes : goal.returns-in-Text-clause-makes
returns-in-Text-clause-makes g c =
    makes-read _ _ _ c.run_text.result c.in-Text.ensures.files c.in-Text.ensures.making
    (wire_same _ _ _ _ _ _ c.in-Text.ensures.taken c.in-Text.ensures.writing c.in-Text.ensures.tells) c.run_text.ensures.makes

pub returns-in-Text-read_text-clause-makes : goal.returns-in-Text-read_text-clause-makes
returns-in-Text-read_text-clause-makes g c =
    makes-kept _ _ c.check_text.result c.in-Text-read_text.ensures.files c.in-Text-read_text.ensures.making
    (wire_same _ _ _ _ _ _ c.in-Text-read_text.ensures.taken c.in-Text-read_text.ensures.writing c.in-Text-read_text.ensures.tells)

pub returns-in-Some-Bench-clause-makes : goal.returns-in-Some-Bench-clause-makes
returns-in-Some-Bench-clause-makes g c = makes-kept _ _ c.run_bench.result (λ name. refl) refl refl
