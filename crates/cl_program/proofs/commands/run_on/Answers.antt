use Rattle.std.proofs.Common.{◌∙◌, ap, arith, refl, subst, sym, option_map, Option, List, ℕ}
use Rattle.cl_outside.specs.Place.{IsTold}
use denote.Bor.{Bor}
use Rattle.cl_frame.specs.Ground.{ground_of}
use Rattle.cl_program.proofs.CommandLemmas.{KeepsFiles-made, RanOn-none, RanOn-wire, none_by, told_other}
use Rattle.cl_program.proofs.commands.run_on.Goals as goal

pub returns-in_default-clause-ran : goal.returns-in_default-clause-ran
returns-in_default-clause-ran g c =
    RanOn-none _ (ground_of g.T.Types.holds g.T.Types.presents g.T.Types.reads g.T.Types.hierarchy c.args.program.now) _ _ _ _ _ _ c.run_program.result
    (none_by (λ (name : Bor (List ℕ)). name.now) c.args.wire c.in_default.not-Some) refl refl refl c.run_program.ensures.ran

pub returns-in-Done-clause-ran : goal.returns-in-Done-clause-ran
returns-in-Done-clause-ran g c =
    RanOn-wire _ c.in-Some.name.now (ground_of g.T.Types.holds g.T.Types.presents g.T.Types.reads g.T.Types.hierarchy c.args.program.now) _ _ _ _ _ c.run_on_wire.result
    (ap (option_map (λ (name : Bor (List ℕ)). name.now)) c.in-Some.is)
    (record {
      faults = c.in-Done.ensures.writing;
      told = c.in-Done.ensures.tells;
      unused = λ told. c.in-Done.ensures.unused (sym c.in-Done.ensures.tells ∙ told);
    })
    (subst (λ (other : Option (Option (List ℕ))). IsTold other (g.P.Place.taken c.run_on_wire.new.place) (g.P.Place.file c.run_on_wire.new.place c.in-Some.name.now))
    (c.run_on_wire.ensures.others c.in-Some.name.now ∙ c.in-Done.ensures.named)
    (g.met.P.Place.told c.run_on_wire.new.place c.in-Some.name.now))
    c.run_on_wire.ensures.ran

pub returns-in-Done-clause-keeps : goal.returns-in-Done-clause-keeps
returns-in-Done-clause-keeps g c = λ application.
    KeepsFiles-made application _ c.in-Some.name.now (g.P.Place.by_name c.args.place.now) _ _
    (ap (option_map (λ (name : Bor (List ℕ)). name.now)) c.in-Some.is)
    (λ other file apart is. told_other (g.P.Place.others c.run_on_wire.new.place other) (g.P.Place.taken c.run_on_wire.new.place) (g.P.Place.file c.run_on_wire.new.place other) file
    (c.run_on_wire.ensures.others other ∙ (c.in-Done.ensures.others other apart ∙ (c.in-Done.ensures.files other apart ∙ is)))
    (g.met.P.Place.told c.run_on_wire.new.place other))
    (omega (arith, c.in-Done.ensures.cause, c.run_on_wire.ensures.making))
    (omega (arith, c.in-Done.ensures.writing, c.run_on_wire.ensures.writing_later))
    (c.run_on_wire.ensures.tells ∙ c.in-Done.ensures.tells)
    (λ other. c.run_on_wire.ensures.app_faults other ∙ c.in-Done.ensures.app_faults other)

pub returns-in-Failed-clause-ran : goal.returns-in-Failed-clause-ran
returns-in-Failed-clause-ran g c =
    (c.in-Some.name.now, ap (option_map (λ (name : Bor (List ℕ)). name.now)) c.in-Some.is, c.in-Failed.ensures.cause.1, refl)

pub returns-in-Failed-clause-keeps : goal.returns-in-Failed-clause-keeps
returns-in-Failed-clause-keeps g c = λ application.
    KeepsFiles-made application _ c.in-Some.name.now (g.P.Place.by_name c.args.place.now) _ _
    (ap (option_map (λ (name : Bor (List ℕ)). name.now)) c.in-Some.is)
    (λ other file apart is. c.in-Failed.ensures.files other apart ∙ is)
    c.in-Failed.ensures.cause.0 (omega (arith, c.in-Failed.ensures.writing)) c.in-Failed.ensures.tells c.in-Failed.ensures.app_faults

pub returns-in-Memory-clause-keeps : goal.returns-in-Memory-clause-keeps
returns-in-Memory-clause-keeps g c = λ application.
    KeepsFiles-made application _ c.in-Some.name.now (g.P.Place.by_name c.args.place.now) _ _
    (ap (option_map (λ (name : Bor (List ℕ)). name.now)) c.in-Some.is)
    (λ other file apart is. c.in-Memory.ensures.files other apart ∙ is)
    (omega (arith, c.in-Memory.ensures.cause)) (omega (arith, c.in-Memory.ensures.writing)) c.in-Memory.ensures.tells c.in-Memory.ensures.app_faults
