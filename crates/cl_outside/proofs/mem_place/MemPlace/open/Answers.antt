use Rattle.std.proofs.Common.{◌≡◌, refl, inr, ⊎_elim, ap, ◌∙◌, None, true}
use Rattle.cl_outside.specs.Memory.{IsToFail}
use Rattle.cl_outside.specs.Named.{found}
use Rattle.cl_outside.proofs.Tables.{found-none, found_first}
use Rattle.cl_outside.proofs.PlaceSteps.{IsPlace-fault, ready_raised}
use Rattle.cl_outside.proofs.mem_place.MemPlace.open.Goals as goal

pub invariant_of-self-then-fails : goal.invariant_of-self-then-fails
invariant_of-self-then-fails c =
    let p = c.self.inside in
    rw (ready_raised p.faults c.ready.new.self c.raise.new.self c.args.name.now c.in-Ok.fault c.in-Ok.ensures.counts c.in-Ok.ensures.place.1 c.raise.ensures)
    (IsPlace-fault p.files p.faults p.source p.sink p.room c.args.name.now _ c.self.invariant)

pub returns-then-fails-clause-step : goal.returns-then-fails-clause-step
returns-then-fails-clause-step c =
    rw (
      ← c.self.view_is,
      ready_raised c.self.inside.faults c.ready.new.self c.raise.new.self c.args.name.now c.in-Ok.fault c.in-Ok.ensures.counts c.in-Ok.ensures.place.1 c.raise.ensures,
      c.next_fails-fails.ensures.counted,
    ) refl

pub invariant_of-self-in-None : goal.invariant_of-self-in-None
invariant_of-self-in-None c =
    let p = c.self.inside in
    rw (ready_raised p.faults c.ready.new.self c.raise-in-None.new.self c.args.name.now c.in-Ok.fault c.in-Ok.ensures.counts c.in-Ok.ensures.place.1 c.raise-in-None.ensures)
    (IsPlace-fault p.files p.faults p.source p.sink p.room c.args.name.now _ c.self.invariant)

pub returns-in-None-clause-step : goal.returns-in-None-clause-step
returns-in-None-clause-step c =
    rw (
      ← c.self.view_is,
      ready_raised c.self.inside.faults c.ready.new.self c.raise-in-None.new.self c.args.name.now c.in-Ok.fault c.in-Ok.ensures.counts c.in-Ok.ensures.place.1 c.raise-in-None.ensures,
      c.next_fails-fails.ensures.counted,
    ) refl

pub returns-in-Some-clause-fails : goal.returns-in-Some-clause-fails
returns-in-Some-clause-fails c =
    rw (← c.self.view_is) (⊎_elim
    (λ (listed : IsToFail c.self.inside.plan). let yes : c.next_fails-fails.result ≡ true = c.next_fails-fails.ensures.listed.1 listed in let no = c.if-fails.false in cc)
    (λ (none : found c.self.inside.files.entries c.args.name.now ≡ None).
    found_first c.self.inside.files.entries c.in-Some.file c.in-Some.ensures.0 (ap (found c.self.inside.files.entries) c.in-Some.ensures.1 ∙ none)))

pub returns-in-None-clause-fails : goal.returns-in-None-clause-fails
returns-in-None-clause-fails c = rw (← c.self.view_is) (inr (found-none c.self.inside.files.entries c.args.name.now c.in-None.ensures))
