use Rattle.std.proofs.Common.{[], refl, arith}
use Rattle.cl_outside.proofs.PlaceSteps.{IsPlace-file, named_source-updated}
use Rattle.cl_outside.proofs.mem_place.MemPlace.make.Goals as goal

pub invariant_of-self-in-Ok : goal.invariant_of-self-in-Ok
invariant_of-self-in-Ok c =
    let p = c.self.inside in let made = c.in-Ok.ensures in
    IsPlace-file p.files c.make.new.self p.faults p.source p.sink p.room c.args.name.now [] c.in-Ok.place
    made.entries made.place.0 made.place.1 made.room (omega arith) c.self.invariant

pub returns-in-Ok-clause-step : goal.returns-in-Ok-clause-step
returns-in-Ok-clause-step c =
    let p = c.self.inside in let made = c.in-Ok.ensures in
    rw (← c.self.view_is, made.place.1, made.entries, named_source-updated p.files p.faults p.source p.sink p.room c.args.name.now [] c.self.invariant, c.next_fails.ensures.counted) refl
