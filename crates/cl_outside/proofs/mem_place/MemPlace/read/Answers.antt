use Rattle.cl_outside.proofs.PlaceSteps.{IsPlace-fault}
use Rattle.cl_outside.proofs.mem_place.MemPlace.read.Goals as goal

pub invariant_of-self : goal.invariant_of-self
invariant_of-self c =
    let p = c.self.inside in rw c.raise.ensures (IsPlace-fault p.files p.faults p.source p.sink p.room _ _ c.self.invariant)
