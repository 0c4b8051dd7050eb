-- A device whose wire is not told at all times owes nothing of it.
use Rattle.std.specs.Prelude.{ℕ, Bool, false, List, Option}
use Rattle.std.proofs.Common.{arith}
use Rattle.cl_outside.specs.Device.{Picture}
use Rattle.cl_outside.specs.Sending.{IsTied}

-- a wire that is not told is tied to any picture
pub untied : (wire : Option (List ℕ)) (broken : Bool) (picture : Option Picture) → IsTied false wire broken picture
untied wire broken picture = λ told whole bytes is_wire. absurd (grind (arith, told))
