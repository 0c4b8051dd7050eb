-- A device over a sink shows what its wire shows.
use Rattle.std.specs.Prelude.{ℕ, Bool, List, Option, refl}
use Rattle.cl_outside.specs.Sending.{IsTied}
use Rattle.cl_raster.specs.Wires.{wire_picture}

-- what a wire shows is tied to what it took
pub tied_wire : (told broken : Bool) (taken : Option (List ℕ)) → IsTied told taken broken (wire_picture told broken taken)
tied_wire told broken taken = λ is_told whole bytes is_wire. rw (is_told, whole, is_wire) refl
