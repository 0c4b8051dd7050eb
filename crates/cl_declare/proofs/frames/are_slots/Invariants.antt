use Rattle.std.proofs.Common.{◌≡◌, drop, map}
use Rattle.cl_forms.specs.DatumView.{datum_of}
use Rattle.cl_declare.specs.Frames.{are_slots}
use Rattle.cl_declare.proofs.frames.are_slots.Given as goal

abbrev pub invariant-loop-slot : goal.invariant-loop-slot
invariant-loop-slot l = are_slots (map datum_of (drop l.slot-index l.slots)) ≡ are_slots (map datum_of l.slots)
