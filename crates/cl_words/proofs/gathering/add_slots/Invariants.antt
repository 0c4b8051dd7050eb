use Rattle.std.proofs.Common.{◌≡◌, drop, map}
use Rattle.cl_forms.specs.DatumView.{datum_of}
use Rattle.cl_words.specs.Signatures.{with_slots}
use Rattle.cl_words.proofs.gathering.add_slots.Given as goal

abbrev pub invariant-loop-slot : goal.invariant-loop-slot
invariant-loop-slot l = with_slots l.signatures (map datum_of (drop l.slot-index l.slots)) ≡ with_slots l.initial.signatures (map datum_of l.slots)
