use Rattle.std.proofs.Common.{◌≡◌, drop, map}
use Rattle.cl_forms.specs.DatumView.{datum_of}
use Rattle.cl_declare.specs.Sections.{parse_slots}
use Rattle.cl_declare.proofs.sections.parse_slots.Given as goal

abbrev pub invariant-loop-slot : goal.invariant-loop-slot
invariant-loop-slot l =
    parse_slots l.reader.signatures.now (map datum_of (drop l.slot-index l.parts)) l.slots l.notes
    ≡ parse_slots l.reader.signatures.now (map datum_of l.parts) l.initial.slots l.initial.notes
