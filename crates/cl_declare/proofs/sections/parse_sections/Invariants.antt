use Rattle.std.proofs.Common.{◌≡◌, [], drop, map}
use Rattle.cl_forms.specs.KeyedView.{keyed_of}
use Rattle.cl_declare.specs.Sections.{parse_sections}
use Rattle.cl_declare.proofs.sections.parse_sections.Given as goal

abbrev pub invariant-loop-section : goal.invariant-loop-section
invariant-loop-section l =
    parse_sections l.reader.signatures.now (map keyed_of (drop l.section-index l.sections)) l.slots l.notes
    ≡ parse_sections l.reader.signatures.now (map keyed_of l.sections) [] l.initial.notes
