use Rattle.std.proofs.Common.{◌≡◌, drop, map}
use Rattle.cl_forms.specs.DatumView.{datum_of}
use Rattle.cl_words.specs.Signatures.{with_sections}
use Rattle.cl_words.proofs.gathering.add_sections.Given as goal

abbrev pub invariant-loop-section : goal.invariant-loop-section
invariant-loop-section l = with_sections l.signatures (map datum_of (drop l.section-index l.sections)) ≡ with_sections l.initial.signatures (map datum_of l.sections)
