use Rattle.std.proofs.Common.{◌≡◌, [], drop, map}
use Rattle.cl_forms.specs.DatumView.{datum_of}
use Rattle.cl_forms.specs.KeyedView.{keyed_of}
use Rattle.cl_forms.specs.Keys.{keyed_sections}
use Rattle.cl_forms.proofs.keys.keyed_sections.Given as goal

abbrev pub invariant-loop-section : goal.invariant-loop-section
invariant-loop-section l = keyed_sections l.may_have (map keyed_of l.keyed.items) (map datum_of (drop l.section-index l.sections)) ≡ keyed_sections l.may_have [] (map datum_of l.sections)
