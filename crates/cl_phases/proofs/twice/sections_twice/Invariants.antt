use Rattle.std.proofs.Common.{◌≡◌, drop, map}
use Rattle.cl_forms.specs.DatumView.{datum_of}
use Rattle.cl_phases.specs.Earlier.{earlier}
use Rattle.cl_phases.specs.Twice.{sections_twice}
use Rattle.cl_phases.proofs.twice.sections_twice.Given as goal

abbrev pub invariant-loop-section : goal.invariant-loop-section
invariant-loop-section l = earlier l.first (sections_twice (map datum_of (drop l.section-index l.sections))) ≡ sections_twice (map datum_of l.sections)
