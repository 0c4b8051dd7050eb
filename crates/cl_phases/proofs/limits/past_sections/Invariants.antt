use Rattle.std.proofs.Common.{◌≡◌, drop, map}
use Rattle.cl_forms.specs.DatumView.{datum_of}
use Rattle.cl_phases.specs.Earlier.{earlier}
use Rattle.cl_phases.specs.Limits.{past_sections}
use Rattle.cl_phases.proofs.limits.past_sections.Given as goal

abbrev pub invariant-loop-section : goal.invariant-loop-section
invariant-loop-section l = earlier l.first (past_sections (map datum_of (drop l.section-index l.sections))) ≡ past_sections (map datum_of l.sections)
