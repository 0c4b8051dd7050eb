use Rattle.std.proofs.Common.{◌≡◌, drop, map}
use Rattle.cl_forms.specs.DatumView.{datum_of}
use Rattle.cl_phases.specs.Earlier.{earlier}
use Rattle.cl_phases.specs.Limits.{past_declarations}
use Rattle.cl_phases.proofs.limits.past_declarations.Given as goal

abbrev pub invariant-loop-form : goal.invariant-loop-form
invariant-loop-form l = earlier l.first (past_declarations (map datum_of (drop l.form-index l.forms))) ≡ past_declarations (map datum_of l.forms)
