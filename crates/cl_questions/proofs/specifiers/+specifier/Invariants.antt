use Rattle.std.proofs.Common.{◌+◌, ◌*◌, map}
use Rattle.cl_forms.specs.Datum.{weight, weights, datums_of}
use Rattle.cl_forms.specs.DatumView.{datum_of}
use Rattle.cl_questions.proofs.specifiers.+specifier.Given as goal

abbrev pub decreases-specifier_in : goal.decreases-specifier_in
decreases-specifier_in l = 8 * weight (datum_of l.datum.now)

abbrev pub decreases-listed : goal.decreases-listed
decreases-listed l = 8 * weights (datums_of (map datum_of l.parts.now)) + 4

abbrev pub decreases-headed : goal.decreases-headed
decreases-headed l = 8 * weights (datums_of (map datum_of l.parts.now)) + 3

abbrev pub decreases-arguments_in : goal.decreases-arguments_in
decreases-arguments_in l = 8 * weights (datums_of (map datum_of l.parts.now)) + 2

abbrev pub decreases-argument_in : goal.decreases-argument_in
decreases-argument_in l = 8 * weight (datum_of l.part.now) + 1
