use Rattle.std.proofs.Common.{◌+◌, ◌*◌, map}
use Rattle.cl_forms.specs.Datum.{weight, weights, datums_of}
use Rattle.cl_forms.specs.DatumView.{datum_of}
use Rattle.cl_questions.proofs.values.+value.Given as goal

abbrev pub decreases-value_in : goal.decreases-value_in
decreases-value_in l = 4 * weight (datum_of l.datum.now)

abbrev pub decreases-made_value : goal.decreases-made_value
decreases-made_value l = 4 * weights (datums_of (map datum_of l.parts.now)) + 3

abbrev pub decreases-made_record : goal.decreases-made_record
decreases-made_record l = 4 * weights (datums_of (map datum_of l.parts.now)) + 2

abbrev pub decreases-values_in : goal.decreases-values_in
decreases-values_in l = 4 * weights (datums_of (map datum_of l.parts.now)) + 1
