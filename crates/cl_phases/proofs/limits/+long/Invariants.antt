use Rattle.std.proofs.Common.{◌≡◌, ◌+◌, ◌*◌, drop, map}
use Rattle.cl_forms.specs.Datum.{weight, weights, datums_of}
use Rattle.cl_forms.specs.DatumView.{datum_of}
use Rattle.cl_phases.specs.Earlier.{earlier}
use Rattle.cl_phases.specs.Limits.{long_among}
use Rattle.cl_phases.proofs.limits.+long.Given as goal

abbrev pub decreases-long_in : goal.decreases-long_in
decreases-long_in l = 2 * weight (datum_of l.datum.now)

abbrev pub decreases-long_among : goal.decreases-long_among
decreases-long_among l = 2 * weights (datums_of (map datum_of l.parts.now)) + 1

abbrev pub invariant-long_among-loop-part : goal.invariant-long_among-loop-part
invariant-long_among-loop-part l = earlier l.first (long_among (datums_of (map datum_of (drop l.part-index l.parts)))) ≡ long_among (datums_of (map datum_of l.parts))
