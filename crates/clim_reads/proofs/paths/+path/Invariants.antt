use Rattle.std.proofs.Common.{◌+◌, ◌*◌, map}
use Rattle.cl_forms.specs.Datum.{weight, weights, datums_of}
use Rattle.cl_forms.specs.DatumView.{datum_of}
use Rattle.clim_reads.proofs.paths.+path.Given as goal

abbrev pub decreases-path_in : goal.decreases-path_in
decreases-path_in l = 2 * weight (datum_of l.datum.now)

abbrev pub decreases-path_listed : goal.decreases-path_listed
decreases-path_listed l = 2 * weights (datums_of (map datum_of l.parts.now)) + 1
