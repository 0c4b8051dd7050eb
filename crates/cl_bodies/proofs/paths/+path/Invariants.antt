use Rattle.std.proofs.Common.{◌+◌, ◌*◌, map}
use Rattle.cl_forms.specs.Datum.{weight, weights, datums_of}
use Rattle.cl_forms.specs.DatumView.{datum_of}
use Rattle.cl_bodies.proofs.paths.+path.Given as goal

abbrev pub decreases-parse_path : goal.decreases-parse_path
decreases-parse_path l = 8 * weight (datum_of l.datum.now)

abbrev pub decreases-parse_path_form : goal.decreases-parse_path_form
decreases-parse_path_form l = 8 * weights (datums_of (map datum_of l.parts.now)) + 7

abbrev pub decreases-parse_path_head : goal.decreases-parse_path_head
decreases-parse_path_head l = 8 * weights (datums_of (map datum_of l.parts.now)) + 6

abbrev pub decreases-parse_field : goal.decreases-parse_field
decreases-parse_field l = 8 * weights (datums_of (map datum_of l.parts.now)) + 5
