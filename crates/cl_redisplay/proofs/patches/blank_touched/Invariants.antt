use Rattle.cl_spans.specs.SpanRows.{spans_hold}
use Rattle.cl_redisplay.specs.Patches.{blank_everywhere}
use Rattle.cl_redisplay.proofs.PatchLemmas.{RowsPainted}
use Rattle.cl_redisplay.proofs.patches.blank_touched.Given as goal

abbrev pub invariant-loop-row : goal.invariant-loop-row
invariant-loop-row l = RowsPainted blank_everywhere l.initial.raster l.raster l.area (spans_hold l.touched) 0 l.row tt
