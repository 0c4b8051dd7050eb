use Rattle.cl_spans.specs.SpanRows.{spans_hold}
use Rattle.cl_redisplay.proofs.PatchLemmas.{RowsPainted}
use Rattle.cl_redisplay.proofs.patches.paint_there.Given as goal

abbrev pub invariant-loop-row : goal.invariant-loop-row
invariant-loop-row g l = RowsPainted g.L.Leaf.cell l.initial.raster l.raster l.area (spans_hold l.touched) l.top l.row (g.L.Leaf.moved_by l.at l.item)
