use Rattle.std.proofs.Common.{drop}
use Rattle.cl_redisplay.proofs.PatchLemmas.{GoesAlong}
use Rattle.cl_redisplay.proofs.patches.paint_row.Given as goal

abbrev pub invariant-loop-span : goal.invariant-loop-span
invariant-loop-span g l = GoesAlong g.L.Leaf.cell l.initial.raster l.raster l.area (g.L.Leaf.moved_by l.at l.item) l.row l.spans (drop l.span-index l.spans)
