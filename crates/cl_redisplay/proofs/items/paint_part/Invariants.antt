use Rattle.cl_redisplay.specs.Parts.{PaintsPart}
use Rattle.cl_redisplay.proofs.items.paint_part.Given as goal

abbrev pub invariant-loop-row : goal.invariant-loop-row
invariant-loop-row g l =
    PaintsPart g.L.Leaf.cell l.initial.raster l.raster l.area (record { x = l.part.x; y = l.part.y; width = l.part.width; height = l.row }) (g.L.Leaf.moved_by l.at l.item)
