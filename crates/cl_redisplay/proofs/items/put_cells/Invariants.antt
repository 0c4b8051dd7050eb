use Rattle.cl_redisplay.specs.Parts.{PaintsPart, row_cell}
use Rattle.cl_redisplay.proofs.items.put_cells.Given as goal

abbrev pub invariant-loop-column : goal.invariant-loop-column
invariant-loop-column l =
    PaintsPart row_cell l.initial.raster l.raster l.line (record { x = l.line.x; y = l.line.y; width = l.column; height = l.line.height }) l.cells
