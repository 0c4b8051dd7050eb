use Rattle.std.proofs.Common.{arith}
use Rattle.cl_raster.proofs.Boxes.{box_more}
use Rattle.cl_raster.proofs.filling.fill_box.Goals as goal

pub loop-y-preserved : goal.loop-y-preserved
loop-y-preserved c = record {
  filled = box_more _ c.loop-y.cells.items c.fill.new.cells.items c.args.width c.args.x1 c.args.x2 c.args.y1 c.loop-y.y c.args.value (omega arith) c.requires.columns (omega arith) c.loop-y.invariant.filled c.fill.ensures.cells;
  rows = rw c.fill.ensures.len c.loop-y.invariant.rows;
}
