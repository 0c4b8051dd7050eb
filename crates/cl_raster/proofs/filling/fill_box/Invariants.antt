use Rattle.std.proofs.Common.{◌*◌, ◌≤◌, vec_len}
use Rattle.cl_raster.specs.Raster.{FillsBox}
use Rattle.cl_raster.proofs.filling.fill_box.Given as goal

abbrev pub invariant-loop-y : goal.invariant-loop-y
invariant-loop-y l = record {
  filled : FillsBox l.initial.cells.items l.cells.items l.width l.x1 l.x2 l.y1 l.y l.value;
  rows : l.y2 * l.width ≤ vec_len l.cells;
}
