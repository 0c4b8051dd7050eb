use Rattle.cl_raster.specs.Playback.{cells_of}
use Rattle.cl_raster.proofs.Progress.{PaintsFirst}
use Rattle.cl_raster.proofs.playing.paint_row.Given as goal

abbrev pub invariant-loop-at : goal.invariant-loop-at
invariant-loop-at l = PaintsFirst (cells_of l.initial.raster) (cells_of l.raster) l.x l.y l.ink l.glyphs l.at
