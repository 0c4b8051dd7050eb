use Rattle.std.proofs.Common.{arith}
use Rattle.cl_raster.specs.Playback.{cells_of}
use Rattle.cl_raster.proofs.Replays.{paints_cut}
use Rattle.cl_raster.proofs.playing.paint.Goals as goal

pub returns : goal.returns
returns c =
    paints_cut (cells_of c.args.raster.now) (cells_of c.paint_row.new.raster) c.args.x c.args.y c.args.ink c.args.glyphs.now c.min-count.result
    (omega arith) (omega arith) c.paint_row.ensures
