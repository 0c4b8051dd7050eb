use Rattle.std.proofs.Common.{map}
use Rattle.cl_frame.specs.Panes.{shown_of_pane}
use Rattle.cl_redisplay.proofs.ShownRows.{row-shown_row}
use Rattle.cl_frame.proofs.frames.Frame.row.Goals as goal

pub returns : goal.returns
returns c =
    row-shown_row (map shown_of_pane c.args.self.now.panes.items) c.args.self.now.screen.raster c.args.y c.row.result.now c.requires.shown.shows c.requires.row
    (rw c.raster.ensures at c.row.ensures.cells) (rw c.raster.ensures at c.row.ensures.count)
