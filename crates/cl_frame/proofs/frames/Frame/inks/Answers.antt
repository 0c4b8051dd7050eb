use Rattle.std.proofs.Common.{map}
use Rattle.cl_frame.specs.Panes.{shown_of_pane}
use Rattle.cl_redisplay.proofs.ShownRows.{row-shown_ink_row}
use Rattle.cl_frame.proofs.frames.Frame.inks.Goals as goal

pub returns-clause-digits : goal.returns-clause-digits
returns-clause-digits c =
    row-shown_ink_row (map shown_of_pane c.args.self.now.panes.items) c.args.self.now.screen.raster c.args.y c.inks.result.now c.requires.shown.shows c.requires.row
    (rw c.raster.ensures at c.inks.ensures.cells) (rw c.raster.ensures at c.inks.ensures.count)
