use Rattle.cl_frame.proofs.ShownPanes.{shown_put}
use Rattle.cl_frame.proofs.frames.Frame.put.Goals as goal

pub returns-clause-shown : goal.returns-clause-shown
returns-clause-shown g c =
    rw c.show.ensures.panes
    (shown_put c.args.self.now.panes.items c.args.place c.requires.replaces.before c.args.shown.pane c.requires.replaces.stands c.requires.replaces.area
    c.args.self.now.screen.raster c.show.new.self.screen.raster c.requires.replaces.counted c.requires.shown c.show.ensures.repaints)
