use Rattle.std.proofs.Common.{ap}
use Rattle.cl_redisplay.specs.Screens.{Screen}
use Rattle.cl_frame.proofs.OpenedPanes.{shown_blank}
use Rattle.cl_frame.proofs.frames.Frame.open.Goals as goal

pub returns-clause-frame : goal.returns-clause-frame
returns-clause-frame c = record {
  width = ap (λ (s : Screen). s.raster.width) c.in_ok-screen.ensures;
  height = ap (λ (s : Screen). s.raster.height) c.in_ok-screen.ensures;
  areas = c.in_ok-panes.ensures.areas;
  shown = shown_blank c.args.app.now c.in_ok-panes.panes.items c.in_ok-screen.screen.raster c.requires (ap (λ (s : Screen). s.raster) c.in_ok-screen.ensures)
      c.in_ok-panes.ensures.areas c.in_ok-panes.ensures.blank;
}
