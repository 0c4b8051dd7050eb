use Rattle.std.proofs.Common.{◌≡◌, ◌≤◌, ◌++◌, List, ℕ, drop, take, true, false}
use Rattle.cl_application.specs.Panes.{panes_of}
use Rattle.cl_frame.specs.Frames.{ArePanesFaithful, GoesStale, IsFrameOf, SettlesPanes, is_stale_under}
use Rattle.cl_frame.specs.Ground.{ground_of, meanings_of}
use Rattle.cl_frame.specs.States.{state_of}
use Rattle.cl_frame.specs.Sending.{wire_of}
use Rattle.cl_frame.proofs.SentPanes.{SentSoFar}
use Rattle.cl_frame.specs.declared.panes.Pane.{Pane}
use Rattle.cl_redisplay.specs.Screens.{Agree}
use Rattle.cl_frame.proofs.frames.Frame.settle.Given as goal

abbrev pub invariant-panes : goal.invariant-panes
invariant-panes g l = record {
  frame : IsFrameOf l.program.app.now l.self;
  agree : Agree l.self.screen.stale l.self.screen.raster (g.D.Device.broken l.device) (g.D.Device.cleared l.device) (g.D.Device.picture l.device);
  faithful : ArePanesFaithful l.program.app.now (meanings_of g.T.Types.holds g.T.Types.presents l.program.types.now) l.self.panes.items;
  rest : drop l.place l.self.panes.items ≡ drop l.place l.initial.self.panes.items;
  goes_on : (ns : List Pane) (last : ℕ)
      → SettlesPanes (ground_of g.T.Types.holds g.T.Types.presents g.T.Types.reads g.T.Types.hierarchy l.program) l.which (state_of l.state) (drop l.place (panes_of l.program.app.now)) (drop l.place l.initial.self.panes.items) ns l.steps last
      → SettlesPanes (ground_of g.T.Types.holds g.T.Types.presents g.T.Types.reads g.T.Types.hierarchy l.program) l.which (state_of l.state) (panes_of l.program.app.now) l.initial.self.panes.items (take l.place l.self.panes.items ++ ns) l.initial.steps last;
  under : is_stale_under l.which l.self.screen.stale ≡ l.self.screen.stale;
  goes_stale : GoesStale l.initial.self.screen.stale l.self.screen.stale (g.D.Device.faults l.initial.device) (g.D.Device.faults l.device);
  idle : l.initial.self.screen.stale ≡ true → l.device ≡ l.initial.device;
  breaks : l.initial.self.screen.stale ≡ false → l.self.screen.stale ≡ true → g.D.Device.broken l.device ≡ true;
  sent : l.initial.self.screen.stale ≡ false
      → SentSoFar (ground_of g.T.Types.holds g.T.Types.presents g.T.Types.reads g.T.Types.hierarchy l.program) l.which (state_of l.state) (panes_of l.program.app.now) l.initial.self.panes.items l.self.panes.items l.place l.self.screen.stale
      (wire_of (g.D.Device.wire l.initial.device) (g.D.Device.faults l.initial.device) (g.D.Device.lent l.initial.device).told)
      (wire_of (g.D.Device.wire l.device) (g.D.Device.faults l.device) (g.D.Device.lent l.device).told);
  lent : g.D.Device.lent l.device ≡ g.D.Device.lent l.initial.device;
  later : l.initial.steps ≤ l.steps;
}
