use Rattle.std.proofs.Common.{◌≡◌, ◌≤◌}
use Rattle.cl_frame.specs.Ground.{ground_of}
use Rattle.cl_session.specs.Session.{world_of}
use Rattle.cl_terminal.specs.Live.{IsReady}
use Rattle.cl_terminal.specs.Serving.{Turned, standing}
use Rattle.cl_terminal.proofs.seats.Seat.serve.Given as goal

abbrev pub invariant-loop-read : goal.invariant-loop-read
invariant-loop-read g l = record {
  turned : Turned (ground_of g.T.Types.holds g.T.Types.presents g.T.Types.reads g.T.Types.hierarchy l.program) l._read
      (standing l.initial.self.decoder (world_of l.initial.self.session l.initial.self.slots)) (standing l.self.decoder (world_of l.self.session l.self.slots))
      (g.G.Source.left l.initial.keys) (g.G.Source.left l.keys);
  ready : IsReady (ground_of g.T.Types.holds g.T.Types.presents g.T.Types.reads g.T.Types.hierarchy l.program) l.self.slots l.self.session l.device;
  lent : g.G.Source.lent l.keys ≡ g.G.Source.lent l.initial.keys;
  later : g.G.Source.faults l.initial.keys ≤ g.G.Source.faults l.keys;
  device_later : l.initial.device.faults ≤ l.device.faults;
  steps_later : l.initial.steps ≤ l.steps;
}
