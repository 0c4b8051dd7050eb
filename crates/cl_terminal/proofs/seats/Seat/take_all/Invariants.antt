use Rattle.std.proofs.Common.{◌≤◌, take}
use Rattle.cl_frame.specs.Ground.{ground_of}
use Rattle.cl_session.specs.Session.{world_of}
use Rattle.cl_terminal.specs.Live.{GoesOn, IsReady}
use Rattle.cl_terminal.proofs.seats.Seat.take_all.Given as goal

abbrev pub invariant-loop-byte : goal.invariant-loop-byte
invariant-loop-byte g l = record {
  goes : GoesOn (ground_of g.T.Types.holds g.T.Types.presents g.T.Types.reads g.T.Types.hierarchy l.program) l.initial.self.decoder (world_of l.initial.self.session l.initial.self.slots)
      l.self.decoder (world_of l.self.session l.self.slots) (take l.byte-index l.bytes);
  ready : IsReady (ground_of g.T.Types.holds g.T.Types.presents g.T.Types.reads g.T.Types.hierarchy l.program) l.self.slots l.self.session l.device;
  later : l.initial.device.faults ≤ l.device.faults;
  steps_later : l.initial.steps ≤ l.steps;
}
