use Rattle.std.proofs.Common.{◌≡◌, ◌≤◌, true}
use Rattle.cl_frame.specs.Ground.{ground_of}
use Rattle.cl_frame.specs.Sending.{wire_of}
use Rattle.cl_gesture.specs.declared.answers.Stop.TheVariants as stop
use Rattle.cl_gesture.specs.Reader.{count_of, progress_of, source_of, stop_of}
use Rattle.cl_redisplay.specs.Screens.{Agree}
use Rattle.cl_session.specs.Session.{Fits, world_of}
use Rattle.cl_session.specs.Serving.{GoesOn, stand}
use Rattle.cl_session.specs.Transcript.{meters}
use Rattle.cl_session.specs.Turns.{IsSame}
use Rattle.cl_session.proofs.StoppedLemmas.{Untouched}
use Rattle.cl_session.proofs.sessions.Session.serve.Given as goal

abbrev pub invariant-turns : goal.invariant-turns
invariant-turns g l = record {
  going : stop_of l.initial.gestures ≡ stop.Going → GoesOn (ground_of g.T.Types.holds g.T.Types.presents g.T.Types.reads g.T.Types.hierarchy l.program)
      (stand (world_of l.initial.self l.initial.slots) (meters l.initial.steps (wire_of (g.D.Device.wire l.initial.device) (g.D.Device.faults l.initial.device) (g.D.Device.lent l.initial.device).told) l.initial.self.totals)
      (progress_of g.G.Source.left g.G.Source.faults l.initial.gestures) (g.O.Sink.taken l.initial.out) (g.O.Sink.faults l.initial.out))
      (stand (world_of l.self l.slots) (meters l.steps (wire_of (g.D.Device.wire l.device) (g.D.Device.faults l.device) (g.D.Device.lent l.device).told) l.self.totals)
      (progress_of g.G.Source.left g.G.Source.faults l.gestures) (g.O.Sink.taken l.out) (g.O.Sink.faults l.out));
  untouched : Untouched (stop_of l.initial.gestures)
      (IsSame l.initial.gestures l.gestures l.initial.out l.out l.initial.device l.device l.initial.steps l.steps l.initial.self.totals l.self.totals (world_of l.initial.self l.initial.slots) (world_of l.self l.slots));
  counts : l._turn ≤ count_of l.gestures;
  lent : g.G.Source.lent (source_of l.gestures) ≡ g.G.Source.lent (source_of l.initial.gestures);
  out_lent : g.O.Sink.lent l.out ≡ g.O.Sink.lent l.initial.out;
  device_lent : g.D.Device.lent l.device ≡ g.D.Device.lent l.initial.device;
  later : g.G.Source.faults (source_of l.initial.gestures) ≤ g.G.Source.faults (source_of l.gestures);
  out_later : g.O.Sink.faults l.initial.out ≤ g.O.Sink.faults l.out;
  device_later : g.D.Device.faults l.initial.device ≤ g.D.Device.faults l.device;
  steps_later : l.initial.steps ≤ l.steps;
  fits : Fits (ground_of g.T.Types.holds g.T.Types.presents g.T.Types.reads g.T.Types.hierarchy l.program) l.slots l.self;
  agree : Agree l.self.frame.screen.stale l.self.frame.screen.raster (g.D.Device.broken l.device) (g.D.Device.cleared l.device) (g.D.Device.picture l.device);
  breaks : l.self.frame.screen.stale ≡ true → g.D.Device.broken l.device ≡ true;
}
