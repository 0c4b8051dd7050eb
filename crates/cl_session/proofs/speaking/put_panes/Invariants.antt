use Rattle.std.proofs.Common.{◌≡◌, ◌≤◌, ◌++◌, drop}
use Rattle.cl_application.specs.Panes.{panes_of}
use Rattle.cl_frame.specs.Frames.{reports_of_frame}
use Rattle.cl_outside.specs.Writing.{Wrote}
use Rattle.cl_session.specs.Step.{pane_lines}
use Rattle.cl_session.specs.Transcript.{line_bytes}
use Rattle.cl_session.proofs.speaking.put_panes.Given as goal

abbrev pub invariant-panes : goal.invariant-panes
invariant-panes g l = record {
  lent : g.O.Sink.lent l.out ≡ g.O.Sink.lent l.initial.out;
  wrote : Wrote (g.O.Sink.taken l.initial.out) (g.O.Sink.taken l.out)
      (l.initial.outgoing ++ line_bytes (pane_lines (panes_of l.app) (reports_of_frame l.frame)))
      (l.outgoing ++ line_bytes (pane_lines (drop l.place (panes_of l.app)) (drop l.place (reports_of_frame l.frame))));
  later : g.O.Sink.faults l.initial.out ≤ g.O.Sink.faults l.out;
}
