use Rattle.std.proofs.Common.{◌≡◌, ◌≤◌, ◌++◌, drop, map}
use Rattle.cl_session.specs.Transcript.{ended_line}
use Rattle.cl_outside.specs.Writing.{Wrote, joined}
use Rattle.cl_session.proofs.speaking.put_lines.Given as goal

abbrev pub invariant-loop-line : goal.invariant-loop-line
invariant-loop-line g l = record {
  lent : g.O.Sink.lent l.out ≡ g.O.Sink.lent l.initial.out;
  wrote : Wrote (g.O.Sink.taken l.initial.out) (g.O.Sink.taken l.out)
      (l.initial.outgoing ++ joined (map ended_line l.lines)) (l.outgoing ++ joined (map ended_line (drop l.line-index l.lines)));
  later : g.O.Sink.faults l.initial.out ≤ g.O.Sink.faults l.out;
}
