use Rattle.std.proofs.Common.{◌≡◌, ◌≤◌, ◌-◌, length, drop}
use Rattle.cl_outside.specs.Writing.{Wrote}
use Rattle.cl_outside.proofs.writing.write_all.Given as goal

abbrev pub invariant-loop-at : goal.invariant-loop-at
invariant-loop-at g l = record {
  lent : g.O.Sink.lent l.out ≡ g.O.Sink.lent l.initial.out;
  wrote : Wrote (g.O.Sink.taken l.initial.out) (g.O.Sink.taken l.out) l.bytes (drop l.at l.bytes);
  within : l.at ≤ length l.bytes;
  later : g.O.Sink.faults l.initial.out ≤ g.O.Sink.faults l.out;
}

abbrev pub decreases-loop-at : goal.decreases-loop-at
decreases-loop-at g l = length l.initial.bytes - l.at
