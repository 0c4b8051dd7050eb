use Rattle.std.proofs.Common.{◌≡◌, ◌≤◌, ◌++◌, drop, map}
use Rattle.cl_outside.specs.Writing.{Wrote, joined}
use Rattle.cl_session.proofs.writing.Outgoing.put_all.Given as goal

abbrev pub invariant-loop-piece : goal.invariant-loop-piece
invariant-loop-piece g l = record {
  lent : g.O.Sink.lent l.out ≡ g.O.Sink.lent l.initial.out;
  wrote : Wrote (g.O.Sink.taken l.initial.out) (g.O.Sink.taken l.out)
      (l.initial.self ++ joined (map (λ p. p.now) l.pieces)) (l.self ++ joined (map (λ p. p.now) (drop l.piece-index l.pieces)));
  later : g.O.Sink.faults l.initial.out ≤ g.O.Sink.faults l.out;
}
