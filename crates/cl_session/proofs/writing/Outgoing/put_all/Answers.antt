use Rattle.std.proofs.Common.{◌++◌, ◌+◌, ◌∙◌, arith, drop, map, List, ℕ}
use denote.Bor.{Bor}
use Rattle.cl_outside.specs.Writing.{joined}
use Rattle.cl_session.proofs.WritingLemmas.{Puts-piece, Wrote-piece}
use Rattle.cl_outside.proofs.WritingLemmas.{Wrote-trans}
use Rattle.cl_session.proofs.writing.Outgoing.put_all.Goals as goal

pub returns-then-not-put-clause-puts : goal.returns-then-not-put-clause-puts
returns-then-not-put-clause-puts g c =
    Puts-piece (λ (p : Bor (List ℕ)). p.now) (g.O.Sink.taken c.args.out.now) (g.O.Sink.taken c.loop-piece.out) (g.O.Sink.taken c.put.new.out)
    (c.args.self.now ++ joined (map (λ (p : Bor (List ℕ)). p.now) c.args.pieces.now)) c.args.pieces.now _ c.loop-piece.piece-index
    c.loop-piece.self c.put.new.self (g.O.Sink.faults c.args.out.now) (g.O.Sink.faults c.loop-piece.out) (g.O.Sink.faults c.put.new.out)
    c.loop-piece-test.true c.loop-piece.invariant.wrote c.loop-piece.invariant.later c.if-not-put.ensures.puts

pub loop-piece-preserved : goal.loop-piece-preserved
loop-piece-preserved g c = record {
  lent = c.if-not-put.ensures.lent ∙ c.loop-piece.invariant.lent;
  wrote = Wrote-trans (g.O.Sink.taken c.args.out.now) (g.O.Sink.taken c.loop-piece.out) (g.O.Sink.taken c.put.new.out)
      (c.args.self.now ++ joined (map (λ (p : Bor (List ℕ)). p.now) c.args.pieces.now))
      (c.loop-piece.self ++ joined (map (λ (p : Bor (List ℕ)). p.now) (drop c.loop-piece.piece-index c.args.pieces.now)))
      (c.put.new.self ++ joined (map (λ (p : Bor (List ℕ)). p.now) (drop (c.loop-piece.piece-index + 1) c.args.pieces.now)))
      c.loop-piece.invariant.wrote
      (Wrote-piece (λ (p : Bor (List ℕ)). p.now) (g.O.Sink.taken c.loop-piece.out) (g.O.Sink.taken c.put.new.out) c.args.pieces.now _
      c.loop-piece.piece-index c.loop-piece.self c.put.new.self c.loop-piece-test.true c.if-not-put.ensures.puts);
  later = omega (arith, c.loop-piece.invariant.later, c.if-not-put.ensures.later);
}
