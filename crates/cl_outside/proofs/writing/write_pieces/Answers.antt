use Rattle.std.proofs.Common.{◌+◌, ◌∙◌, arith, drop, map, List, ℕ}
use denote.Bor.{Bor}
use Rattle.cl_outside.specs.Writing.{joined}
use Rattle.cl_outside.proofs.WritingLemmas.{Wrote-piece, Wrote-trans, CutShort-piece, CutShort-behind}
use Rattle.cl_outside.proofs.writing.write_pieces.Goals as goal

pub returns-then-not-write_all-clause-says : goal.returns-then-not-write_all-clause-says
returns-then-not-write_all-clause-says g c =
    CutShort-behind (g.O.Sink.taken c.args.out.now) (g.O.Sink.taken c.loop-piece.out) (g.O.Sink.taken c.write_all.new.out)
    (joined (map (λ (p : Bor (List ℕ)). p.now) c.args.pieces.now))
    (joined (map (λ (p : Bor (List ℕ)). p.now) (drop c.loop-piece.piece-index c.args.pieces.now)))
    (g.O.Sink.faults c.args.out.now) (g.O.Sink.faults c.loop-piece.out) (g.O.Sink.faults c.write_all.new.out)
    c.loop-piece.invariant.wrote c.loop-piece.invariant.later
    (CutShort-piece (λ (p : Bor (List ℕ)). p.now) (g.O.Sink.taken c.loop-piece.out) (g.O.Sink.taken c.write_all.new.out) c.args.pieces.now _
    c.loop-piece.piece-index (g.O.Sink.faults c.loop-piece.out) (g.O.Sink.faults c.write_all.new.out) c.loop-piece-test.true c.if-not-write_all.ensures.says)

pub loop-piece-preserved : goal.loop-piece-preserved
loop-piece-preserved g c = record {
  lent = c.if-not-write_all.ensures.lent ∙ c.loop-piece.invariant.lent;
  wrote = Wrote-trans (g.O.Sink.taken c.args.out.now) (g.O.Sink.taken c.loop-piece.out) (g.O.Sink.taken c.write_all.new.out)
      (joined (map (λ (p : Bor (List ℕ)). p.now) c.args.pieces.now))
      (joined (map (λ (p : Bor (List ℕ)). p.now) (drop c.loop-piece.piece-index c.args.pieces.now)))
      (joined (map (λ (p : Bor (List ℕ)). p.now) (drop (c.loop-piece.piece-index + 1) c.args.pieces.now)))
      c.loop-piece.invariant.wrote
      (Wrote-piece (λ (p : Bor (List ℕ)). p.now) (g.O.Sink.taken c.loop-piece.out) (g.O.Sink.taken c.write_all.new.out) c.args.pieces.now _
      c.loop-piece.piece-index c.loop-piece-test.true c.if-not-write_all.ensures.says);
  later = omega (arith, c.loop-piece.invariant.later, c.if-not-write_all.ensures.later);
}
