use Rattle.std.proofs.Common.{ℕ, List, [], arith}
use denote.Bor.{Bor}
use Rattle.cl_raster.proofs.Joins.{joined-copied, length-joined-next}
use Rattle.cl_raster.proofs.joining.join.Goals as goal

pub loop-piece-preserved : goal.loop-piece-preserved
loop-piece-preserved c =
    let next = length-joined-next (λ (p : Bor (List ℕ)). p.now) c.args.pieces.now record { ref_ptr = (0, 0); now = [] } c.loop-piece.piece-index
    c.loop-piece-test.true in
    record {
      end = omega (arith, next, c.loop-piece.invariant.end);
      front = joined-copied (λ (p : Bor (List ℕ)). p.now) c.args.pieces.now _ c.loop-piece.piece-index c.loop-piece.at _
          c.loop-piece.buffer c.copy_from_slice.new.self _ c.loop-piece-test.true
          (omega (arith, c.requires.room, c.loop-piece.invariant.end, c.loop-piece.auto.buffer))
          c.copy_from_slice.ensures.after c.loop-piece.invariant.front;
    }
