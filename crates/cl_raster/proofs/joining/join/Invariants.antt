use Rattle.std.proofs.Common.{◌≡◌, ◌+◌, ◌++◌, drop, length, map, take}
use Rattle.cl_outside.specs.Writing.{joined}
use Rattle.cl_raster.proofs.joining.join.Given as goal

abbrev pub invariant-loop-piece : goal.invariant-loop-piece
invariant-loop-piece l = record {
  end : l.at + length (joined (map (λ p. p.now) (drop l.piece-index l.pieces))) ≡ length (joined (map (λ p. p.now) l.pieces));
  front : take l.at l.buffer ++ joined (map (λ p. p.now) (drop l.piece-index l.pieces)) ≡ joined (map (λ p. p.now) l.pieces);
}
