use Rattle.std.proofs.Common.{◌≡◌, ◌+◌, drop, length, map}
use Rattle.cl_outside.specs.Writing.{joined}
use Rattle.cl_raster.proofs.joining.fits.Given as goal

abbrev pub invariant-loop-piece : goal.invariant-loop-piece
invariant-loop-piece l =
    length (joined (map (λ p. p.now) (drop l.piece-index l.pieces))) + l.room ≡ length (joined (map (λ p. p.now) l.pieces)) + l.left
