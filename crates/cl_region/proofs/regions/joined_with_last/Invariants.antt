use Rattle.std.proofs.Common.{◌≤◌, ◌∷◌, length, take}
use Rattle.cl_region.specs.Pieces.{ArePiecesOf}
use Rattle.cl_region.proofs.regions.joined_with_last.Given as goal

abbrev pub invariant-loop-kept : goal.invariant-loop-kept
invariant-loop-kept l = (l.kept ≤ length l.rects) × ArePiecesOf (l.fn.rect ∷ l.rects) (l.whole ∷ take l.kept l.rects)

abbrev pub decreases-loop-kept : goal.decreases-loop-kept
decreases-loop-kept l = l.kept
