use Rattle.std.proofs.Common.{◌≡◌, ◌+◌, drop}
use Rattle.cl_index.specs.Found.{overlaps}
use Rattle.cl_index.specs.Boxes.{after}
use Rattle.cl_index.proofs.trees.first_of.Given as goal

abbrev pub invariant-loop-i : goal.invariant-loop-i
invariant-loop-i l = after l.from (overlaps l.rect) (l.base + l.i) (drop l.i l.rects) ≡ after l.from (overlaps l.rect) l.base l.rects
