use Rattle.std.proofs.Common.{◌≡◌, ◌≤◌, length, take}
use Rattle.cl_index.specs.Found.{is_at}
use Rattle.cl_index.specs.Boxes.{before}
use Rattle.cl_index.proofs.trees.last_of.Given as goal

abbrev pub invariant-loop-left : goal.invariant-loop-left
invariant-loop-left l = record {
  inside : l.left ≤ length l.rects;
  same : before l.end (is_at l.x l.y) l.base (take l.left l.rects) ≡ before l.end (is_at l.x l.y) l.base l.rects;
}

abbrev pub decreases-loop-left : goal.decreases-loop-left
decreases-loop-left l = l.left
