use Rattle.std.proofs.Common.{◌+◌, ◌*◌, length, map}
use Rattle.cl_record.specs.Seen.{tree_of}
use Rattle.cl_record.specs.TouchWalks.{touch_of}
use Rattle.cl_record.specs.Trees.{size_of, size_of_all, trees_of}
use Rattle.cl_record.proofs.Gathered.{GathersOn}
use Rattle.cl_record.proofs.gathering.+gather.Given as goal

abbrev pub invariant-gather_row-loop-last : goal.invariant-gather_row-loop-last
invariant-gather_row-loop-last g l =
    GathersOn g.L.Leaf.bounds l.spot.x l.spot.y g.L.Leaf.moved_by l.at (map touch_of l.initial.gathered.items) (map touch_of l.gathered.items) (trees_of l.inside) l.row

abbrev pub decreases-gather_row-loop-last : goal.decreases-gather_row-loop-last
decreases-gather_row-loop-last g l = length l.row

abbrev pub decreases-gather_node : goal.decreases-gather_node
decreases-gather_node g l = 2 * size_of (tree_of l.node.now)

abbrev pub decreases-gather_row : goal.decreases-gather_row
decreases-gather_row g l = 2 * size_of_all (trees_of l.inside.now) + 1
