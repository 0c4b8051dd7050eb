use Rattle.std.proofs.Common.{◌+◌, ◌*◌, length}
use Rattle.cl_record.specs.Seen.{tree_of}
use Rattle.cl_record.specs.Trees.{size_of, size_of_all, trees_of}
use Rattle.cl_record.proofs.TouchSteps.{SeeksOn}
use Rattle.cl_record.proofs.touches.+seek.Given as goal

abbrev pub invariant-seek_row-loop-last : goal.invariant-seek_row-loop-last
invariant-seek_row-loop-last g l =
    SeeksOn g.L.Leaf.bounds l.spot.x l.spot.y g.L.Leaf.moved_by l.at l.k l.left (trees_of l.inside) l.row

abbrev pub decreases-seek_row-loop-last : goal.decreases-seek_row-loop-last
decreases-seek_row-loop-last g l = length l.row

abbrev pub decreases-seek_node : goal.decreases-seek_node
decreases-seek_node g l = 2 * size_of (tree_of l.node.now)

abbrev pub decreases-seek_row : goal.decreases-seek_row
decreases-seek_row g l = 2 * size_of_all (trees_of l.inside.now) + 1
