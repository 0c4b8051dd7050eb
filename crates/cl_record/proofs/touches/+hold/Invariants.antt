use Rattle.std.proofs.Common.{◌+◌, ◌*◌, drop}
use Rattle.cl_record.specs.Seen.{forest_of, tree_of}
use Rattle.cl_record.specs.Trees.{size_of, size_of_all, trees_of}
use Rattle.cl_record.proofs.TouchSteps.{HoldsOn}
use Rattle.cl_record.proofs.touches.+hold.Given as goal

abbrev pub invariant-row_holds-loop-node : goal.invariant-row_holds-loop-node
invariant-row_holds-loop-node g l =
    HoldsOn g.L.Leaf.bounds l.spot.x l.spot.y g.L.Leaf.moved_by l.at (trees_of l.inside) (forest_of (drop l.node-index l.node-items))

abbrev pub decreases-node_holds : goal.decreases-node_holds
decreases-node_holds g l = 2 * size_of (tree_of l.node.now)

abbrev pub decreases-row_holds : goal.decreases-row_holds
decreases-row_holds g l = 2 * size_of_all (trees_of l.inside.now) + 1
