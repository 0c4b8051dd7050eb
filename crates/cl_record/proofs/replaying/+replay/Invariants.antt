use Rattle.std.proofs.Common.{◌+◌, ◌*◌, drop}
use Rattle.cl_record.specs.Seen.{forest_of, tree_of}
use Rattle.cl_record.specs.Trees.{size_of, size_of_all, trees_of}
use Rattle.cl_record.proofs.Walks.{GoesOn}
use Rattle.cl_record.proofs.replaying.+replay.Given as goal

abbrev pub invariant-replay_inside-loop-node : goal.invariant-replay_inside-loop-node
invariant-replay_inside-loop-node g l =
    GoesOn g.C.Canvas.shows g.C.Canvas.cell g.C.Canvas.keeps g.L.Leaf.cell g.L.Leaf.bounds g.L.Leaf.moved_by l.rects l.at l.initial.canvas l.canvas
    (trees_of l.inside) (forest_of (drop l.node-index l.node-items))

abbrev pub decreases-replay_node : goal.decreases-replay_node
decreases-replay_node g l = 2 * size_of (tree_of l.node.now)

abbrev pub decreases-replay_inside : goal.decreases-replay_inside
decreases-replay_inside g l = 2 * size_of_all (trees_of l.inside.now) + 1
