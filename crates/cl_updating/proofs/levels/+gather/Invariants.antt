use Rattle.std.proofs.Common.{◌+◌, ◌*◌, drop, map}
use Rattle.cl_record.specs.Seen.{forest_of, tree_of}
use Rattle.cl_record.specs.Trees.{size_of, size_of_all, trees_of}
use Rattle.cl_updating.specs.Gathers.{update_of}
use Rattle.cl_updating.proofs.GatherLemmas.{GathersOn}
use Rattle.cl_updating.proofs.levels.+gather.Given as goal

abbrev pub invariant-gather_row-loop-node : goal.invariant-gather_row-loop-node
invariant-gather_row-loop-node g l =
    GathersOn g.L.Leaf.bounds g.L.Leaf.moved_by l.at (map update_of l.initial.met.items) (map update_of l.met.items) (trees_of l.inside)
    (forest_of (drop l.node-index l.node-items))

abbrev pub decreases-gather_node : goal.decreases-gather_node
decreases-gather_node g l = 2 * size_of (tree_of l.node.now)

abbrev pub decreases-gather_row : goal.decreases-gather_row
decreases-gather_row g l = 2 * size_of_all (trees_of l.inside.now) + 1
