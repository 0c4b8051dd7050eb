use Rattle.std.proofs.Common.{◌+◌, ◌*◌, drop}
use Rattle.cl_record.specs.Seen.{forest_of, tree_of}
use Rattle.cl_record.specs.Trees.{size_of, size_of_all, trees_of}
use Rattle.cl_damage.proofs.GiveLemmas.{GivesOn}
use Rattle.cl_damage.proofs.giving.+give.Given as goal

abbrev pub invariant-give_row-loop-node : goal.invariant-give_row-loop-node
invariant-give_row-loop-node g l =
    GivesOn g.L.Leaf.bounds g.L.Leaf.moved_by l.at l.initial.rects.items l.rects.items (trees_of l.row) (forest_of (drop l.node-index l.node-items))

abbrev pub decreases-give_node : goal.decreases-give_node
decreases-give_node g l = 2 * size_of (tree_of l.node.now)

abbrev pub decreases-give_row : goal.decreases-give_row
decreases-give_row g l = 2 * size_of_all (trees_of l.row.now) + 1
