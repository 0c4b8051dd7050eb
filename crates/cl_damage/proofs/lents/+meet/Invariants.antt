use Rattle.std.proofs.Common.{◌+◌, ◌*◌, drop}
use Rattle.cl_record.specs.Seen.{forest_of, tree_of}
use Rattle.cl_record.specs.Trees.{size_of, size_of_all, trees_of}
use Rattle.cl_damage.proofs.MeetLemmas.{MeetsOn}
use Rattle.cl_damage.proofs.lents.+meet.Given as goal

abbrev pub invariant-meet_row-loop-node : goal.invariant-meet_row-loop-node
invariant-meet_row-loop-node g l =
    MeetsOn g.L.Leaf.bounds g.L.Leaf.moved_by l.at l.keeps l.initial.met.items l.met.items l.initial.next l.next (trees_of l.row)
    (forest_of (drop l.node-index l.node-items))

abbrev pub decreases-meet_node : goal.decreases-meet_node
decreases-meet_node g l = 2 * size_of (tree_of l.node.now)

abbrev pub decreases-meet_row : goal.decreases-meet_row
decreases-meet_row g l = 2 * size_of_all (trees_of l.row.now) + 1
