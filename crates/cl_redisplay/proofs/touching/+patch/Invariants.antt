use Rattle.std.proofs.Common.{◌+◌, ◌*◌, drop}
use Rattle.cl_record.specs.Seen.{forest_of, tree_of}
use Rattle.cl_record.specs.Trees.{size_of, size_of_all, trees_of}
use Rattle.cl_spans.specs.SpanRows.{spans_hold}
use Rattle.cl_redisplay.proofs.PatchWalks.{GoesOn}
use Rattle.cl_redisplay.proofs.touching.+patch.Given as goal

abbrev pub invariant-patch_inside-loop-node : goal.invariant-patch_inside-loop-node
invariant-patch_inside-loop-node g l =
    GoesOn g.L.Leaf.cell g.L.Leaf.bounds g.L.Leaf.moved_by l.area (spans_hold l.touched) l.at l.initial.raster l.raster
    (trees_of l.inside) (forest_of (drop l.node-index l.node-items))

abbrev pub decreases-patch_node : goal.decreases-patch_node
decreases-patch_node g l = 2 * size_of (tree_of l.node.now)

abbrev pub decreases-patch_inside : goal.decreases-patch_inside
decreases-patch_inside g l = 2 * size_of_all (trees_of l.inside.now) + 1
