use Rattle.std.proofs.Common.{◌≡◌, ◌≤◌, ◌+◌, ◌*◌, ◌++◌, drop}
use Rattle.cl_record.specs.Seen.{forest_of, tree_of}
use Rattle.cl_record.specs.TreeLines.{row_lines}
use Rattle.cl_record.specs.Ranges.{ArePlaced}
use Rattle.cl_record.specs.Trees.{size_of, size_of_all, trees_of}
use Rattle.cl_record.proofs.printing.+print.Given as goal

abbrev pub invariant-print_inside-loop-node : goal.invariant-print_inside-loop-node
invariant-print_inside-loop-node g l = record {
  placed : ArePlaced g.L.Leaf.bounds g.L.Leaf.moved_by l.at (forest_of (drop l.node-index l.node-items));
  fewer : size_of_all (forest_of (drop l.node-index l.node-items)) ≤ size_of_all (trees_of l.inside);
  whole : l.out.items ++ row_lines g.L.Printable.line_of g.L.Leaf.moved_by l.margin l.at (forest_of (drop l.node-index l.node-items)) ≡ l.initial.out.items ++ row_lines g.L.Printable.line_of g.L.Leaf.moved_by l.margin l.at (trees_of l.inside);
}

abbrev pub decreases-print_node : goal.decreases-print_node
decreases-print_node g l = 2 * size_of (tree_of l.node.now)

abbrev pub decreases-print_inside : goal.decreases-print_inside
decreases-print_inside g l = 2 * size_of_all (trees_of l.inside.now) + 1
