-- What a node is as a tree.
use Rattle.std.specs.Prelude.{List, map}
use Rattle.cl_record.specs.Trees.{Tree, Trees, leaf, update, presentation, trees_of}
use Rattle.cl_record.specs.declared.nodes.Node.{Node}
use Rattle.cl_record.specs.declared.nodes.Node.TheVariants as node

module _ {A : Type 0} where
  -- the tree of a node
  abbrev pub tree_of : Node A → Tree A
  tree_of (node.Leaf a) = leaf a
  tree_of (node.Presentation s) = presentation s.label s.place (trees_of s.inside)
  tree_of (node.Update p) = update p.head p.place (trees_of p.inside)

  -- nodes in a row
  abbrev pub forest_of : List (Node A) → Trees A
  forest_of ns = trees_of (map tree_of ns)
