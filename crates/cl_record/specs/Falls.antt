-- What a node holds is smaller than the node, by which a recursion over nodes ends.
use Rattle.std.specs.Prelude.{◌≤◌, List, [], ◌∷◌}
use Rattle.std.proofs.Common.{arith}
use Rattle.cl_medium.specs.declared.leaves.Leaf.{Ghosts}
use Rattle.cl_record.specs.Seen.{forest_of, tree_of}
use Rattle.cl_record.specs.Trees.{size_of, size_of_all}
use Rattle.cl_record.specs.declared.nodes.Node.{Node}
use Rattle.cl_record.specs.declared.nodes.Node.TheVariants as node
use Rattle.cl_record.specs.declared.branches.Piece.TheDeep.{deep-Node}
use denote.Param.Weighed.{most}

module _ {A : Type 0} (g : Ghosts A) where
  -- a record is no deeper than its tree is large
  pub deep-size : (n : Node A) → deep-Node A g n ≤ size_of (tree_of n)
  deep-size (node.Leaf a) = omega arith
  deep-size (node.Presentation s) = omega arith
  deep-size (node.Update p) = omega arith

  -- no record of a row is deeper than the row's trees are large
  pub most-size : (ns : List (Node A)) → most (deep-Node A g) ns ≤ size_of_all (forest_of ns)
  most-size [] = omega arith
  most-size (n ∷ ns) = omega (arith, deep-size n, most-size ns)
