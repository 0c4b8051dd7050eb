-- A statement's parts have fewer statements than it has, by which a recursion over statements ends.
use Rattle.std.specs.Prelude.{◌≤◌, ◌+◌, List, [], ◌∷◌}
use Rattle.std.proofs.Common.{arith}
use Rattle.cl_syntax.specs.ActTree.{ActTree, act_trees_of, nodes, nodes_all}
use Rattle.cl_syntax.specs.Act.{act_tree_of}
use Rattle.cl_syntax.specs.declared.statements.ActKind.{ActKind}
use Rattle.cl_syntax.specs.declared.statements.ActKind.TheVariants as kind
use Rattle.cl_syntax.specs.declared.statements.Act.TheDeep.{deep-ActKind}
use denote.Param.Weighed.{most}

-- no statement of a row is larger than the row
pub most-nodes : (ss : List ActTree) → most (λ s. nodes s + 1) ss ≤ nodes_all (act_trees_of ss)
most-nodes [] = omega arith
most-nodes (s ∷ ss) = omega (arith, most-nodes ss)

-- a statement is no deeper than its tree is large
pub kind-nodes : (k : ActKind) → deep-ActKind k ≤ nodes (act_tree_of k)
kind-nodes (kind.Setf x t) = omega arith
kind-nodes (kind.Reply t) = omega arith
kind-nodes (kind.Switch x on) = omega arith
kind-nodes (kind.OpenDialog x) = omega arith
kind-nodes (kind.If c) = omega arith
kind-nodes (kind.When t ss) = omega arith
kind-nodes (kind.Let bs ss) = omega arith
kind-nodes (kind.Dolist x t ss) = omega arith
kind-nodes (kind.Progn ss) = omega arith
