-- A display form's parts have fewer forms than it has, by which a recursion over display forms ends.
use Rattle.std.specs.Prelude.{◌≤◌, ◌+◌, List, [], ◌∷◌}
use Rattle.std.proofs.Common.{arith}
use Rattle.cl_syntax.specs.ShapeTree.{ShapeTree, shape_trees_of, nodes, nodes_all}
use Rattle.cl_syntax.specs.Shape.{shape_tree_of}
use Rattle.cl_syntax.specs.declared.display_forms.ShapeKind.{ShapeKind}
use Rattle.cl_syntax.specs.declared.display_forms.ShapeKind.TheVariants as kind
use Rattle.cl_syntax.specs.declared.display_forms.Shape.TheDeep.{deep-ShapeKind}
use denote.Param.Weighed.{most}

-- no display form of a row is larger than the row
pub most-nodes : (fs : List ShapeTree) → most (λ f. nodes f + 1) fs ≤ nodes_all (shape_trees_of fs)
most-nodes [] = omega arith
most-nodes (f ∷ fs) = omega (arith, most-nodes fs)

-- a display form is no deeper than its tree is large
pub kind-nodes : (k : ShapeKind) → deep-ShapeKind k ≤ nodes (shape_tree_of k)
kind-nodes (kind.WriteText t) = omega arith
kind-nodes kind.Newline = omega arith
kind-nodes (kind.Draw figure ts) = omega arith
kind-nodes (kind.Indent t fs) = omega arith
kind-nodes (kind.Ink t fs) = omega arith
kind-nodes (kind.Room fs) = omega arith
kind-nodes (kind.Present t spec) = omega arith
kind-nodes (kind.AsPresentation p fs) = omega arith
kind-nodes (kind.Update u fs) = omega arith
kind-nodes (kind.If c) = omega arith
kind-nodes (kind.When t fs) = omega arith
kind-nodes (kind.Let bs fs) = omega arith
kind-nodes (kind.Dolist x t fs) = omega arith
kind-nodes (kind.Progn fs) = omega arith
kind-nodes (kind.Call d ts) = omega arith
