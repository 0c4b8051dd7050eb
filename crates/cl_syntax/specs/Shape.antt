-- The tree that a display form of the program stands for.
use Rattle.cl_syntax.specs.ShapeTree as shape
use Rattle.cl_syntax.specs.ShapeTree.{ShapeTree, shape_trees_of}
use Rattle.cl_syntax.specs.ExprTree.{expr_trees_of}
use Rattle.cl_syntax.specs.Expr.{bindings_of}
use Rattle.cl_syntax.specs.declared.display_forms.ShapeKind.{ShapeKind}
use Rattle.cl_syntax.specs.declared.display_forms.ShapeKind.TheVariants as kind

-- the tree of a display form
abbrev pub shape_tree_of : ShapeKind → ShapeTree
shape_tree_of (kind.WriteText t) = shape.WriteText t
shape_tree_of kind.Newline = shape.Newline
shape_tree_of (kind.Draw figure ts) = shape.Draw figure (expr_trees_of ts.items)
shape_tree_of (kind.Indent t fs) = shape.Indent t (shape_trees_of fs)
shape_tree_of (kind.Ink t fs) = shape.Ink t (shape_trees_of fs)
shape_tree_of (kind.Room fs) = shape.Room (shape_trees_of fs)
shape_tree_of (kind.Present t spec) = shape.Present t spec.value
shape_tree_of (kind.AsPresentation p fs) = shape.AsPresentation p (shape_trees_of fs)
shape_tree_of (kind.Update u fs) = shape.Update u (shape_trees_of fs)
shape_tree_of (kind.If c) = shape.If c.value.test c.value.then c.value.other
shape_tree_of (kind.When t fs) = shape.When t (shape_trees_of fs)
shape_tree_of (kind.Let bs fs) = shape.Let (bindings_of bs.items) (shape_trees_of fs)
shape_tree_of (kind.Dolist x t fs) = shape.Dolist x t (shape_trees_of fs)
shape_tree_of (kind.Progn fs) = shape.Progn (shape_trees_of fs)
shape_tree_of (kind.Call d ts) = shape.Call d (expr_trees_of ts.items)
