-- The tree that a statement of the program stands for.
use Rattle.cl_syntax.specs.ActTree as act
use Rattle.cl_syntax.specs.ActTree.{ActTree, act_trees_of}
use Rattle.cl_syntax.specs.Expr.{bindings_of}
use Rattle.cl_syntax.specs.declared.statements.ActKind.{ActKind}
use Rattle.cl_syntax.specs.declared.statements.ActKind.TheVariants as kind

-- the tree of a statement
abbrev pub act_tree_of : ActKind → ActTree
act_tree_of (kind.Setf x t) = act.Setf x t
act_tree_of (kind.Reply t) = act.Reply t
act_tree_of (kind.Switch x on) = act.Switch x on
act_tree_of (kind.OpenDialog x) = act.OpenDialog x
act_tree_of (kind.If c) = act.If c.value.test c.value.then c.value.other
act_tree_of (kind.When t ss) = act.When t (act_trees_of ss)
act_tree_of (kind.Let bs ss) = act.Let (bindings_of bs.items) (act_trees_of ss)
act_tree_of (kind.Dolist x t ss) = act.Dolist x t (act_trees_of ss)
act_tree_of (kind.Progn ss) = act.Progn (act_trees_of ss)
