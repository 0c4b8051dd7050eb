use Rattle.std.proofs.Common.{◌≡◌, ◌++◌, drop}
use Rattle.cl_syntax.specs.ExprTree.{expr_trees_of}
use Rattle.cl_cover.specs.Listed.{paths_of}
use Rattle.cl_cover.proofs.listed.listed_paths.Given as goal

abbrev pub invariant-loop-expr : goal.invariant-loop-expr
invariant-loop-expr l = l.paths.items ++ paths_of (expr_trees_of (drop l.expr-index l.exprs)) ≡ paths_of (expr_trees_of l.exprs)
