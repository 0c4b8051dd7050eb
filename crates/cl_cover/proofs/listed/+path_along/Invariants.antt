use Rattle.std.proofs.Common.{◌+◌, ◌*◌}
use Rattle.cl_syntax.specs.ExprTree.{nodes, nodes_all, expr_trees_of}
use Rattle.cl_cover.proofs.listed.+path_along.Given as goal

abbrev pub decreases-path_along : goal.decreases-path_along
decreases-path_along l = 2 * nodes l.expr.now

abbrev pub decreases-path_taken : goal.decreases-path_taken
decreases-path_taken l = 2 * nodes_all (expr_trees_of l.parts.now) + 1
