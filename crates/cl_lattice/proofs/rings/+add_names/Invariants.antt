use Rattle.std.proofs.Common.{◌≡◌, ◌+◌, ◌*◌, ◌++◌, drop}
use Rattle.cl_syntax.specs.TypeSpecTree.{nodes, nodes_all, nodes_of_arg}
use Rattle.cl_syntax.specs.TypeSpec.{arg_tree_of}
use Rattle.cl_lattice.specs.Arguments.{trees_of}
use Rattle.cl_lattice.specs.Rings.{names_in_all}
use Rattle.cl_lattice.proofs.rings.+add_names.Given as goal

abbrev pub decreases-add_names : goal.decreases-add_names
decreases-add_names l = 2 * nodes l.spec.now

abbrev pub decreases-add_names_all : goal.decreases-add_names_all
decreases-add_names_all l = 2 * nodes_all (trees_of l.args.now) + 1

abbrev pub decreases-add_names_arg : goal.decreases-add_names_arg
decreases-add_names_arg l = 2 * nodes_of_arg (arg_tree_of l.arg.now)

abbrev pub invariant-add_names_all-loop-arg : goal.invariant-add_names_all-loop-arg
invariant-add_names_all-loop-arg l = l.names ++ names_in_all (trees_of (drop l.arg-index l.args)) ≡ l.initial.names ++ names_in_all (trees_of l.args)
