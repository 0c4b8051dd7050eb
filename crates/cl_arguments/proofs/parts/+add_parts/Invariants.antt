use Rattle.std.proofs.Common.{◌≡◌, ◌+◌, ◌*◌, drop}
use Rattle.cl_syntax.specs.TypeSpecTree.{nodes, nodes_all, nodes_of_arg}
use Rattle.cl_syntax.specs.TypeSpec.{arg_tree_of}
use Rattle.cl_lattice.specs.Arguments.{trees_of}
use Rattle.cl_arguments.specs.Probes.{in_parts_all}
use Rattle.cl_arguments.specs.ProbeSearch.{found_in, with_probes}
use Rattle.cl_arguments.proofs.parts.+add_parts.Given as goal

abbrev pub decreases-add_parts : goal.decreases-add_parts
decreases-add_parts l = 2 * nodes l.spec.now

abbrev pub decreases-add_parts_all : goal.decreases-add_parts_all
decreases-add_parts_all l = 2 * nodes_all (trees_of l.args.now) + 1

abbrev pub decreases-add_parts_arg : goal.decreases-add_parts_arg
decreases-add_parts_arg l = 2 * nodes_of_arg (arg_tree_of l.arg.now)

abbrev pub invariant-add_parts_all-loop-arg : goal.invariant-add_parts_all-loop-arg
invariant-add_parts_all-loop-arg l =
    with_probes (in_parts_all (found_in l.sought) (trees_of (drop l.arg-index l.args))) l.found ≡ with_probes (in_parts_all (found_in l.sought) (trees_of l.args)) l.initial.found
