use Rattle.std.proofs.Common.{◌≡◌, ◌+◌, ◌*◌, ◌++◌, drop, map}
use Rattle.cl_syntax.specs.TypeSpec.{arg_tree_of}
use Rattle.cl_syntax.specs.TypeSpecTree.{arg_trees_of, nodes, nodes_all, nodes_of_arg}
use Rattle.cl_cover.specs.Steps.{steps_args}
use Rattle.cl_cover.proofs.spec_steps.+add_spec.Given as goal

abbrev pub decreases-add_spec : goal.decreases-add_spec
decreases-add_spec l = 2 * nodes l.spec.now

abbrev pub decreases-add_args : goal.decreases-add_args
decreases-add_args l = 2 * nodes_all (arg_trees_of (map arg_tree_of l.args.now)) + 1

abbrev pub decreases-add_arg : goal.decreases-add_arg
decreases-add_arg l = 2 * nodes_of_arg (arg_tree_of l.arg.now)

abbrev pub invariant-add_args-loop-arg : goal.invariant-add_args-loop-arg
invariant-add_args-loop-arg l =
    l.out.items ++ steps_args (arg_trees_of (map arg_tree_of (drop l.arg-index l.args))) ≡ l.initial.out.items ++ steps_args (arg_trees_of (map arg_tree_of l.args))
