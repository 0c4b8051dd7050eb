use Rattle.cl_lattice.specs.Arguments.{trees_of}
use Rattle.cl_syntax.specs.TypeSpecTree.{nodes, nodes_all}
use Rattle.cl_translate.proofs.heads.+heads.Given as goal

abbrev pub decreases-has_head : goal.decreases-has_head
decreases-has_head l = nodes l.spec.now

abbrev pub decreases-some_has_head : goal.decreases-some_has_head
decreases-some_has_head l = nodes_all (trees_of l.args.now)

abbrev pub decreases-first_has_head : goal.decreases-first_has_head
decreases-first_has_head l = nodes_all (trees_of l.args.now)
