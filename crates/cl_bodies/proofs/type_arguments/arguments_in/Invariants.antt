use Rattle.std.proofs.Common.{◌≡◌, ◌++◌, drop, map}
use Rattle.cl_forms.specs.DatumView.{datum_of}
use Rattle.cl_syntax.specs.TypeSpec.{arg_tree_of}
use Rattle.cl_bodies.specs.TypeArguments.{arguments_in}
use Rattle.cl_bodies.proofs.type_arguments.arguments_in.Given as goal

abbrev pub invariant-loop-part : goal.invariant-loop-part
invariant-loop-part l =
    map arg_tree_of l.args.items ++ arguments_in l.parameters (map datum_of (drop l.part-index l.parts)) ≡ arguments_in l.parameters (map datum_of l.parts)
