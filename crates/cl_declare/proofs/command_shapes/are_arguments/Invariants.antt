use Rattle.std.proofs.Common.{◌≡◌, drop, map}
use Rattle.cl_forms.specs.DatumView.{datum_of}
use Rattle.cl_declare.specs.CommandShapes.{are_arguments}
use Rattle.cl_declare.proofs.command_shapes.are_arguments.Given as goal

abbrev pub invariant-loop-argument : goal.invariant-loop-argument
invariant-loop-argument l = are_arguments (map datum_of (drop l.argument-index l.arguments)) ≡ are_arguments (map datum_of l.arguments)
