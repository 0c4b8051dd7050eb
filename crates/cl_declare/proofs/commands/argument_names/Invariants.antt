use Rattle.std.proofs.Common.{◌≡◌, ◌++◌, drop, map}
use Rattle.cl_forms.specs.DatumView.{datum_of}
use Rattle.cl_declare.specs.Commands.{argument_names}
use Rattle.cl_declare.proofs.commands.argument_names.Given as goal

abbrev pub invariant-loop-argument : goal.invariant-loop-argument
invariant-loop-argument l =
    l.names ++ argument_names (map datum_of (drop l.argument-index l.arguments)) ≡ argument_names (map datum_of l.arguments)
