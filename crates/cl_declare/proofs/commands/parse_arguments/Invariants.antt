use Rattle.std.proofs.Common.{◌≡◌, [], drop, map}
use Rattle.cl_forms.specs.DatumView.{datum_of}
use Rattle.cl_declare.specs.Commands.{parse_arguments}
use Rattle.cl_declare.proofs.commands.parse_arguments.Given as goal

abbrev pub invariant-loop-argument : goal.invariant-loop-argument
invariant-loop-argument l =
    parse_arguments l.reader.signatures.now (map datum_of (drop l.argument-index l.arguments)) l.decls l.notes
    ≡ parse_arguments l.reader.signatures.now (map datum_of l.arguments) [] l.initial.notes
