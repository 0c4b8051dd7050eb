use Rattle.std.proofs.Common.{◌≡◌, drop, map}
use Rattle.std.specs.Prelude.{None}
use Rattle.cl_forms.specs.KeyedView.{keyed_of}
use Rattle.cl_declare.specs.Types.{parse_type_keys}
use Rattle.cl_declare.proofs.types.parse_type_keys.Given as goal

abbrev pub invariant-loop-key : goal.invariant-loop-key
invariant-loop-key l =
    parse_type_keys l.reader.signatures.now l.parameters (map keyed_of (drop l.key-index l.keys)) l.inherited l.notes
    ≡ parse_type_keys l.reader.signatures.now l.parameters (map keyed_of l.keys) None l.initial.notes
