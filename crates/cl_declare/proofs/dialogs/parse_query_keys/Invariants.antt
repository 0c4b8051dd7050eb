use Rattle.std.proofs.Common.{◌≡◌, drop, map}
use Rattle.cl_expressions.specs.Scopes.{variables_of}
use Rattle.cl_forms.specs.KeyedView.{keyed_of}
use Rattle.cl_declare.specs.Dialogs.{no_condition, parse_query_keys}
use Rattle.cl_declare.proofs.dialogs.parse_query_keys.Given as goal

abbrev pub invariant-loop-key : goal.invariant-loop-key
invariant-loop-key l =
    parse_query_keys l.reader.signatures.now (variables_of l.reader.scope.now) (map keyed_of (drop l.key-index l.keys)) l.condition l.notes
    ≡ parse_query_keys l.reader.signatures.now (variables_of l.reader.scope.now) (map keyed_of l.keys) no_condition l.initial.notes
