use Rattle.std.proofs.Common.{◌≡◌, drop, map}
use Rattle.std.specs.Prelude.{None}
use Rattle.cl_expressions.specs.Scopes.{variables_of}
use Rattle.cl_forms.specs.KeyedView.{keyed_of}
use Rattle.cl_declare.specs.Translators.{parse_translator_keys}
use Rattle.cl_declare.proofs.translators.parse_translator_keys.Given as goal

abbrev pub invariant-loop-key : goal.invariant-loop-key
invariant-loop-key l =
    parse_translator_keys l.reader.signatures.now (variables_of l.reader.scope.now) (map keyed_of (drop l.key-index l.keys)) l.tester l.notes
    ≡ parse_translator_keys l.reader.signatures.now (variables_of l.reader.scope.now) (map keyed_of l.keys) None l.initial.notes
