use Rattle.std.proofs.Common.{◌≡◌, drop, map}
use Rattle.cl_expressions.specs.Scopes.{variables_of}
use Rattle.cl_forms.specs.KeyedView.{keyed_of}
use Rattle.cl_bodies.specs.Updates.{nothing_said, parse_update_keys}
use Rattle.cl_bodies.specs.UpdateViews.{said_of}
use Rattle.cl_bodies.proofs.updates.parse_update_keys.Given as goal

abbrev pub invariant-loop-key : goal.invariant-loop-key
invariant-loop-key l =
    parse_update_keys l.reader.signatures.now (variables_of l.reader.scope.now) (map keyed_of (drop l.key-index l.keys)) (said_of l.said) l.notes
    ≡ parse_update_keys l.reader.signatures.now (variables_of l.reader.scope.now) (map keyed_of l.keys) nothing_said l.initial.notes
