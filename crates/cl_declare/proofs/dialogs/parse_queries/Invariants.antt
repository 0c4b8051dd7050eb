use Rattle.std.proofs.Common.{◌≡◌, [], drop, map}
use Rattle.cl_expressions.specs.Scopes.{variables_of}
use Rattle.cl_forms.specs.DatumView.{datum_of}
use Rattle.cl_declare.specs.Dialogs.{parse_queries}
use Rattle.cl_declare.proofs.dialogs.parse_queries.Given as goal

abbrev pub invariant-loop-query : goal.invariant-loop-query
invariant-loop-query l =
    parse_queries l.reader.signatures.now (variables_of l.reader.scope.now) (map datum_of (drop l.query-index l.queries)) l.decls l.notes
    ≡ parse_queries l.reader.signatures.now (variables_of l.reader.scope.now) (map datum_of l.queries) [] l.initial.notes
