use Rattle.std.proofs.Common.{◌≡◌, drop, map}
use Rattle.cl_forms.specs.DatumView.{datum_of}
use Rattle.cl_declare.specs.DialogShapes.{are_queries}
use Rattle.cl_declare.proofs.dialog_shapes.are_queries.Given as goal

abbrev pub invariant-loop-query : goal.invariant-loop-query
invariant-loop-query l = are_queries (map datum_of (drop l.query-index l.queries)) ≡ are_queries (map datum_of l.queries)
