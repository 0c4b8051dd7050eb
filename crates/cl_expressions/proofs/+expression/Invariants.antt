use Rattle.std.proofs.Common.{◌≡◌, ◌+◌, ◌*◌, drop, map}
use Rattle.cl_forms.specs.Datum.{weight, weights, datums_of}
use Rattle.cl_forms.specs.DatumView.{datum_of}
use Rattle.cl_expressions.specs.Scopes.{in_sight, variables_of}
use Rattle.cl_expressions.specs.Expressions.{parse_each, subs, parse_each_binding}
use Rattle.cl_expressions.proofs.Onto.{onto, onto_bound}
use Rattle.cl_expressions.proofs.+expression.Given as goal

abbrev pub decreases-expressions::parse_expression : goal.decreases-expressions::parse_expression
decreases-expressions::parse_expression l = 8 * weight (datum_of l.datum.now)

abbrev pub decreases-expressions::parse_form : goal.decreases-expressions::parse_form
decreases-expressions::parse_form l = 8 * weights (datums_of (map datum_of l.parts.now)) + 7

abbrev pub decreases-expressions::parse_head : goal.decreases-expressions::parse_head
decreases-expressions::parse_head l = 8 * weights (datums_of (map datum_of l.parts.now)) + 6

abbrev pub decreases-expressions::parse_special : goal.decreases-expressions::parse_special
decreases-expressions::parse_special l = 8 * weights (datums_of (map datum_of l.parts.now)) + 5

abbrev pub decreases-expressions::parse_if : goal.decreases-expressions::parse_if
decreases-expressions::parse_if l = 8 * weights (datums_of (map datum_of l.parts.now)) + 4

abbrev pub decreases-records::parse_get : goal.decreases-records::parse_get
decreases-records::parse_get l = 8 * weights (datums_of (map datum_of l.parts.now)) + 4

abbrev pub decreases-records::parse_with : goal.decreases-records::parse_with
decreases-records::parse_with l = 8 * weights (datums_of (map datum_of l.parts.now)) + 4

abbrev pub decreases-bindings::parse_map : goal.decreases-bindings::parse_map
decreases-bindings::parse_map l = 8 * weights (datums_of (map datum_of l.parts.now)) + 4

abbrev pub decreases-bindings::parse_filter : goal.decreases-bindings::parse_filter
decreases-bindings::parse_filter l = 8 * weights (datums_of (map datum_of l.parts.now)) + 4

abbrev pub decreases-bindings::parse_fold : goal.decreases-bindings::parse_fold
decreases-bindings::parse_fold l = 8 * weights (datums_of (map datum_of l.parts.now)) + 4

abbrev pub decreases-bindings::parse_let : goal.decreases-bindings::parse_let
decreases-bindings::parse_let l = 8 * weights (datums_of (map datum_of l.parts.now)) + 4

abbrev pub decreases-records::parse_make : goal.decreases-records::parse_make
decreases-records::parse_make l = 8 * weights (datums_of (map datum_of l.parts.now)) + 4

abbrev pub decreases-expressions::parse_operation : goal.decreases-expressions::parse_operation
decreases-expressions::parse_operation l = 8 * weights (datums_of (map datum_of l.parts.now)) + 4

abbrev pub decreases-expressions::parse_call : goal.decreases-expressions::parse_call
decreases-expressions::parse_call l = 8 * weights (datums_of (map datum_of l.parts.now)) + 4

abbrev pub decreases-records::parse_make_fields : goal.decreases-records::parse_make_fields
decreases-records::parse_make_fields l = 8 * weights (datums_of (map datum_of l.parts.now)) + 3

abbrev pub decreases-records::parse_make_parts : goal.decreases-records::parse_make_parts
decreases-records::parse_make_parts l = 8 * weights (datums_of (map datum_of l.parts.now)) + 2

abbrev pub decreases-expressions::parse_each : goal.decreases-expressions::parse_each
decreases-expressions::parse_each l = 8 * weights (datums_of (map datum_of l.parts.now)) + 1

abbrev pub decreases-bindings::parse_bindings : goal.decreases-bindings::parse_bindings
decreases-bindings::parse_bindings l = 8 * weight (datum_of l.datum.now) + 1

abbrev pub decreases-bindings::parse_each_binding : goal.decreases-bindings::parse_each_binding
decreases-bindings::parse_each_binding l = 8 * weights (datums_of (map datum_of l.parts.now)) + 2

abbrev pub decreases-bindings::parse_binding : goal.decreases-bindings::parse_binding
decreases-bindings::parse_binding l = 8 * weight (datum_of l.datum.now) + 1

abbrev pub decreases-bindings::parse_binding_parts : goal.decreases-bindings::parse_binding_parts
decreases-bindings::parse_binding_parts l = 8 * weights (datums_of (map datum_of l.parts.now)) + 4

abbrev pub invariant-expressions::parse_each-loop-part : goal.invariant-expressions::parse_each-loop-part
invariant-expressions::parse_each-loop-part l =
    onto l.exprs.items (parse_each (subs l.reader.signatures.now (datums_of (map datum_of (drop l.part-index l.parts)))) (variables_of l.reader.scope.now) l.notes)
    ≡ parse_each (subs l.reader.signatures.now (datums_of (map datum_of l.parts))) (variables_of l.reader.scope.now) l.initial.notes

abbrev pub invariant-bindings::parse_each_binding-loop-part : goal.invariant-bindings::parse_each_binding-loop-part
invariant-bindings::parse_each_binding-loop-part l =
    onto_bound l.bindings.items
    (parse_each_binding l.reader.signatures.now (datums_of (map datum_of (drop l.part-index l.parts))) l.at (in_sight l.names.items (variables_of l.reader.scope.now)) l.notes)
    ≡ parse_each_binding l.reader.signatures.now (datums_of (map datum_of l.parts)) l.at (variables_of l.reader.scope.now) l.initial.notes
