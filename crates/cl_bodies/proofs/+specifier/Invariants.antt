use Rattle.std.proofs.Common.{◌≡◌, ◌+◌, ◌*◌, drop, map}
use Rattle.cl_forms.specs.Datum.{weight, weights, datums_of}
use Rattle.cl_forms.specs.DatumView.{datum_of}
use Rattle.cl_expressions.proofs.Onto.{onto}
use Rattle.cl_bodies.specs.Specifiers.{parse_each_type, type_subs}
use Rattle.cl_bodies.specs.TypeViews.{args_of}
use Rattle.cl_bodies.proofs.+specifier.Given as goal

abbrev pub decreases-specifiers::parse_type : goal.decreases-specifiers::parse_type
decreases-specifiers::parse_type l = 16 * weight (datum_of l.datum.now) + 1

abbrev pub decreases-specifiers::parse_specifier : goal.decreases-specifiers::parse_specifier
decreases-specifiers::parse_specifier l = 16 * weight (datum_of l.datum.now)

abbrev pub decreases-specifiers::parse_first : goal.decreases-specifiers::parse_first
decreases-specifiers::parse_first l = 16 * weight (datum_of l.first.now) + 16 * weights (datums_of (map datum_of l.more.now)) + 14

abbrev pub decreases-specifiers::parse_optioned : goal.decreases-specifiers::parse_optioned
decreases-specifiers::parse_optioned l = 16 * weights (datums_of (map datum_of l.parts.now)) + 15

abbrev pub decreases-specifiers::parse_listed : goal.decreases-specifiers::parse_listed
decreases-specifiers::parse_listed l = 16 * weights (datums_of (map datum_of l.parts.now)) + 15

abbrev pub decreases-specifiers::parse_parts : goal.decreases-specifiers::parse_parts
decreases-specifiers::parse_parts l = 16 * weights (datums_of (map datum_of l.parts.now)) + 14

abbrev pub decreases-specifiers::parse_headed : goal.decreases-specifiers::parse_headed
decreases-specifiers::parse_headed l = 16 * weights (datums_of (map datum_of l.arguments.now)) + 13

abbrev pub decreases-specifiers::parse_named : goal.decreases-specifiers::parse_named
decreases-specifiers::parse_named l = 16 * weights (datums_of (map datum_of l.arguments.now)) + 12

abbrev pub decreases-specifiers::parse_arguments : goal.decreases-specifiers::parse_arguments
decreases-specifiers::parse_arguments l = 16 * weights (datums_of (map datum_of l.parts.now)) + 11

abbrev pub decreases-type_rows::parse_one_type : goal.decreases-type_rows::parse_one_type
decreases-type_rows::parse_one_type l = 16 * weights (datums_of (map datum_of l.parts.now)) + 10

abbrev pub decreases-type_rows::parse_some_types : goal.decreases-type_rows::parse_some_types
decreases-type_rows::parse_some_types l = 16 * weights (datums_of (map datum_of l.parts.now)) + 10

abbrev pub decreases-type_rows::parse_tokens_and_type : goal.decreases-type_rows::parse_tokens_and_type
decreases-type_rows::parse_tokens_and_type l = 16 * weights (datums_of (map datum_of l.parts.now)) + 10

abbrev pub decreases-type_rows::parse_each_type : goal.decreases-type_rows::parse_each_type
decreases-type_rows::parse_each_type l = 16 * weights (datums_of (map datum_of l.parts.now)) + 9

abbrev pub invariant-type_rows::parse_each_type-loop-part : goal.invariant-type_rows::parse_each_type-loop-part
invariant-type_rows::parse_each_type-loop-part l =
    onto (args_of l.args) (parse_each_type (type_subs l.reader.signatures.now l.parameters (datums_of (map datum_of (drop l.part-index l.parts)))) l.notes)
    ≡ parse_each_type (type_subs l.reader.signatures.now l.parameters (datums_of (map datum_of l.parts))) l.initial.notes
