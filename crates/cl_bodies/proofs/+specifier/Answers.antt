use Rattle.std.proofs.Common.{sym, ◌∙◌, map}
use Rattle.cl_forms.specs.DatumView.{datum_of}
use Rattle.cl_bodies.proofs.TypeSubs.{bounds_row, length_row, type_pushed}
use Rattle.cl_bodies.proofs.+specifier.Goals as goal

pub specifiers::parse_arguments-returns-in-Bounds : goal.specifiers::parse_arguments-returns-in-Bounds
specifiers::parse_arguments-returns-in-Bounds t c =
    bounds_row c.args.reader.now.signatures.now c.args.parameters.now c.args.takes c.args.at (map datum_of c.args.parts.now) c.parse_at_most.result c.args.notes.now c.args.notes.now
    c.in-Bounds.is (c.parse_at_most.ensures c.args.notes.now)

pub specifiers::parse_arguments-returns-in-Length : goal.specifiers::parse_arguments-returns-in-Length
specifiers::parse_arguments-returns-in-Length t c =
    length_row c.args.reader.now.signatures.now c.args.parameters.now c.args.takes c.args.at (map datum_of c.args.parts.now) c.parse_at_most-in-Length.result c.args.notes.now
    c.args.notes.now c.in-Length.is (c.parse_at_most-in-Length.ensures c.args.notes.now)

pub type_rows::parse_each_type-loop-part-preserved : goal.type_rows::parse_each_type-loop-part-preserved
type_rows::parse_each_type-loop-part-preserved t c =
    sym
    (type_pushed c.args.reader.now.signatures.now c.args.parameters.now c.args.parts.now c.loop-part.part-index c.part-item.result c.in_ok-spec.spec c.loop-part.args.items
    c.push.new.self.items c.loop-part.notes c.parse_type.new.notes c.loop-part-test.true c.part-item.is c.in_ok-spec.ensures c.in_ok-push.ensures.items)
    ∙ c.loop-part.invariant
