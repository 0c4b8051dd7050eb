use Rattle.std.proofs.Common.{sym, ◌∙◌}
use Rattle.cl_expressions.specs.Scopes.{variables_of}
use Rattle.cl_expressions.proofs.BindingLemmas.{bound_step}
use Rattle.cl_expressions.proofs.+expression.Goals as goal

pub bindings::parse_each_binding-loop-part-preserved : goal.bindings::parse_each_binding-loop-part-preserved
bindings::parse_each_binding-loop-part-preserved t c =
    rw (c.in_ok-push-2.ensures.items, c.in_ok-push.ensures.items, c.in_ok-copy.ensures)
    (sym
    (bound_step c.args.reader.now.signatures.now c.args.at c.args.parts.now c.loop-part.part-index c.part-item.result c.in_ok-binding.binding c.loop-part.bindings.items c.loop-part.names.items
    (variables_of c.args.reader.now.scope.now) c.loop-part.notes c.parse_binding.new.notes c.loop-part-test.true c.part-item.is (rw (c.seeing.ensures.signatures, c.seeing.ensures.scope, c.as_slice.ensures.value) at c.in_ok-binding.ensures))
    ∙ c.loop-part.invariant)
