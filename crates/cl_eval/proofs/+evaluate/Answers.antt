use Rattle.std.proofs.Common.{◌≡◌, ◌≤◌, ◌+◌, List, ◌∙◌, ◌∷◌, ◌++◌, [], suc, drop, drop-cons, map, ap, sym, arith}
use Rattle.std.proofs.lemmas.Result.{err_from_is_err_and}
use Rattle.cl_value.specs.Value.{data_of}
use Rattle.cl_value.specs.declared.Value.{Value}
use Rattle.cl_syntax.specs.ExprTree as expr
use Rattle.cl_syntax.specs.ExprTree.{none, part, expr_trees_of}
use Rattle.cl_syntax.specs.Expr.{expr_tree_of, bindings_of}
use Rattle.cl_syntax.specs.declared.expressions.Binding.{Binding}
use Rattle.cl_syntax.specs.declared.expressions.Expr.{Expr}
use Rattle.cl_eval.specs.Scope.{variables_of}
use Rattle.cl_value.specs.Data.{int, bool}
use Rattle.cl_eval.specs.Calculation.{arithmetic_on, comparison_on}
use Rattle.cl_eval.specs.Operators.{arithmetic_of, comparison_of}
use Rattle.cl_eval.specs.Meaning.{each}
use Rattle.cl_eval.specs.Standpoint.{meaning_at}
use Rattle.cl_eval.proofs.EnteringLemmas.{means-entered}
use Rattle.cl_eval.proofs.CostLemmas.{grows-at}
use Rattle.cl_eval.proofs.CalculationLemmas.{stop-first_number, stop-second_number, both-numbers, pair-stop, pair-done, as_answer, as_answer-comes}
use Rattle.cl_eval.proofs.CalculationLemmas.{arithmetic_pair, comparison_pair}
use Rattle.cl_eval.proofs.MappingLemmas.{stop-map_behind, full-map_behind, next-map_behind, pass-map_behind, stop-past, more_size}
use Rattle.cl_eval.proofs.ListLemmas.{rest_whole}
use Rattle.cl_value.specs.Data.{items_of, size_of, size_of_items}
use Rattle.cl_eval.specs.Mapping.{map_behind}
use Rattle.cl_eval.specs.Standpoint.{seen_from}
use Rattle.cl_eval.proofs.StopLemmas.{stop-each, full-each, stop-every, stop-some, stop-bound, full-bound, stop-let_in, stop-first, stop-second}
use Rattle.cl_eval.proofs.StopLemmas.{done-second, pair, stop-filtered, full-filtered, stop-folded, stop-choice, stop-map}
use Rattle.cl_eval.proofs.StopLemmas.{stop-filter, stop-fold, stop-opening, stop-elements, stop-call}
use Rattle.cl_eval.proofs.+evaluate.Goals as goal

pub evaluation::evaluate_each-returns-in_err-value-clause-meaning : goal.evaluation::evaluate_each-returns-in_err-value-clause-meaning
evaluation::evaluate_each-returns-in_err-value-clause-meaning g t c =
    let p = err_from_is_err_and c.from_residual.result c.from_residual.ensures.1 in
    let at = c.loop-part.part-index in
    let rest = drop (suc at) c.args.parts.now in
    let step : drop at c.args.parts.now ≡ c.part-item.result ∷ rest =
    drop-cons c.args.parts.now at c.part-item.result c.loop-part-test.true ∙ ap (λ (a : Expr). a ∷ rest) (sym c.part-item.is) in
    rw (p.1, p.2, ← c.loop-part.invariant.meaning, step)
    (stop-each (meaning_at c.args.here.now) (grows-at c.args.here.now) c.args.here.now.level (variables_of c.args.here.now.scope.now)
    c.part-item.result (expr_trees_of rest) (map data_of c.loop-part.values.items) c.in_err-value.field-0.0 c.evaluate.new.meter
    c.loop-part.meter.cost c.loop-part.meter.deepest
    c.in_err-value.ensures.meaning)

pub evaluation::evaluate_each-returns-in_err-push-clause-meaning : goal.evaluation::evaluate_each-returns-in_err-push-clause-meaning
evaluation::evaluate_each-returns-in_err-push-clause-meaning g t c =
    let p = err_from_is_err_and c.from_residual-in_err-push.result c.from_residual-in_err-push.ensures.1 in
    let at = c.loop-part.part-index in
    let rest = drop (suc at) c.args.parts.now in
    let step : drop at c.args.parts.now ≡ c.part-item.result ∷ rest =
    drop-cons c.args.parts.now at c.part-item.result c.loop-part-test.true ∙ ap (λ (a : Expr). a ∷ rest) (sym c.part-item.is) in
    rw (p.1, p.2, ← c.loop-part.invariant.meaning, step)
    (full-each (meaning_at c.args.here.now) (grows-at c.args.here.now) c.args.here.now.level (variables_of c.args.here.now.scope.now)
    c.part-item.result (expr_trees_of rest) (map data_of c.loop-part.values.items) (data_of c.in_ok-value.value) c.loop-part.meter.cost
    c.loop-part.meter.deepest c.evaluate.new.meter.cost c.evaluate.new.meter.deepest
    c.in_ok-value.ensures.meaning)

pub evaluation::evaluate_every-returns-in_err-truth-clause-meaning : goal.evaluation::evaluate_every-returns-in_err-truth-clause-meaning
evaluation::evaluate_every-returns-in_err-truth-clause-meaning g t c =
    let p = err_from_is_err_and c.from_residual.result c.from_residual.ensures.1 in
    let at = c.loop-part.part-index in
    let rest = drop (suc at) c.args.parts.now in
    let step : drop at c.args.parts.now ≡ c.part-item.result ∷ rest =
    drop-cons c.args.parts.now at c.part-item.result c.loop-part-test.true ∙ ap (λ (a : Expr). a ∷ rest) (sym c.part-item.is) in
    rw (p.1, p.2, ← c.loop-part.invariant.meaning, step)
    (stop-every (meaning_at c.args.here.now) (grows-at c.args.here.now) c.args.here.now.level (variables_of c.args.here.now.scope.now)
    c.part-item.result (expr_trees_of rest) c.in_err-truth.field-0.0 c.evaluate_test.new.meter c.loop-part.meter.cost c.loop-part.meter.deepest
    c.in_err-truth.ensures.meaning)

pub evaluation::evaluate_some-returns-in_err-truth-clause-meaning : goal.evaluation::evaluate_some-returns-in_err-truth-clause-meaning
evaluation::evaluate_some-returns-in_err-truth-clause-meaning g t c =
    let p = err_from_is_err_and c.from_residual.result c.from_residual.ensures.1 in
    let at = c.loop-part.part-index in
    let rest = drop (suc at) c.args.parts.now in
    let step : drop at c.args.parts.now ≡ c.part-item.result ∷ rest =
    drop-cons c.args.parts.now at c.part-item.result c.loop-part-test.true ∙ ap (λ (a : Expr). a ∷ rest) (sym c.part-item.is) in
    rw (p.1, p.2, ← c.loop-part.invariant.meaning, step)
    (stop-some (meaning_at c.args.here.now) (grows-at c.args.here.now) c.args.here.now.level (variables_of c.args.here.now.scope.now)
    c.part-item.result (expr_trees_of rest) c.in_err-truth.field-0.0 c.evaluate_test.new.meter c.loop-part.meter.cost c.loop-part.meter.deepest
    c.in_err-truth.ensures.meaning)

pub bindings::evaluate_let-returns-in_err-frame-clause-meaning : goal.bindings::evaluate_let-returns-in_err-frame-clause-meaning
bindings::evaluate_let-returns-in_err-frame-clause-meaning g t c =
    let p = err_from_is_err_and c.from_residual.result c.from_residual.ensures.1 in
    rw (p.1, p.2)
    (stop-let_in (meaning_at c.args.here.now) (grows-at c.args.here.now) c.args.here.now.level (bindings_of c.args.bindings.now) c.args.body.now
    (variables_of c.args.here.now.scope.now) (variables_of c.args.here.now.scope.now) c.in_err-frame.field-0.0 c.evaluate_bindings.new.meter
    c.args.meter.now.cost c.args.meter.now.deepest
    c.in_err-frame.ensures.meaning)

pub bindings::evaluate_bindings-returns-in_err-value-clause-meaning : goal.bindings::evaluate_bindings-returns-in_err-value-clause-meaning
bindings::evaluate_bindings-returns-in_err-value-clause-meaning g t c =
    let p = err_from_is_err_and c.from_residual.result c.from_residual.ensures.1 in
    let at = c.loop-binding.binding-index in
    let rest = drop (suc at) c.args.bindings.now in
    let step : drop at c.args.bindings.now ≡ c.binding-item.result ∷ rest =
    drop-cons c.args.bindings.now at c.binding-item.result c.loop-binding-test.true ∙ ap (λ (a : Binding). a ∷ rest) (sym c.binding-item.is) in
    rw (p.1, p.2, ← c.loop-binding.invariant.meaning, step)
    (stop-bound (meaning_at c.args.here.now) (grows-at c.args.here.now) c.args.here.now.level c.binding-item.result.name c.binding-item.result.value
    (bindings_of rest) (c.loop-binding.frame ++ (variables_of c.args.here.now.scope.now)) (variables_of c.args.here.now.scope.now)
    c.in_err-value.field-0.0 c.evaluate.new.meter c.loop-binding.meter.cost c.loop-binding.meter.deepest
    c.in_err-value.ensures.meaning)

pub bindings::evaluate_bindings-returns-in_err-copy-clause-meaning : goal.bindings::evaluate_bindings-returns-in_err-copy-clause-meaning
bindings::evaluate_bindings-returns-in_err-copy-clause-meaning g t c =
    let p = err_from_is_err_and c.from_residual-in_err-copy.result c.from_residual-in_err-copy.ensures.1 in
    let at = c.loop-binding.binding-index in
    let rest = drop (suc at) c.args.bindings.now in
    let step : drop at c.args.bindings.now ≡ c.binding-item.result ∷ rest =
    drop-cons c.args.bindings.now at c.binding-item.result c.loop-binding-test.true ∙ ap (λ (a : Binding). a ∷ rest) (sym c.binding-item.is) in
    rw (p.1, p.2, ← c.loop-binding.invariant.meaning, step)
    (full-bound (meaning_at c.args.here.now) (grows-at c.args.here.now) c.args.here.now.level c.binding-item.result.name c.binding-item.result.value
    (bindings_of rest) (c.loop-binding.frame ++ (variables_of c.args.here.now.scope.now)) (data_of c.in_ok-value.value) c.loop-binding.meter.cost
    c.loop-binding.meter.deepest c.evaluate.new.meter.cost c.evaluate.new.meter.deepest
    c.in_ok-value.ensures.meaning)

pub bindings::evaluate_bindings-returns-in_err-bind-clause-meaning : goal.bindings::evaluate_bindings-returns-in_err-bind-clause-meaning
bindings::evaluate_bindings-returns-in_err-bind-clause-meaning g t c =
    let p = err_from_is_err_and c.from_residual-in_err-bind.result c.from_residual-in_err-bind.ensures.1 in
    let at = c.loop-binding.binding-index in
    let rest = drop (suc at) c.args.bindings.now in
    let step : drop at c.args.bindings.now ≡ c.binding-item.result ∷ rest =
    drop-cons c.args.bindings.now at c.binding-item.result c.loop-binding-test.true ∙ ap (λ (a : Binding). a ∷ rest) (sym c.binding-item.is) in
    rw (p.1, p.2, ← c.loop-binding.invariant.meaning, step)
    (full-bound (meaning_at c.args.here.now) (grows-at c.args.here.now) c.args.here.now.level c.binding-item.result.name c.binding-item.result.value
    (bindings_of rest) (c.loop-binding.frame ++ (variables_of c.args.here.now.scope.now)) (data_of c.in_ok-value.value) c.loop-binding.meter.cost
    c.loop-binding.meter.deepest c.evaluate.new.meter.cost c.evaluate.new.meter.deepest
    c.in_ok-value.ensures.meaning)

pub evaluation::evaluate_parts-returns-in_err-evaluate_test-in-If-clause-meaning : goal.evaluation::evaluate_parts-returns-in_err-evaluate_test-in-If-clause-meaning
evaluation::evaluate_parts-returns-in_err-evaluate_test-in-If-clause-meaning g t c =
    let p = err_from_is_err_and c.from_residual-in_err-evaluate_test-in-If.result c.from_residual-in_err-evaluate_test-in-If.ensures.1 in
    let whole : c.args.expr.now ≡ expr.If c.in-If.choice.value.test c.in-If.choice.value.then c.in-If.choice.value.other = sym c.expr.view_is ∙ ap expr_tree_of c.in-If.is in
    let stop = rw c.deref.ensures at c.in_err-evaluate_test-in-If.ensures.meaning in
    rw (p.1, p.2, whole)
    (stop-choice c.args.here.now.context.now.app.now c.args.here.now.context.now.slots.now (meaning_at c.args.here.now) (grows-at c.args.here.now)
    c.args.here.now.level (variables_of c.args.here.now.scope.now) c.in-If.choice.value.test c.in-If.choice.value.then c.in-If.choice.value.other
    c.in_err-evaluate_test-in-If.field-0.0 c.evaluate_test.new.meter c.args.meter.now.cost c.args.meter.now.deepest stop)

pub traversal::filter_over-returns-in_err-kept-clause-meaning : goal.traversal::filter_over-returns-in_err-kept-clause-meaning
traversal::filter_over-returns-in_err-kept-clause-meaning g t c =
    let p = err_from_is_err_and c.from_residual.result c.from_residual.ensures.1 in
    let at = c.loop-item.item-index in
    let rest = drop (suc at) c.args.list.now in
    let step : drop at c.args.list.now ≡ c.item-item.result ∷ rest =
    drop-cons c.args.list.now at c.item-item.result c.loop-item-test.true ∙ ap (λ (a : Value). a ∷ rest) (sym c.item-item.is) in
    rw (p.1, p.2, ← c.loop-item.invariant.meaning, step)
    (stop-filtered (meaning_at c.args.here.now) (grows-at c.args.here.now) c.args.here.now.level (variables_of c.args.here.now.scope.now)
    c.args.name.now c.args.body.now (data_of c.item-item.result) (map data_of rest) (map data_of c.loop-item.values.items) c.in_err-kept.field-0.0
    c.evaluate_test.new.meter c.loop-item.meter.cost c.loop-item.meter.deepest
    c.in_err-kept.ensures.meaning)

pub traversal::filter_over-returns-in_err-add_if-clause-meaning : goal.traversal::filter_over-returns-in_err-add_if-clause-meaning
traversal::filter_over-returns-in_err-add_if-clause-meaning g t c =
    let p = err_from_is_err_and c.from_residual-in_err-add_if.result c.from_residual-in_err-add_if.ensures.1 in
    let at = c.loop-item.item-index in
    let rest = drop (suc at) c.args.list.now in
    let step : drop at c.args.list.now ≡ c.item-item.result ∷ rest =
    drop-cons c.args.list.now at c.item-item.result c.loop-item-test.true ∙ ap (λ (a : Value). a ∷ rest) (sym c.item-item.is) in
    rw (p.1, p.2, ← c.loop-item.invariant.meaning, step)
    (full-filtered (meaning_at c.args.here.now) (grows-at c.args.here.now) c.args.here.now.level (variables_of c.args.here.now.scope.now)
    c.args.name.now c.args.body.now (data_of c.item-item.result) (map data_of rest) (map data_of c.loop-item.values.items) c.in_ok-kept.kept c.loop-item.meter.cost
    c.loop-item.meter.deepest
    c.evaluate_test.new.meter.cost c.evaluate_test.new.meter.deepest c.in_ok-kept.ensures.meaning)

pub traversal::fold_over-returns-in_err-next-clause-meaning : goal.traversal::fold_over-returns-in_err-next-clause-meaning
traversal::fold_over-returns-in_err-next-clause-meaning g t c =
    let p = err_from_is_err_and c.from_residual.result c.from_residual.ensures.1 in
    let at = c.loop-item.item-index in
    let rest = drop (suc at) c.args.list.now in
    let step : drop at c.args.list.now ≡ c.item-item.result ∷ rest =
    drop-cons c.args.list.now at c.item-item.result c.loop-item-test.true ∙ ap (λ (a : Value). a ∷ rest) (sym c.item-item.is) in
    rw (p.1, p.2, ← c.loop-item.invariant.meaning, step)
    (stop-folded (meaning_at c.args.here.now) (grows-at c.args.here.now) c.args.here.now.level (variables_of c.args.here.now.scope.now)
    c.args.fold.now.name c.args.fold.now.accumulator c.args.fold.now.body (data_of c.item-item.result) (map data_of rest) (data_of c.loop-item.value)
    c.in_err-next.field-0.0 c.evaluate.new.meter c.loop-item.meter.cost c.loop-item.meter.deepest
    c.in_err-next.ensures.meaning)

pub calls::evaluate_operands-returns-in_err-first-in-len2-clause-meaning : goal.calls::evaluate_operands-returns-in_err-first-in-len2-clause-meaning
calls::evaluate_operands-returns-in_err-first-in-len2-clause-meaning g t c =
    let p = err_from_is_err_and c.from_residual-in_err-first-in-len2.result c.from_residual-in_err-first-in-len2.ensures.1 in
    let whole : expr_trees_of c.args.parts.now ≡ part c.first-item.result (part c.second-item.result none) =
    pair c.args.parts.now c.first-item.result c.second-item.result (omega (arith, c.in-len2.len_at_least)) (omega (arith, c.in-len2.len_below)) c.first-item.is c.second-item.is in
    rw (p.1, p.2, whole)
    (stop-first c.args.here.now.context.now.app.now (meaning_at c.args.here.now) (grows-at c.args.here.now) c.args.here.now.level
    (variables_of c.args.here.now.scope.now) c.args.operator.now c.first-item.result (part c.second-item.result none) c.in_err-first-in-len2.field-0.0
    c.evaluate-in-len2.new.meter c.args.meter.now.cost c.args.meter.now.deepest
    c.in_err-first-in-len2.ensures.meaning)

pub calls::evaluate_operands-returns-in_err-second-in-len2-clause-meaning : goal.calls::evaluate_operands-returns-in_err-second-in-len2-clause-meaning
calls::evaluate_operands-returns-in_err-second-in-len2-clause-meaning g t c =
    let p = err_from_is_err_and c.from_residual-in_err-second-in-len2.result c.from_residual-in_err-second-in-len2.ensures.1 in
    let whole : expr_trees_of c.args.parts.now ≡ part c.first-item.result (part c.second-item.result none) =
    pair c.args.parts.now c.first-item.result c.second-item.result (omega (arith, c.in-len2.len_at_least)) (omega (arith, c.in-len2.len_below)) c.first-item.is c.second-item.is in
    rw (p.1, p.2, whole)
    (stop-second c.args.here.now.context.now.app.now (meaning_at c.args.here.now) (grows-at c.args.here.now) c.args.here.now.level
    (variables_of c.args.here.now.scope.now) c.args.operator.now c.first-item.result c.second-item.result none (data_of c.in_ok-first-in-len2.first)
    c.in_err-second-in-len2.field-0.0 c.evaluate-in-len2-2.new.meter c.args.meter.now.cost c.args.meter.now.deepest c.evaluate-in-len2.new.meter.cost
    c.evaluate-in-len2.new.meter.deepest
    c.in_ok-first-in-len2.ensures.meaning c.in_err-second-in-len2.ensures.meaning)

pub calls::evaluate_operands-returns-in_ok-second-in-len2-clause-meaning : goal.calls::evaluate_operands-returns-in_ok-second-in-len2-clause-meaning
calls::evaluate_operands-returns-in_ok-second-in-len2-clause-meaning g t c =
    let whole : expr_trees_of c.args.parts.now ≡ part c.first-item.result (part c.second-item.result none) =
    pair c.args.parts.now c.first-item.result c.second-item.result (omega (arith, c.in-len2.len_at_least)) (omega (arith, c.in-len2.len_below)) c.first-item.is c.second-item.is in
    rw whole
    (done-second c.args.here.now.context.now.app.now (meaning_at c.args.here.now) c.args.here.now.level (variables_of c.args.here.now.scope.now)
    c.args.operator.now c.first-item.result c.second-item.result (data_of c.in_ok-first-in-len2.first) (data_of c.in_ok-second-in-len2.second)
    c.operate-in-len2.result c.evaluate-in-len2-2.new.meter c.args.meter.now.cost c.args.meter.now.deepest c.evaluate-in-len2.new.meter.cost
    c.evaluate-in-len2.new.meter.deepest
    c.in_ok-first-in-len2.ensures.meaning c.in_ok-second-in-len2.ensures.meaning c.operate-in-len2.ensures)

pub traversal::evaluate_map-returns-in_err-list-clause-meaning : goal.traversal::evaluate_map-returns-in_err-list-clause-meaning
traversal::evaluate_map-returns-in_err-list-clause-meaning g t c =
    let p = err_from_is_err_and c.from_residual.result c.from_residual.ensures.1 in
    rw (p.1, p.2)
    (stop-map c.args.here.now.context.now.app.now c.args.here.now.context.now.slots.now (meaning_at c.args.here.now) (grows-at c.args.here.now)
    c.args.here.now.level (variables_of c.args.here.now.scope.now)
    c.args.each.now.name c.args.each.now.list c.args.each.now.body c.in_err-list.field-0.0 c.evaluate_list.new.meter
    c.args.meter.now.cost c.args.meter.now.deepest c.in_err-list.ensures.meaning)

pub traversal::evaluate_filter-returns-in_err-list-clause-meaning : goal.traversal::evaluate_filter-returns-in_err-list-clause-meaning
traversal::evaluate_filter-returns-in_err-list-clause-meaning g t c =
    let p = err_from_is_err_and c.from_residual.result c.from_residual.ensures.1 in
    rw (p.1, p.2)
    (stop-filter c.args.here.now.context.now.app.now c.args.here.now.context.now.slots.now (meaning_at c.args.here.now) (grows-at c.args.here.now)
    c.args.here.now.level (variables_of c.args.here.now.scope.now)
    c.args.each.now.name c.args.each.now.list c.args.each.now.body c.in_err-list.field-0.0 c.evaluate_list.new.meter
    c.args.meter.now.cost c.args.meter.now.deepest c.in_err-list.ensures.meaning)

pub traversal::evaluate_fold-returns-in_err-list-clause-meaning : goal.traversal::evaluate_fold-returns-in_err-list-clause-meaning
traversal::evaluate_fold-returns-in_err-list-clause-meaning g t c =
    let p = err_from_is_err_and c.from_residual.result c.from_residual.ensures.1 in
    rw (p.1, p.2)
    (stop-fold c.args.here.now.context.now.app.now c.args.here.now.context.now.slots.now (meaning_at c.args.here.now) (grows-at c.args.here.now)
    c.args.here.now.level (variables_of c.args.here.now.scope.now)
    c.args.fold.now.name c.args.fold.now.accumulator c.args.fold.now.list c.args.fold.now.opening c.args.fold.now.body
    c.in_err-list.field-0.0 c.evaluate.new.meter c.args.meter.now.cost c.args.meter.now.deepest c.in_err-list.ensures.meaning)

pub traversal::evaluate_fold-returns-in_err-opening-clause-meaning : goal.traversal::evaluate_fold-returns-in_err-opening-clause-meaning
traversal::evaluate_fold-returns-in_err-opening-clause-meaning g t c =
    let p = err_from_is_err_and c.from_residual-in_err-opening.result c.from_residual-in_err-opening.ensures.1 in
    rw (p.1, p.2)
    (stop-opening c.args.here.now.context.now.app.now c.args.here.now.context.now.slots.now (meaning_at c.args.here.now) (grows-at c.args.here.now)
    c.args.here.now.level (variables_of c.args.here.now.scope.now)
    c.args.fold.now.name c.args.fold.now.accumulator c.args.fold.now.list c.args.fold.now.opening c.args.fold.now.body
    c.in_err-opening.field-0.0 c.evaluate-2.new.meter (data_of c.in_ok-list.list) c.args.meter.now.cost c.args.meter.now.deepest
    c.evaluate.new.meter.cost c.evaluate.new.meter.deepest c.in_ok-list.ensures.meaning c.in_err-opening.ensures.meaning)

pub traversal::evaluate_fold-returns-in_err-list-2-clause-meaning : goal.traversal::evaluate_fold-returns-in_err-list-2-clause-meaning
traversal::evaluate_fold-returns-in_err-list-2-clause-meaning g t c =
    let p = err_from_is_err_and c.from_residual-in_err-list-2.result c.from_residual-in_err-list-2.ensures.1 in
    rw (p.1, p.2)
    (stop-elements c.args.here.now.context.now.app.now c.args.here.now.context.now.slots.now (meaning_at c.args.here.now) (grows-at c.args.here.now)
    c.args.here.now.level (variables_of c.args.here.now.scope.now)
    c.args.fold.now.name c.args.fold.now.accumulator c.args.fold.now.list c.args.fold.now.opening c.args.fold.now.body
    c.in_err-list-2.field-0.0 c.evaluate-2.new.meter (data_of c.in_ok-list.list) (data_of c.in_ok-opening.opening) c.args.meter.now.cost c.args.meter.now.deepest
    c.evaluate.new.meter.cost c.evaluate.new.meter.deepest c.in_ok-list.ensures.meaning c.in_ok-opening.ensures.meaning c.in_err-list-2.ensures)

pub calls::evaluate_call-returns-in_err-values-clause-meaning : goal.calls::evaluate_call-returns-in_err-values-clause-meaning
calls::evaluate_call-returns-in_err-values-clause-meaning g t c =
    let p = err_from_is_err_and c.from_residual.result c.from_residual.ensures.1 in
    rw (p.1, p.2)
    (stop-call c.args.here.now.context.now.app.now c.args.here.now.context.now.slots.now (meaning_at c.args.here.now) (grows-at c.args.here.now)
    c.args.here.now.level (variables_of c.args.here.now.scope.now)
    c.args.name.now (expr_trees_of c.args.arguments.now) c.in_err-values.field-0.0 c.evaluate_each.new.meter
    c.args.meter.now.cost c.args.meter.now.deepest c.in_err-values.ensures.meaning)

pub evaluation::evaluate-returns-clause-meaning : goal.evaluation::evaluate-returns-clause-meaning
evaluation::evaluate-returns-clause-meaning g t c =
    rw (means-entered c.args.here.now.left c.args.here.now.context.now.budget c.args.here.now.context.now.app.now
    c.args.here.now.context.now.slots.now c.args.here.now.level (variables_of c.args.here.now.scope.now) c.args.expr.now
    c.args.meter.now.cost c.args.meter.now.deepest _ _ c.in_ok-enter.ensures.meaning)
    (rw c.below-inner.ensures at c.evaluate_parts.ensures.meaning)

pub evaluation::evaluate_test-returns-clause-meaning : goal.evaluation::evaluate_test-returns-clause-meaning
evaluation::evaluate_test-returns-clause-meaning g t c =
    rw (means-entered c.args.here.now.left c.args.here.now.context.now.budget c.args.here.now.context.now.app.now
    c.args.here.now.context.now.slots.now c.args.here.now.level (variables_of c.args.here.now.scope.now) c.args.expr.now
    c.args.meter.now.cost c.args.meter.now.deepest _ _ c.in_ok-enter.ensures.meaning)
    (rw c.below-inner.ensures at c.evaluate_test_parts.ensures.meaning)

pub calculation::evaluate_number-returns-clause-meaning : goal.calculation::evaluate_number-returns-clause-meaning
calculation::evaluate_number-returns-clause-meaning g t c =
    rw (means-entered c.args.here.now.left c.args.here.now.context.now.budget c.args.here.now.context.now.app.now
    c.args.here.now.context.now.slots.now c.args.here.now.level (variables_of c.args.here.now.scope.now) c.args.expr.now
    c.args.meter.now.cost c.args.meter.now.deepest _ _ c.in_ok-enter.ensures.meaning)
    (rw c.below-inner.ensures at c.evaluate_number_parts.ensures.meaning)

pub calculation::evaluate_pair-returns-in_err-first-in-len2-clause-meaning : goal.calculation::evaluate_pair-returns-in_err-first-in-len2-clause-meaning
calculation::evaluate_pair-returns-in_err-first-in-len2-clause-meaning g t c =
    let p = err_from_is_err_and c.from_residual.result c.from_residual.ensures.1 in
    let whole : expr_trees_of c.args.parts.now ≡ part c.first-item.result (part c.second-item.result none) =
    pair c.args.parts.now c.first-item.result c.second-item.result (omega (arith, c.in-len2.len_at_least)) (omega (arith, c.in-len2.len_below)) c.first-item.is c.second-item.is in
    rw (p.1, p.2, whole)
    (stop-first_number (meaning_at c.args.here.now) (grows-at c.args.here.now) c.args.here.now.level (variables_of c.args.here.now.scope.now)
    c.first-item.result (part c.second-item.result none) c.in_err-first-in-len2.field-0.0 c.evaluate_number.new.meter
    c.args.meter.now.cost c.args.meter.now.deepest c.in_err-first-in-len2.ensures.meaning)

pub calculation::evaluate_pair-returns-in_err-second-in-len2-clause-meaning : goal.calculation::evaluate_pair-returns-in_err-second-in-len2-clause-meaning
calculation::evaluate_pair-returns-in_err-second-in-len2-clause-meaning g t c =
    let p = err_from_is_err_and c.from_residual-in_err-second-in-len2.result c.from_residual-in_err-second-in-len2.ensures.1 in
    let whole : expr_trees_of c.args.parts.now ≡ part c.first-item.result (part c.second-item.result none) =
    pair c.args.parts.now c.first-item.result c.second-item.result (omega (arith, c.in-len2.len_at_least)) (omega (arith, c.in-len2.len_below)) c.first-item.is c.second-item.is in
    rw (p.1, p.2, whole)
    (stop-second_number (meaning_at c.args.here.now) (grows-at c.args.here.now) c.args.here.now.level (variables_of c.args.here.now.scope.now)
    c.first-item.result c.second-item.result c.in_ok-first-in-len2.first c.in_err-second-in-len2.field-0.0 c.evaluate_number-in-len2.new.meter
    c.args.meter.now.cost c.args.meter.now.deepest c.evaluate_number.new.meter.cost c.evaluate_number.new.meter.deepest
    c.in_ok-first-in-len2.ensures.meaning c.in_err-second-in-len2.ensures.meaning)

pub calculation::evaluate_pair-returns-in_ok-second-in-len2-clause-meaning : goal.calculation::evaluate_pair-returns-in_ok-second-in-len2-clause-meaning
calculation::evaluate_pair-returns-in_ok-second-in-len2-clause-meaning g t c =
    let whole : expr_trees_of c.args.parts.now ≡ part c.first-item.result (part c.second-item.result none) =
    pair c.args.parts.now c.first-item.result c.second-item.result (omega (arith, c.in-len2.len_at_least)) (omega (arith, c.in-len2.len_below)) c.first-item.is c.second-item.is in
    rw (whole, c.both.ensures)
    (both-numbers (meaning_at c.args.here.now) c.args.here.now.level (variables_of c.args.here.now.scope.now)
    c.first-item.result c.second-item.result c.in_ok-first-in-len2.first c.in_ok-second-in-len2.second c.evaluate_number-in-len2.new.meter
    c.args.meter.now.cost c.args.meter.now.deepest c.evaluate_number.new.meter.cost c.evaluate_number.new.meter.deepest
    c.in_ok-first-in-len2.ensures.meaning c.in_ok-second-in-len2.ensures.meaning)

pub calculation::evaluate_arithmetic-returns-in_err-pair-clause-meaning : goal.calculation::evaluate_arithmetic-returns-in_err-pair-clause-meaning
calculation::evaluate_arithmetic-returns-in_err-pair-clause-meaning g t c =
    let p = err_from_is_err_and c.from_residual.result c.from_residual.ensures.1 in
    rw (p.1, p.2)
    (pair-stop int c.in_err-pair.field-0.0 c.evaluate_pair.new.meter
    (each (meaning_at c.args.here.now) c.args.here.now.level (variables_of c.args.here.now.scope.now) (expr_trees_of c.args.parts.now) []
    c.args.meter.now.cost c.args.meter.now.deepest)
    (arithmetic_of c.args.operator) c.in_err-pair.ensures.meaning)

pub calculation::evaluate_arithmetic-returns-clause-meaning : goal.calculation::evaluate_arithmetic-returns-clause-meaning
calculation::evaluate_arithmetic-returns-clause-meaning g t c =
    pair-done int c.calculate_pair.result c.evaluate_pair.new.meter
    (each (meaning_at c.args.here.now) c.args.here.now.level (variables_of c.args.here.now.scope.now) (expr_trees_of c.args.parts.now) []
    c.args.meter.now.cost c.args.meter.now.deepest)
    c.in_ok-pair.pair (arithmetic_of c.args.operator) (arithmetic_on c.args.operator) (arithmetic_pair c.args.operator)
    c.in_ok-pair.ensures.meaning c.calculate_pair.ensures

pub calculation::evaluate_comparison-returns-in_err-pair-clause-meaning : goal.calculation::evaluate_comparison-returns-in_err-pair-clause-meaning
calculation::evaluate_comparison-returns-in_err-pair-clause-meaning g t c =
    let p = err_from_is_err_and c.from_residual.result c.from_residual.ensures.1 in
    rw (p.1, p.2)
    (pair-stop bool c.in_err-pair.field-0.0 c.evaluate_pair.new.meter
    (each (meaning_at c.args.here.now) c.args.here.now.level (variables_of c.args.here.now.scope.now) (expr_trees_of c.args.parts.now) []
    c.args.meter.now.cost c.args.meter.now.deepest)
    (comparison_of c.args.operator) c.in_err-pair.ensures.meaning)

pub calculation::evaluate_comparison-returns-clause-meaning : goal.calculation::evaluate_comparison-returns-clause-meaning
calculation::evaluate_comparison-returns-clause-meaning g t c =
    pair-done bool c.compare_pair.result c.evaluate_pair.new.meter
    (each (meaning_at c.args.here.now) c.args.here.now.level (variables_of c.args.here.now.scope.now) (expr_trees_of c.args.parts.now) []
    c.args.meter.now.cost c.args.meter.now.deepest)
    c.in_ok-pair.pair (comparison_of c.args.operator) (λ p. as_answer (comparison_on c.args.operator p)) (comparison_pair c.args.operator)
    c.in_ok-pair.ensures.meaning (as_answer-comes c.compare_pair.result (comparison_on c.args.operator c.in_ok-pair.pair) c.compare_pair.ensures)

pub traversal::map_over-returns-in_err-value-clause-meaning : goal.traversal::map_over-returns-in_err-value-clause-meaning
traversal::map_over-returns-in_err-value-clause-meaning g t c =
    let p = err_from_is_err_and c.from_residual.result c.from_residual.ensures.1 in
    let at = c.loop-place.place in
    let rest = drop (suc at) c.args.list.now in
    let step : drop at c.args.list.now ≡ c.index-list-place.result ∷ rest =
    drop-cons c.args.list.now at c.index-list-place.result c.loop-place-test.true ∙ ap (λ (a : Value). a ∷ rest) (sym c.index-list-place.is) in
    rw (p.1, p.2, ← c.loop-place.invariant.meaning, step)
    (stop-map_behind (meaning_at c.args.here.now) (grows-at c.args.here.now) c.args.here.now.level (variables_of c.args.here.now.scope.now)
    c.args.name.now c.args.body.now (data_of c.index-list-place.result) (map data_of rest) (map data_of c.loop-place.values.items)
    c.in_err-value.field-0.0 c.evaluate.new.meter c.loop-place.meter.cost c.loop-place.meter.deepest c.in_err-value.ensures.meaning)

pub traversal::map_over-returns-then-size-ge-MAX_VALUE_SIZE-clause-meaning : goal.traversal::map_over-returns-then-size-ge-MAX_VALUE_SIZE-clause-meaning
traversal::map_over-returns-then-size-ge-MAX_VALUE_SIZE-clause-meaning g t c =
    let at = c.loop-place.place in
    let rest = drop (suc at) c.args.list.now in
    let step : drop at c.args.list.now ≡ c.index-list-place.result ∷ rest =
    drop-cons c.args.list.now at c.index-list-place.result c.loop-place-test.true ∙ ap (λ (a : Value). a ∷ rest) (sym c.index-list-place.is) in
    let more : at + 1 ≡ suc at = omega arith in
    let past : 65536 ≤ size_of_items (items_of (map data_of c.loop-place.values.items)) + size_of (data_of c.in_ok-value.value) =
    omega (arith, c.if-size-ge-MAX_VALUE_SIZE.true, c.saturating_add-size.ensures, c.size.ensures, c.loop-place.invariant.sized) in
    let passed = rw (more, rest_whole c.args.list.now (suc at)) at c.pass_limit.ensures.meaning in
    rw (
      ← c.loop-place.invariant.meaning,
      step,
      pass-map_behind (meaning_at c.args.here.now) c.args.here.now.level (variables_of c.args.here.now.scope.now)
          c.args.name.now c.args.body.now (data_of c.index-list-place.result) (map data_of rest) (map data_of c.loop-place.values.items)
          (data_of c.in_ok-value.value) c.loop-place.meter.cost c.loop-place.meter.deepest c.evaluate.new.meter.cost c.evaluate.new.meter.deepest c.in_ok-value.ensures.meaning past,
    )
    passed

pub traversal::map_over-returns-in_err-add_part-clause-meaning : goal.traversal::map_over-returns-in_err-add_part-clause-meaning
traversal::map_over-returns-in_err-add_part-clause-meaning g t c =
    let p = err_from_is_err_and c.from_residual-in_err-add_part.result c.from_residual-in_err-add_part.ensures.1 in
    let at = c.loop-place.place in
    let rest = drop (suc at) c.args.list.now in
    let step : drop at c.args.list.now ≡ c.index-list-place.result ∷ rest =
    drop-cons c.args.list.now at c.index-list-place.result c.loop-place-test.true ∙ ap (λ (a : Value). a ∷ rest) (sym c.index-list-place.is) in
    rw (p.1, p.2, ← c.loop-place.invariant.meaning, step)
    (full-map_behind (meaning_at c.args.here.now) (grows-at c.args.here.now) c.args.here.now.level (variables_of c.args.here.now.scope.now)
    c.args.name.now c.args.body.now (data_of c.index-list-place.result) (map data_of rest) (map data_of c.loop-place.values.items)
    (data_of c.in_ok-value.value) c.loop-place.meter.cost c.loop-place.meter.deepest c.evaluate.new.meter.cost c.evaluate.new.meter.deepest
    c.in_ok-value.ensures.meaning)

pub traversal::map_over-loop-place-preserved : goal.traversal::map_over-loop-place-preserved
traversal::map_over-loop-place-preserved g t c =
    let at = c.loop-place.place in
    let rest = drop (suc at) c.args.list.now in
    let step : drop at c.args.list.now ≡ c.index-list-place.result ∷ rest =
    drop-cons c.args.list.now at c.index-list-place.result c.loop-place-test.true ∙ ap (λ (a : Value). a ∷ rest) (sym c.index-list-place.is) in
    let more : at + 1 ≡ suc at = omega arith in
    let next = next-map_behind (meaning_at c.args.here.now) c.args.here.now.level (variables_of c.args.here.now.scope.now)
    c.args.name.now c.args.body.now (data_of c.index-list-place.result) (map data_of rest) (map data_of c.loop-place.values.items)
    (data_of c.in_ok-value.value) c.loop-place.meter.cost c.loop-place.meter.deepest c.evaluate.new.meter.cost c.evaluate.new.meter.deepest c.in_ok-value.ensures.meaning in
    let here = ap (λ (ws : List Value). seen_from c.args.here.now map_behind c.args.name.now c.args.body.now (map data_of ws) (map data_of c.loop-place.values.items) c.loop-place.meter.cost c.loop-place.meter.deepest) step in
    record {
      meaning = rw (more, c.in_ok-add_part.ensures) (sym next ∙ sym here ∙ c.loop-place.invariant.meaning);
      ledger = omega (arith, c.loop-place.invariant.ledger, c.evaluate.ensures.ledger);
      sized = rw c.in_ok-add_part.ensures (omega (
        arith,
        more_size (map data_of c.loop-place.values.items) (data_of c.in_ok-value.value),
        c.if-size-ge-MAX_VALUE_SIZE.false,
        c.saturating_add-size.ensures,
        c.size.ensures,
        c.loop-place.invariant.sized,
      ));
      small = omega (arith, c.if-size-ge-MAX_VALUE_SIZE.false);
    }

pub traversal::pass_limit-returns-in_err-_unkept-clause-meaning : goal.traversal::pass_limit-returns-in_err-_unkept-clause-meaning
traversal::pass_limit-returns-in_err-_unkept-clause-meaning g t c =
    let p = err_from_is_err_and c.from_residual.result c.from_residual.ensures.1 in
    let at = c.loop-item.item-index in
    let rest = drop (suc at) c.args.list.now in
    let step : drop at c.args.list.now ≡ c.item-item.result ∷ rest =
    drop-cons c.args.list.now at c.item-item.result c.loop-item-test.true ∙ ap (λ (a : Value). a ∷ rest) (sym c.item-item.is) in
    rw (p.1, p.2, ← c.loop-item.invariant.meaning, step)
    (stop-past (meaning_at c.args.here.now) (grows-at c.args.here.now) c.args.here.now.level (variables_of c.args.here.now.scope.now)
    c.args.name.now c.args.body.now (data_of c.item-item.result) (map data_of rest)
    c.in_err-_unkept.field-0.0 c.evaluate.new.meter c.loop-item.meter.cost c.loop-item.meter.deepest c.in_err-_unkept.ensures.meaning)
