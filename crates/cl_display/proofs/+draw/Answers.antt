use Rattle.std.proofs.Common.{◌≡◌, ◌∙◌, ◌∷◌, suc, drop, drop-cons, map, ap, sym}
use Rattle.std.proofs.lemmas.Result.{err_from_is_err_and}
use Rattle.cl_value.specs.Value.{data_of}
use Rattle.cl_value.specs.declared.Value.{Value}
use Rattle.cl_syntax.specs.Expr.{bindings_of}
use Rattle.cl_syntax.specs.ShapeTree as shape
use Rattle.cl_syntax.specs.ShapeTree.{shape_trees_of}
use Rattle.cl_syntax.specs.Shape.{shape_tree_of}
use Rattle.cl_syntax.specs.ExprTree.{expr_trees_of}
use Rattle.cl_syntax.specs.declared.display_forms.Shape.{Shape}
use Rattle.cl_eval.specs.Scope.{variables_of}
use Rattle.cl_eval.specs.Standpoint.{meaning_at}
use Rattle.cl_display.specs.Drawings.{drawing_of}
use Rattle.cl_display.specs.Fresh.{presents_body}
use Rattle.cl_display.specs.Settings.{indent, leave_room, restore_ink, restore_margin, set_ink}
use Rattle.cl_display.specs.declared.parts.Part.{Part}
use Rattle.cl_display.specs.Place.{allowance_at, bodies_at, draws_at, scene_at, texts_at}
use Rattle.cl_display.proofs.FormLemmas.{draws-entered, grows-at, stop-call, stop-choice, stop-dolist, stop-draws_in, stop-draws_to}
use Rattle.cl_display.proofs.FormLemmas.{grows-presents_body, grows-texts_at, stop-as_presentation, stop-figure, stop-present}
use Rattle.cl_display.proofs.PresentationLemmas.{ends-figure, member-checked, stop-member, stop-opened}
use Rattle.cl_display.proofs.FormLemmas.{stop-for_each, stop-in_order, stop-indent, stop-ink, stop-set, stop-when}
use Rattle.std.proofs.Common.{arith, rules, Fits, w64}
use Rattle.cl_display.specs.Fresh.{Allowance}
use Rattle.cl_display.specs.Updates.{enter_body}
use Rattle.cl_display.proofs.BodyLemmas.{body-around, body-kept, body-reach, body-weight}
use Rattle.cl_eval.proofs.CostLemmas.{grows-means}
use Rattle.cl_display.proofs.UpdateLemmas.{stop-id}
use Rattle.cl_display.proofs.+draw.Goals as goal

pub forms::draw-returns-clause-meaning : goal.forms::draw-returns-clause-meaning
forms::draw-returns-clause-meaning g t c =
    rw (draws-entered c.args.place.now.here.left (allowance_at c.args.place.now) (scene_at g.T.Types.holds g.T.Types.presents c.args.place.now)
    c.args.place.now.here.level (variables_of c.args.place.now.here.scope.now) c.args.form.now
    (drawing_of c.args.drawing.now)
    c.args.meter.now.cost c.args.meter.now.deepest _ _ c.in_ok-enter.ensures.meaning)
    c.draw_parts.ensures.meaning

pub forms::draw_all-returns-in_err-draw-clause-meaning : goal.forms::draw_all-returns-in_err-draw-clause-meaning
forms::draw_all-returns-in_err-draw-clause-meaning g t c =
    let p = err_from_is_err_and c.from_residual.result c.from_residual.ensures.1 in
    let at = c.loop-form.form-index in
    let rest = drop (suc at) c.args.forms.now in
    let step : drop at c.args.forms.now ≡ c.form-item.result ∷ rest =
    drop-cons c.args.forms.now at c.form-item.result c.loop-form-test.true ∙ ap (λ (a : Shape). a ∷ rest) (sym c.form-item.is) in
    rw (p.1, p.2, ← c.loop-form.invariant.meaning, step)
    (stop-in_order (draws_at g.T.Types.holds g.T.Types.presents c.args.place.now) (grows-at g.T.Types.holds g.T.Types.presents c.args.place.now) c.args.place.now.here.level
    (variables_of c.args.place.now.here.scope.now)
    c.form-item.result (shape_trees_of rest) (drawing_of c.loop-form.drawing) (drawing_of c.draw.new.drawing)
    c.in_err-draw.field-0.0 c.draw.new.meter c.loop-form.meter.cost c.loop-form.meter.deepest c.in_err-draw.ensures.meaning)

pub forms::draw_each-returns-in_err-draw_all-clause-meaning : goal.forms::draw_each-returns-in_err-draw_all-clause-meaning
forms::draw_each-returns-in_err-draw_all-clause-meaning g t c =
    let p = err_from_is_err_and c.from_residual.result c.from_residual.ensures.1 in
    let at = c.loop-item.item-index in
    let rest = drop (suc at) c.args.list.now in
    let step : drop at c.args.list.now ≡ c.item-item.result ∷ rest =
    drop-cons c.args.list.now at c.item-item.result c.loop-item-test.true ∙ ap (λ (a : Value). a ∷ rest) (sym c.item-item.is) in
    rw (p.1, p.2, ← c.loop-item.invariant.meaning, step)
    (stop-for_each (draws_at g.T.Types.holds g.T.Types.presents c.args.place.now) (grows-at g.T.Types.holds g.T.Types.presents c.args.place.now) c.args.place.now.here.level
    (variables_of c.args.place.now.here.scope.now)
    c.args.name.now (shape_trees_of c.args.body.now) (data_of c.item-item.result) (map data_of rest) (drawing_of c.loop-item.drawing)
    (drawing_of c.draw_all.new.drawing)
    c.in_err-draw_all.field-0.0 c.draw_all.new.meter c.loop-item.meter.cost c.loop-item.meter.deepest c.in_err-draw_all.ensures.meaning)

pub forms::draw_in-returns-in_err-frame-clause-meaning : goal.forms::draw_in-returns-in_err-frame-clause-meaning
forms::draw_in-returns-in_err-frame-clause-meaning g t c =
    let p = err_from_is_err_and c.from_residual.result c.from_residual.ensures.1 in
    rw (p.1, p.2)
    (stop-draws_in (meaning_at c.args.place.now.here) (draws_at g.T.Types.holds g.T.Types.presents c.args.place.now) (grows-at g.T.Types.holds g.T.Types.presents c.args.place.now) c.args.place.now.here.level
    (bindings_of c.args.bindings.now) (shape_trees_of c.args.body.now) (variables_of c.args.place.now.here.scope.now)
    (variables_of c.args.place.now.here.scope.now) (drawing_of c.args.drawing.now) (drawing_of c.args.drawing.now)
    c.in_err-frame.field-0.0 c.evaluate_bindings.new.meter c.args.meter.now.cost c.args.meter.now.deepest c.in_err-frame.ensures.meaning)

pub forms::draw_parts-returns-in_err-evaluate_test-in-If-clause-meaning : goal.forms::draw_parts-returns-in_err-evaluate_test-in-If-clause-meaning
forms::draw_parts-returns-in_err-evaluate_test-in-If-clause-meaning g t c =
    let p = err_from_is_err_and c.from_residual-in_err-evaluate_test-in-If.result c.from_residual-in_err-evaluate_test-in-If.ensures.1 in
    let whole : c.args.form.now ≡ shape.If c.in-If.choice.value.test c.in-If.choice.value.then c.in-If.choice.value.other =
    sym c.form.view_is ∙ ap shape_tree_of c.in-If.is in
    let stop = rw c.deref-in-If.ensures at c.in_err-evaluate_test-in-If.ensures.meaning in
    rw (p.1, p.2, whole)
    (stop-choice (scene_at g.T.Types.holds g.T.Types.presents c.args.place.now) (allowance_at c.args.place.now) (meaning_at c.args.place.now.here)
    (texts_at g.T.Types.holds g.T.Types.presents c.args.place.now) (bodies_at g.T.Types.holds g.T.Types.presents c.args.place.now) (draws_at g.T.Types.holds g.T.Types.presents c.args.place.now) (grows-at g.T.Types.holds g.T.Types.presents c.args.place.now)
    c.args.place.now.here.level (variables_of c.args.place.now.here.scope.now) c.in-If.choice.value.test c.in-If.choice.value.then
    c.in-If.choice.value.other
    (drawing_of c.args.drawing.now) (drawing_of c.args.drawing.now)
    c.in_err-evaluate_test-in-If.field-0.0 c.evaluate_test.new.meter c.args.meter.now.cost c.args.meter.now.deepest stop)

pub forms::draw_parts-returns-in_err-evaluate_test-in-When-clause-meaning : goal.forms::draw_parts-returns-in_err-evaluate_test-in-When-clause-meaning
forms::draw_parts-returns-in_err-evaluate_test-in-When-clause-meaning g t c =
    let p = err_from_is_err_and c.from_residual-in_err-evaluate_test-in-When.result
    c.from_residual-in_err-evaluate_test-in-When.ensures.1 in
    let whole : c.args.form.now ≡ shape.When c.in-When.test (shape_trees_of c.in-When.body) =
    sym c.form.view_is ∙ ap shape_tree_of c.in-When.is in
    rw (p.1, p.2, whole)
    (stop-when (scene_at g.T.Types.holds g.T.Types.presents c.args.place.now) (allowance_at c.args.place.now) (meaning_at c.args.place.now.here)
    (texts_at g.T.Types.holds g.T.Types.presents c.args.place.now) (bodies_at g.T.Types.holds g.T.Types.presents c.args.place.now) (draws_at g.T.Types.holds g.T.Types.presents c.args.place.now) (grows-at g.T.Types.holds g.T.Types.presents c.args.place.now)
    c.args.place.now.here.level (variables_of c.args.place.now.here.scope.now) c.in-When.test (shape_trees_of c.in-When.body)
    (drawing_of c.args.drawing.now)
    (drawing_of c.args.drawing.now)
    c.in_err-evaluate_test-in-When.field-0.0 c.evaluate_test-in-When.new.meter c.args.meter.now.cost c.args.meter.now.deepest
    c.in_err-evaluate_test-in-When.ensures.meaning)

pub forms::draw_parts-returns-in_err-list-in-Dolist-clause-meaning : goal.forms::draw_parts-returns-in_err-list-in-Dolist-clause-meaning
forms::draw_parts-returns-in_err-list-in-Dolist-clause-meaning g t c =
    let p = err_from_is_err_and c.from_residual-in_err-list-in-Dolist.result c.from_residual-in_err-list-in-Dolist.ensures.1 in
    let whole : c.args.form.now ≡ shape.Dolist c.in-Dolist.name c.in-Dolist.list (shape_trees_of c.in-Dolist.body) =
    sym c.form.view_is ∙ ap shape_tree_of c.in-Dolist.is in
    rw (p.1, p.2, whole)
    (stop-dolist (scene_at g.T.Types.holds g.T.Types.presents c.args.place.now) (allowance_at c.args.place.now) (meaning_at c.args.place.now.here)
    (texts_at g.T.Types.holds g.T.Types.presents c.args.place.now) (bodies_at g.T.Types.holds g.T.Types.presents c.args.place.now) (draws_at g.T.Types.holds g.T.Types.presents c.args.place.now) (grows-at g.T.Types.holds g.T.Types.presents c.args.place.now)
    c.args.place.now.here.level (variables_of c.args.place.now.here.scope.now) c.in-Dolist.name c.in-Dolist.list
    (shape_trees_of c.in-Dolist.body)
    (drawing_of c.args.drawing.now) (drawing_of c.args.drawing.now)
    c.in_err-list-in-Dolist.field-0.0 c.evaluate_list.new.meter c.args.meter.now.cost c.args.meter.now.deepest
    c.in_err-list-in-Dolist.ensures.meaning)

pub forms::draw_parts-returns-in_err-values-in-Call-clause-meaning : goal.forms::draw_parts-returns-in_err-values-in-Call-clause-meaning
forms::draw_parts-returns-in_err-values-in-Call-clause-meaning g t c =
    let p = err_from_is_err_and c.from_residual-in_err-values-in-Call.result c.from_residual-in_err-values-in-Call.ensures.1 in
    let whole : c.args.form.now ≡ shape.Call c.in-Call.name (expr_trees_of c.in-Call.parts.items) =
    sym c.form.view_is ∙ ap shape_tree_of c.in-Call.is in
    rw (p.1, p.2, whole)
    (stop-call (scene_at g.T.Types.holds g.T.Types.presents c.args.place.now) (allowance_at c.args.place.now) (meaning_at c.args.place.now.here)
    (texts_at g.T.Types.holds g.T.Types.presents c.args.place.now) (bodies_at g.T.Types.holds g.T.Types.presents c.args.place.now) (draws_at g.T.Types.holds g.T.Types.presents c.args.place.now) (grows-at g.T.Types.holds g.T.Types.presents c.args.place.now)
    c.args.place.now.here.level (variables_of c.args.place.now.here.scope.now) c.in-Call.name (expr_trees_of c.in-Call.parts.items)
    (drawing_of c.args.drawing.now) (drawing_of c.args.drawing.now)
    c.in_err-values-in-Call.field-0.0 c.evaluate_each-in-Call.new.meter c.args.meter.now.cost c.args.meter.now.deepest (rw
    c.deref-in-Call.ensures.value at c.in_err-values-in-Call.ensures.meaning))

pub forms::draw_parts-returns-in_err-values-in-Draw-clause-meaning : goal.forms::draw_parts-returns-in_err-values-in-Draw-clause-meaning
forms::draw_parts-returns-in_err-values-in-Draw-clause-meaning g t c =
    let p = err_from_is_err_and c.from_residual-in_err-values-in-Draw.result c.from_residual-in_err-values-in-Draw.ensures.1 in
    let whole : c.args.form.now ≡ shape.Draw c.in-Draw.figure (expr_trees_of c.in-Draw.parts.items) =
    sym c.form.view_is ∙ ap shape_tree_of c.in-Draw.is in
    rw (p.1, p.2, whole)
    (stop-figure (scene_at g.T.Types.holds g.T.Types.presents c.args.place.now) (allowance_at c.args.place.now) (meaning_at c.args.place.now.here)
    (texts_at g.T.Types.holds g.T.Types.presents c.args.place.now) (bodies_at g.T.Types.holds g.T.Types.presents c.args.place.now) (draws_at g.T.Types.holds g.T.Types.presents c.args.place.now) c.args.place.now.here.level
    (variables_of c.args.place.now.here.scope.now) c.in-Draw.figure (expr_trees_of c.in-Draw.parts.items) (drawing_of c.args.drawing.now)
    (drawing_of c.args.drawing.now)
    c.in_err-values-in-Draw.field-0.0 c.evaluate_each.new.meter c.args.meter.now.cost c.args.meter.now.deepest (rw c.deref.ensures.value at
    c.in_err-values-in-Draw.ensures.meaning))

pub forms::draw_parts-returns-in_err-number-in-Indent-clause-meaning : goal.forms::draw_parts-returns-in_err-number-in-Indent-clause-meaning
forms::draw_parts-returns-in_err-number-in-Indent-clause-meaning g t c =
    let p = err_from_is_err_and c.from_residual-in_err-number-in-Indent.result c.from_residual-in_err-number-in-Indent.ensures.1 in
    let whole : c.args.form.now ≡ shape.Indent c.in-Indent.number (shape_trees_of c.in-Indent.body) =
    sym c.form.view_is ∙ ap shape_tree_of c.in-Indent.is in
    rw (p.1, p.2, whole)
    (stop-indent (scene_at g.T.Types.holds g.T.Types.presents c.args.place.now) (allowance_at c.args.place.now) (meaning_at c.args.place.now.here)
    (texts_at g.T.Types.holds g.T.Types.presents c.args.place.now) (bodies_at g.T.Types.holds g.T.Types.presents c.args.place.now) (draws_at g.T.Types.holds g.T.Types.presents c.args.place.now) (grows-at g.T.Types.holds g.T.Types.presents c.args.place.now)
    c.args.place.now.here.level (variables_of c.args.place.now.here.scope.now) c.in-Indent.number (shape_trees_of c.in-Indent.body)
    (drawing_of c.args.drawing.now) (drawing_of c.args.drawing.now)
    c.in_err-number-in-Indent.field-0.0 c.evaluate-in-Indent.new.meter c.args.meter.now.cost c.args.meter.now.deepest
    c.in_err-number-in-Indent.ensures.meaning)

pub forms::draw_parts-returns-in_err-number-in-Ink-clause-meaning : goal.forms::draw_parts-returns-in_err-number-in-Ink-clause-meaning
forms::draw_parts-returns-in_err-number-in-Ink-clause-meaning g t c =
    let p = err_from_is_err_and c.from_residual-in_err-number-in-Ink.result c.from_residual-in_err-number-in-Ink.ensures.1 in
    let whole : c.args.form.now ≡ shape.Ink c.in-Ink.number (shape_trees_of c.in-Ink.body) =
    sym c.form.view_is ∙ ap shape_tree_of c.in-Ink.is in
    rw (p.1, p.2, whole)
    (stop-ink (scene_at g.T.Types.holds g.T.Types.presents c.args.place.now) (allowance_at c.args.place.now) (meaning_at c.args.place.now.here)
    (texts_at g.T.Types.holds g.T.Types.presents c.args.place.now) (bodies_at g.T.Types.holds g.T.Types.presents c.args.place.now) (draws_at g.T.Types.holds g.T.Types.presents c.args.place.now) (grows-at g.T.Types.holds g.T.Types.presents c.args.place.now)
    c.args.place.now.here.level (variables_of c.args.place.now.here.scope.now) c.in-Ink.number (shape_trees_of c.in-Ink.body)
    (drawing_of c.args.drawing.now)
    (drawing_of c.args.drawing.now)
    c.in_err-number-in-Ink.field-0.0 c.evaluate-in-Ink.new.meter c.args.meter.now.cost c.args.meter.now.deepest
    c.in_err-number-in-Ink.ensures.meaning)

pub forms::draw_indented-returns-in_err-indent-clause-meaning : goal.forms::draw_indented-returns-in_err-indent-clause-meaning
forms::draw_indented-returns-in_err-indent-clause-meaning g t c =
    let p = err_from_is_err_and c.from_residual.result c.from_residual.ensures.1 in
    rw (p.1, p.2)
    (stop-set (draws_at g.T.Types.holds g.T.Types.presents c.args.place.now) (grows-at g.T.Types.holds g.T.Types.presents c.args.place.now) c.args.place.now.here.level
    (variables_of c.args.place.now.here.scope.now)
    (shape_trees_of c.args.body.now) (indent (data_of c.args.number.now) (drawing_of c.args.drawing.now))
    (restore_margin (drawing_of c.args.drawing.now).ambient) (drawing_of c.indent.new.self) (drawing_of c.indent.new.self)
    c.in_err-indent.field-0.0 c.args.meter.now c.in_err-indent.ensures)

pub forms::draw_indented-returns-in_err-draw_all-clause-meaning : goal.forms::draw_indented-returns-in_err-draw_all-clause-meaning
forms::draw_indented-returns-in_err-draw_all-clause-meaning g t c =
    let p = err_from_is_err_and c.from_residual-in_err-draw_all.result c.from_residual-in_err-draw_all.ensures.1 in
    rw (p.1, p.2, c.in_ok-indent.ensures)
    (stop-draws_to (draws_at g.T.Types.holds g.T.Types.presents c.args.place.now) c.args.place.now.here.level (variables_of c.args.place.now.here.scope.now)
    (shape_trees_of c.args.body.now) (drawing_of c.indent.new.self) (restore_margin (drawing_of c.args.drawing.now).ambient)
    (drawing_of c.draw_all.new.drawing)
    c.in_err-draw_all.field-0.0 c.draw_all.new.meter c.args.meter.now.cost c.args.meter.now.deepest c.in_err-draw_all.ensures.meaning)

pub forms::draw_in_ink-returns-in_err-set_ink-clause-meaning : goal.forms::draw_in_ink-returns-in_err-set_ink-clause-meaning
forms::draw_in_ink-returns-in_err-set_ink-clause-meaning g t c =
    let p = err_from_is_err_and c.from_residual.result c.from_residual.ensures.1 in
    rw (p.1, p.2)
    (stop-set (draws_at g.T.Types.holds g.T.Types.presents c.args.place.now) (grows-at g.T.Types.holds g.T.Types.presents c.args.place.now) c.args.place.now.here.level
    (variables_of c.args.place.now.here.scope.now)
    (shape_trees_of c.args.body.now) (set_ink (data_of c.args.number.now) (drawing_of c.args.drawing.now))
    (restore_ink (drawing_of c.args.drawing.now).ambient) (drawing_of c.set_ink.new.self) (drawing_of c.set_ink.new.self)
    c.in_err-set_ink.field-0.0 c.args.meter.now c.in_err-set_ink.ensures)

pub forms::draw_in_ink-returns-in_err-draw_all-clause-meaning : goal.forms::draw_in_ink-returns-in_err-draw_all-clause-meaning
forms::draw_in_ink-returns-in_err-draw_all-clause-meaning g t c =
    let p = err_from_is_err_and c.from_residual-in_err-draw_all.result c.from_residual-in_err-draw_all.ensures.1 in
    rw (p.1, p.2, c.in_ok-set_ink.ensures)
    (stop-draws_to (draws_at g.T.Types.holds g.T.Types.presents c.args.place.now) c.args.place.now.here.level (variables_of c.args.place.now.here.scope.now)
    (shape_trees_of c.args.body.now) (drawing_of c.set_ink.new.self) (restore_ink (drawing_of c.args.drawing.now).ambient)
    (drawing_of c.draw_all.new.drawing)
    c.in_err-draw_all.field-0.0 c.draw_all.new.meter c.args.meter.now.cost c.args.meter.now.deepest c.in_err-draw_all.ensures.meaning)

pub forms::draw_in_room-returns-in_err-draw_all-clause-meaning : goal.forms::draw_in_room-returns-in_err-draw_all-clause-meaning
forms::draw_in_room-returns-in_err-draw_all-clause-meaning g t c =
    let p = err_from_is_err_and c.from_residual.result c.from_residual.ensures.1 in
    rw (p.1, p.2, ← c.enter_room-outer.ensures.inside)
    (stop-draws_to (draws_at g.T.Types.holds g.T.Types.presents c.args.place.now) c.args.place.now.here.level (variables_of c.args.place.now.here.scope.now)
    (shape_trees_of c.args.body.now) (drawing_of c.enter_room-outer.new.self)
    (leave_room (drawing_of c.args.drawing.now).ambient (drawing_of c.args.drawing.now).part)
    (drawing_of c.draw_all.new.drawing)
    c.in_err-draw_all.field-0.0 c.draw_all.new.meter c.args.meter.now.cost c.args.meter.now.deepest c.in_err-draw_all.ensures.meaning)

pub forms::draw_parts-returns-in_err-object-in-Present-clause-meaning : goal.forms::draw_parts-returns-in_err-object-in-Present-clause-meaning
forms::draw_parts-returns-in_err-object-in-Present-clause-meaning g t c =
    let p = err_from_is_err_and c.from_residual-in_err-object-in-Present.result c.from_residual-in_err-object-in-Present.ensures.1 in
    let whole : c.args.form.now ≡ shape.Present c.in-Present.object c.in-Present.spec.value =
    sym c.form.view_is ∙ ap shape_tree_of c.in-Present.is in
    rw (p.1, p.2, whole)
    (stop-present (scene_at g.T.Types.holds g.T.Types.presents c.args.place.now) (allowance_at c.args.place.now) (meaning_at c.args.place.now.here)
    (texts_at g.T.Types.holds g.T.Types.presents c.args.place.now) (bodies_at g.T.Types.holds g.T.Types.presents c.args.place.now) (grows-texts_at g.T.Types.holds g.T.Types.presents c.args.place.now)
    (draws_at g.T.Types.holds g.T.Types.presents c.args.place.now) c.args.place.now.here.level (variables_of c.args.place.now.here.scope.now)
    c.in-Present.object c.in-Present.spec.value (drawing_of c.args.drawing.now) (drawing_of c.args.drawing.now)
    c.in_err-object-in-Present.field-0.0 c.evaluate-in-Present.new.meter c.args.meter.now.cost c.args.meter.now.deepest
    c.in_err-object-in-Present.ensures.meaning)

pub forms::draw_parts-returns-in_err-object-in-AsPresentation-clause-meaning : goal.forms::draw_parts-returns-in_err-object-in-AsPresentation-clause-meaning
forms::draw_parts-returns-in_err-object-in-AsPresentation-clause-meaning g t c =
    let p = err_from_is_err_and c.from_residual-in_err-object-in-AsPresentation.result
    c.from_residual-in_err-object-in-AsPresentation.ensures.1 in
    let whole : c.args.form.now ≡ shape.AsPresentation c.in-AsPresentation.presentation (shape_trees_of c.in-AsPresentation.body) =
    sym c.form.view_is ∙ ap shape_tree_of c.in-AsPresentation.is in
    rw (p.1, p.2, whole)
    (stop-as_presentation (scene_at g.T.Types.holds g.T.Types.presents c.args.place.now) (allowance_at c.args.place.now)
    (meaning_at c.args.place.now.here) (texts_at g.T.Types.holds g.T.Types.presents c.args.place.now) (bodies_at g.T.Types.holds g.T.Types.presents c.args.place.now)
    (draws_at g.T.Types.holds g.T.Types.presents c.args.place.now) (grows-at g.T.Types.holds g.T.Types.presents c.args.place.now)
    c.args.place.now.here.level (variables_of c.args.place.now.here.scope.now) c.in-AsPresentation.presentation
    (shape_trees_of c.in-AsPresentation.body) (drawing_of c.args.drawing.now) (drawing_of c.args.drawing.now)
    c.in_err-object-in-AsPresentation.field-0.0 c.evaluate-in-AsPresentation.new.meter c.args.meter.now.cost c.args.meter.now.deepest
    (rw c.object.ensures at c.in_err-object-in-AsPresentation.ensures.meaning))

pub forms::draw_parts-returns-in_ok-values-in-Draw-clause-meaning : goal.forms::draw_parts-returns-in_ok-values-in-Draw-clause-meaning
forms::draw_parts-returns-in_ok-values-in-Draw-clause-meaning g t c =
    let whole : c.args.form.now ≡ shape.Draw c.in-Draw.figure (expr_trees_of c.in-Draw.parts.items) =
    sym c.form.view_is ∙ ap shape_tree_of c.in-Draw.is in
    rw whole
    (ends-figure (scene_at g.T.Types.holds g.T.Types.presents c.args.place.now) (allowance_at c.args.place.now)
    (meaning_at c.args.place.now.here) (texts_at g.T.Types.holds g.T.Types.presents c.args.place.now) (bodies_at g.T.Types.holds g.T.Types.presents c.args.place.now)
    (draws_at g.T.Types.holds g.T.Types.presents c.args.place.now) c.args.place.now.here.level (variables_of c.args.place.now.here.scope.now)
    c.in-Draw.figure (expr_trees_of c.in-Draw.parts.items) (drawing_of c.args.drawing.now) (drawing_of c.figure.new.self)
    (map data_of c.in_ok-values-in-Draw.values.items) c.figure.result c.evaluate_each.new.meter c.args.meter.now.cost c.args.meter.now.deepest
    (rw c.deref.ensures.value at c.in_ok-values-in-Draw.ensures.meaning) (rw c.as_slice.ensures.value at c.figure.ensures))

pub forms::draw_presented-returns-in_err-check_member-clause-meaning : goal.forms::draw_presented-returns-in_err-check_member-clause-meaning
forms::draw_presented-returns-in_err-check_member-clause-meaning g t c =
    let p = err_from_is_err_and c.from_residual.result c.from_residual.ensures.1 in
    let holds = g.T.Types.holds c.args.place.now.types.now in
    let go = draws_at g.T.Types.holds g.T.Types.presents c.args.place.now in
    rw (p.1, p.2)
    (stop-member holds c.args.presentation.now.spec (data_of c.args.object)
    (presents_body c.args.place.now.max_weight go c.args.place.now.here.level (variables_of c.args.place.now.here.scope.now)
    c.args.presentation.now (shape_trees_of c.args.body.now) (drawing_of c.args.drawing.now) (data_of c.args.object))
    (grows-presents_body c.args.place.now.max_weight go (grows-at g.T.Types.holds g.T.Types.presents c.args.place.now)
    c.args.place.now.here.level (variables_of c.args.place.now.here.scope.now) c.args.presentation.now (shape_trees_of c.args.body.now)
    (drawing_of c.args.drawing.now) (data_of c.args.object))
    (drawing_of c.args.drawing.now) c.in_err-check_member.field-0.0 c.args.meter.now
    (rw (c.deref.ensures, c.spec.ensures) at c.in_err-check_member.ensures))

pub forms::draw_presented-returns-in_err-outer-clause-meaning : goal.forms::draw_presented-returns-in_err-outer-clause-meaning
forms::draw_presented-returns-in_err-outer-clause-meaning g t c =
    let p = err_from_is_err_and c.from_residual-in_err-outer.result c.from_residual-in_err-outer.ensures.1 in
    let holds = g.T.Types.holds c.args.place.now.types.now in
    rw (p.1, p.2)
    (stop-opened Part holds c.args.place.now.max_weight (draws_at g.T.Types.holds g.T.Types.presents c.args.place.now)
    (grows-at g.T.Types.holds g.T.Types.presents c.args.place.now) c.args.place.now.here.level
    (variables_of c.args.place.now.here.scope.now) c.args.presentation.now (shape_trees_of c.args.body.now) (data_of c.args.object)
    (drawing_of c.args.drawing.now) (drawing_of c.enter_presentation.new.self) (drawing_of c.enter_presentation.new.self)
    c.in_err-outer.field-0.0 c.args.meter.now
    (member-checked (holds (data_of c.args.object) c.args.presentation.now.spec) c.in_ok-check_member.field-0
    (rw (c.deref.ensures, c.spec.ensures) at c.in_ok-check_member.ensures))
    c.in_err-outer.ensures.inside)

-- no more than what is left of the budget is spent in a body
pub update_forms::draw_keyed-overflow_add-meter : goal.update_forms::draw_keyed-overflow_add-meter
update_forms::draw_keyed-overflow_add-meter g t c =
    let allowed : Allowance = record { budget = c.saturating_sub.result; weight = c.saturating_sub-2.result } in
    let types = c.args.place.now.types.now in
    let drawn = rw (c.enter_body-inner.ensures, c.new-own.ensures.cost, c.new-own.ensures.deepest) at c.draw_all-drawn.ensures.meaning in
    let paid = body-kept (g.T.Types.app types) (scene_at g.T.Types.holds g.T.Types.presents c.args.place.now) (g.met.T.Types.are_texts types)
    c.args.place.now.here.left allowed (variables_of c.args.place.now.here.scope.now) (shape_trees_of c.args.body.now)
    (enter_body (drawing_of c.enter_update.new.self)) (drawing_of c.draw_all-drawn.new.drawing) c.draw_all-drawn.result c.draw_all-drawn.new.meter drawn in
    let budget : Fits w64 c.args.place.now.here.context.now.budget = search rules in
    let cost : Fits w64 c.args.meter.now.cost = search rules in
    omega (arith, paid, c.saturating_sub.ensures, budget, cost)

-- no deeper than the levels that are left
pub update_forms::draw_keyed-overflow_add-place : goal.update_forms::draw_keyed-overflow_add-place
update_forms::draw_keyed-overflow_add-place g t c =
    let allowed : Allowance = record { budget = c.saturating_sub.result; weight = c.saturating_sub-2.result } in
    let types = c.args.place.now.types.now in
    let drawn = rw (c.enter_body-inner.ensures, c.new-own.ensures.cost, c.new-own.ensures.deepest) at c.in_ok-drawn.ensures.meaning in
    let below = body-reach (g.T.Types.app types) (scene_at g.T.Types.holds g.T.Types.presents c.args.place.now) (g.met.T.Types.are_texts types)
    c.args.place.now.here.left allowed (variables_of c.args.place.now.here.scope.now) (shape_trees_of c.args.body.now)
    (enter_body (drawing_of c.enter_update.new.self)) (drawing_of c.draw_all-drawn.new.drawing) c.draw_all-drawn.new.meter.cost
    c.draw_all-drawn.new.meter.deepest drawn in
    omega (arith, below, c.requires)

pub update_forms::draw_keyed-leave_update-requires-clause-around : goal.update_forms::draw_keyed-leave_update-requires-clause-around
update_forms::draw_keyed-leave_update-requires-clause-around g t c =
    let allowed : Allowance = record { budget = c.saturating_sub.result; weight = c.saturating_sub-2.result } in
    let drawn = rw (c.enter_body-inner.ensures, c.new-own.ensures.cost, c.new-own.ensures.deepest) at c.in_ok-drawn.ensures.meaning in
    body-around (scene_at g.T.Types.holds g.T.Types.presents c.args.place.now) c.args.place.now.here.left allowed
    (variables_of c.args.place.now.here.scope.now) (shape_trees_of c.args.body.now) (drawing_of c.enter_update.new.self)
    (drawing_of c.draw_all-drawn.new.drawing) c.draw_all-drawn.new.meter.cost c.draw_all-drawn.new.meter.deepest drawn

pub update_forms::draw_keyed-leave_update-requires-clause-light : goal.update_forms::draw_keyed-leave_update-requires-clause-light
update_forms::draw_keyed-leave_update-requires-clause-light g t c =
    let allowed : Allowance = record { budget = c.saturating_sub.result; weight = c.saturating_sub-2.result } in
    let drawn = rw (c.enter_body-inner.ensures, c.new-own.ensures.cost, c.new-own.ensures.deepest) at c.in_ok-drawn.ensures.meaning in
    let light = body-weight (scene_at g.T.Types.holds g.T.Types.presents c.args.place.now) c.args.place.now.here.left allowed
    (variables_of c.args.place.now.here.scope.now) (shape_trees_of c.args.body.now) (drawing_of c.enter_update.new.self)
    (drawing_of c.draw_all-drawn.new.drawing) c.draw_all-drawn.new.meter.cost c.draw_all-drawn.new.meter.deepest drawn in
    let most : Fits w64 c.args.place.now.max_weight = search rules in
    let weight : Fits w64 c.enter_update.new.self.weight = search rules in
    omega (arith, light, c.saturating_sub-2.ensures, most, weight)

pub update_forms::draw_update-returns-in_err-id-clause-meaning : goal.update_forms::draw_update-returns-in_err-id-clause-meaning
update_forms::draw_update-returns-in_err-id-clause-meaning g t c =
    let p = err_from_is_err_and c.from_residual.result c.from_residual.ensures.1 in
    let here = c.args.place.now.here in
    rw (p.1, p.2)
    (stop-id (allowance_at c.args.place.now) (meaning_at here)
    (grows-means here.left here.context.now.budget here.context.now.app.now here.context.now.slots.now) (bodies_at g.T.Types.holds g.T.Types.presents c.args.place.now) here.level
    (variables_of here.scope.now) c.args.update.now (shape_trees_of c.args.body.now) (drawing_of c.args.drawing.now) (drawing_of c.args.drawing.now)
    c.in_err-id.field-0.0 c.evaluate_id.new.meter c.args.meter.now.cost c.args.meter.now.deepest c.in_err-id.ensures.meaning)
