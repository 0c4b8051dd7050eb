use Rattle.std.proofs.Common.{◌≡◌, ◌+◌, ◌∙◌, [], ◌∷◌, List, suc, drop, drop-cons, map, ap, sym, subst, refl, Err, Ok, inr, Result, ℕ, rules, arith, Fits, w64}
use Rattle.std.proofs.lemmas.List.{drop_all}
use Rattle.std.proofs.lemmas.Result.{err_from_is_err_and}
use Rattle.cl_value.specs.Value.{data_of}
use Rattle.cl_value.specs.declared.Value.{Value}
use Rattle.cl_syntax.specs.ShapeTree.{shape_trees_of}
use Rattle.cl_syntax.specs.declared.display_forms.Shape.{Shape}
use Rattle.cl_eval.specs.Scope.{variables_of}
use Rattle.cl_eval.specs.declared.metering.Stop.{Stop}
use Rattle.cl_eval.specs.declared.metering.Stop.TheVariants.{Trap}
use Rattle.cl_display.specs.Drawings.{DrawingAt, drawing_of}
use Rattle.cl_display.specs.Fresh.{Allowance, draws_to, for_each, in_order, presents_body}
use Rattle.cl_display.specs.Place.{allowance_at, draws_at, scene_at}
use Rattle.cl_display.specs.Presentations.{enter_presentation, label_of, leave_presentation}
use Rattle.cl_display.specs.Settings.{indent, leave_room, restore_ink, restore_margin, set_ink}
use Rattle.cl_display.specs.Updates.{enter_body, key_of, opening_at}
use Rattle.cl_display.proofs.BodyLemmas.{body-around, body-kept, body-reach, body-weight}
use Rattle.cl_reuse.specs.Sited.{AreOwn}
use Rattle.cl_reuse.proofs.CacheLemmas.{cache-holds}
use Rattle.cl_reuse.proofs.DisplayNames.{display-declared}
use Rattle.cl_reuse.proofs.PayRows.{no-cache-comes}
use Rattle.cl_updating.specs.Levels.{kept_from, old_of}
use Rattle.cl_updating.specs.Redraws.{Redrawn, Redraws, body_over}
use Rattle.cl_updating.proofs.RowLemmas.{drop-next, each-end, each-next, each-stop, order-end, order-next, order-stop, own-drop, own-first}
use Rattle.cl_updating.proofs.RowLemmas.{presentation-left, redraws-err, redraws-member, room-left, to-end, to-stop, trap-agrees, within-end, within-stop}
use Rattle.cl_updating.proofs.StandLemmas.{body-left, body-stopped, faithful-inside, found-that, kept-within, over-answer, stands-cached}
use Rattle.cl_updating.proofs.+redraw.Goals as goal

pub redrawing::redraw_all-redraw-requires : goal.redrawing::redraw_all-redraw-requires
redrawing::redraw_all-redraw-requires g t c κs within =
    let at = c.loop-form.form-index in
    let rest = drop (at + 1) c.args.forms.now in
    let step : drop at c.args.forms.now ≡ c.form-item.result ∷ rest = drop-next c.args.forms.now at c.form-item.result
    (drop-cons c.args.forms.now at c.form-item.result c.loop-form-test.true
    ∙ ap (λ (a : Shape). a ∷ drop (suc at) c.args.forms.now) (sym c.form-item.is)) in
    let forms = ap (λ (fs : List Shape). shape_trees_of fs) step in
    let own = subst (λ (fs : List Shape). AreOwn (scene_at g.T.Types.holds g.T.Types.presents c.args.ground.now.place).app (shape_trees_of fs)) step (own-drop (scene_at g.T.Types.holds g.T.Types.presents c.args.ground.now.place).app at c.args.forms.now c.requires.own) in
    (search rules, (search rules, (c.requires.depth, (c.requires.reusable, own-first (scene_at g.T.Types.holds g.T.Types.presents c.args.ground.now.place).app c.form-item.result (shape_trees_of rest) own))))

pub redrawing::redraw_all-returns-in_err-redraw : goal.redrawing::redraw_all-returns-in_err-redraw
redrawing::redraw_all-returns-in_err-redraw g t c =
    let p = err_from_is_err_and c.from_residual.result c.from_residual.ensures.1 in
    let at = c.loop-form.form-index in
    let rest = drop (at + 1) c.args.forms.now in
    let step : drop at c.args.forms.now ≡ c.form-item.result ∷ rest = drop-next c.args.forms.now at c.form-item.result
    (drop-cons c.args.forms.now at c.form-item.result c.loop-form-test.true
    ∙ ap (λ (a : Shape). a ∷ drop (suc at) c.args.forms.now) (sym c.form-item.is)) in
    let forms = ap (λ (fs : List Shape). shape_trees_of fs) step in
    let go = (draws_at g.T.Types.holds g.T.Types.presents c.args.ground.now.place) in
    redraws-err c.args.ground.now.old.now c.from_residual.result p.0 c.in_err-redraw.field-0.0 (drawing_of c.redraw.new.drawing) c.args.meter.now.cost c.redraw.new.meter
    c.args.tally.now c.redraw.new.tally
    (in_order go c.args.ground.now.place.here.level (variables_of c.args.ground.now.place.here.scope.now) (shape_trees_of c.args.forms.now) (drawing_of c.args.drawing.now) c.args.meter.now.cost c.args.meter.now.deepest)
    p.1 p.2
    (order-stop c.args.ground.now.old.now go c.args.ground.now.place.here.level (variables_of c.args.ground.now.place.here.scope.now) c.form-item.result (shape_trees_of rest)
    (shape_trees_of (drop at c.args.forms.now)) (drawing_of c.loop-form.drawing) (drawing_of c.redraw.new.drawing) c.in_err-redraw.field-0.0
    c.redraw.new.meter c.loop-form.meter.cost c.loop-form.meter.deepest c.loop-form.tally c.redraw.new.tally c.args.meter.now.cost c.args.tally.now
    (in_order go c.args.ground.now.place.here.level (variables_of c.args.ground.now.place.here.scope.now) (shape_trees_of c.args.forms.now) (drawing_of c.args.drawing.now) c.args.meter.now.cost c.args.meter.now.deepest)
    forms c.loop-form.invariant.goes c.in_err-redraw.ensures)

pub redrawing::redraw_all-loop-form-preserved : goal.redrawing::redraw_all-loop-form-preserved
redrawing::redraw_all-loop-form-preserved g t c =
    let at = c.loop-form.form-index in
    let rest = drop (at + 1) c.args.forms.now in
    let step : drop at c.args.forms.now ≡ c.form-item.result ∷ rest = drop-next c.args.forms.now at c.form-item.result
    (drop-cons c.args.forms.now at c.form-item.result c.loop-form-test.true
    ∙ ap (λ (a : Shape). a ∷ drop (suc at) c.args.forms.now) (sym c.form-item.is)) in
    let forms = ap (λ (fs : List Shape). shape_trees_of fs) step in
    let go = (draws_at g.T.Types.holds g.T.Types.presents c.args.ground.now.place) in
    record {
      goes = order-next c.args.ground.now.old.now go c.args.ground.now.place.here.level (variables_of c.args.ground.now.place.here.scope.now) c.form-item.result (shape_trees_of rest)
          (shape_trees_of (drop at c.args.forms.now)) (drawing_of c.loop-form.drawing) (drawing_of c.redraw.new.drawing) c.redraw.new.meter
          c.loop-form.meter.cost c.loop-form.meter.deepest c.loop-form.tally c.redraw.new.tally c.args.meter.now.cost c.args.tally.now
          (in_order go c.args.ground.now.place.here.level (variables_of c.args.ground.now.place.here.scope.now) (shape_trees_of c.args.forms.now) (drawing_of c.args.drawing.now) c.args.meter.now.cost c.args.meter.now.deepest)
          forms c.loop-form.invariant.goes c.in_ok-redraw.ensures;
    }

pub redrawing::redraw_all-returns : goal.redrawing::redraw_all-returns
redrawing::redraw_all-returns g t c =
    let none : drop c.loop-form.form-index c.args.forms.now ≡ [] = drop_all c.loop-form.form-index c.args.forms.now (omega (arith, c.loop-form-test.false)) in
    let go = (draws_at g.T.Types.holds g.T.Types.presents c.args.ground.now.place) in
    order-end c.args.ground.now.old.now go c.args.ground.now.place.here.level (variables_of c.args.ground.now.place.here.scope.now) (shape_trees_of (drop c.loop-form.form-index c.args.forms.now))
    (drawing_of c.loop-form.drawing) c.loop-form.meter c.loop-form.tally c.args.meter.now.cost c.args.tally.now
    (in_order go c.args.ground.now.place.here.level (variables_of c.args.ground.now.place.here.scope.now) (shape_trees_of c.args.forms.now) (drawing_of c.args.drawing.now) c.args.meter.now.cost c.args.meter.now.deepest)
    (ap (λ (fs : List Shape). shape_trees_of fs) none) c.loop-form.invariant.goes

pub redrawing::redraw_call-redraw_all-requires : goal.redrawing::redraw_call-redraw_all-requires
redrawing::redraw_call-redraw_all-requires g t c κs within =
    let named = sym (rw (c.in-Some.is, c.as_slice.ensures) at c.shape_of.ensures) in (
      search rules,
      (
        search rules,
        (
          c.requires.depth,
          (
            c.requires.reusable,
            λ u h. display-declared (scene_at g.T.Types.holds g.T.Types.presents c.args.ground.now.place).app c.args.name.now c.in-Some.display.now named u (rw c.as_slice-in-Some.ensures at h),
          ),
        ),
      ),
    )

pub redrawing::redraw_each-returns-in_err-redraw_all : goal.redrawing::redraw_each-returns-in_err-redraw_all
redrawing::redraw_each-returns-in_err-redraw_all g t c =
    let p = err_from_is_err_and c.from_residual.result c.from_residual.ensures.1 in
    let at = c.loop-item.item-index in
    let rest = drop (at + 1) c.args.list.now in
    let step : drop at c.args.list.now ≡ c.item-item.result ∷ rest = drop-next c.args.list.now at c.item-item.result
    (drop-cons c.args.list.now at c.item-item.result c.loop-item-test.true
    ∙ ap (λ (a : Value). a ∷ drop (suc at) c.args.list.now) (sym c.item-item.is)) in
    let values = ap (λ (vs : List Value). map data_of vs) step in
    let go = (draws_at g.T.Types.holds g.T.Types.presents c.args.ground.now.place) in
    let x = c.args.name.now in
    let body = shape_trees_of c.args.body.now in
    redraws-err c.args.ground.now.old.now c.from_residual.result p.0 c.in_err-redraw_all.field-0.0 (drawing_of c.redraw_all.new.drawing) c.args.meter.now.cost
    c.redraw_all.new.meter c.args.tally.now c.redraw_all.new.tally
    (for_each go c.args.ground.now.place.here.level (variables_of c.args.ground.now.place.here.scope.now) x body (map data_of c.args.list.now) (drawing_of c.args.drawing.now) c.args.meter.now.cost c.args.meter.now.deepest)
    p.1 p.2
    (each-stop c.args.ground.now.old.now go c.args.ground.now.place.here.level (variables_of c.args.ground.now.place.here.scope.now) x body (data_of c.item-item.result) (map data_of rest)
    (map data_of (drop at c.args.list.now)) (drawing_of c.loop-item.drawing) (drawing_of c.redraw_all.new.drawing) c.in_err-redraw_all.field-0.0
    c.redraw_all.new.meter c.loop-item.meter.cost c.loop-item.meter.deepest c.loop-item.tally c.redraw_all.new.tally c.args.meter.now.cost c.args.tally.now
    (for_each go c.args.ground.now.place.here.level (variables_of c.args.ground.now.place.here.scope.now) x body (map data_of c.args.list.now) (drawing_of c.args.drawing.now) c.args.meter.now.cost c.args.meter.now.deepest)
    values c.loop-item.invariant.goes c.in_err-redraw_all.ensures)

pub redrawing::redraw_each-loop-item-preserved : goal.redrawing::redraw_each-loop-item-preserved
redrawing::redraw_each-loop-item-preserved g t c =
    let at = c.loop-item.item-index in
    let rest = drop (at + 1) c.args.list.now in
    let step : drop at c.args.list.now ≡ c.item-item.result ∷ rest = drop-next c.args.list.now at c.item-item.result
    (drop-cons c.args.list.now at c.item-item.result c.loop-item-test.true
    ∙ ap (λ (a : Value). a ∷ drop (suc at) c.args.list.now) (sym c.item-item.is)) in
    let values = ap (λ (vs : List Value). map data_of vs) step in
    let go = (draws_at g.T.Types.holds g.T.Types.presents c.args.ground.now.place) in
    let x = c.args.name.now in
    let body = shape_trees_of c.args.body.now in
    record {
      goes = each-next c.args.ground.now.old.now go c.args.ground.now.place.here.level (variables_of c.args.ground.now.place.here.scope.now) x body (data_of c.item-item.result) (map data_of rest)
          (map data_of (drop at c.args.list.now)) (drawing_of c.loop-item.drawing) (drawing_of c.redraw_all.new.drawing) c.redraw_all.new.meter
          c.loop-item.meter.cost c.loop-item.meter.deepest c.loop-item.tally c.redraw_all.new.tally c.args.meter.now.cost c.args.tally.now
          (for_each go c.args.ground.now.place.here.level (variables_of c.args.ground.now.place.here.scope.now) x body (map data_of c.args.list.now) (drawing_of c.args.drawing.now) c.args.meter.now.cost c.args.meter.now.deepest)
          values c.loop-item.invariant.goes c.in_ok-redraw_all.ensures;
    }

pub redrawing::redraw_each-returns : goal.redrawing::redraw_each-returns
redrawing::redraw_each-returns g t c =
    let none : drop c.loop-item.item-index c.args.list.now ≡ [] = drop_all c.loop-item.item-index c.args.list.now (omega (arith, c.loop-item-test.false)) in
    let go = (draws_at g.T.Types.holds g.T.Types.presents c.args.ground.now.place) in
    let x = c.args.name.now in
    let body = shape_trees_of c.args.body.now in
    each-end c.args.ground.now.old.now go c.args.ground.now.place.here.level (variables_of c.args.ground.now.place.here.scope.now) x body (map data_of (drop c.loop-item.item-index c.args.list.now))
    (drawing_of c.loop-item.drawing) c.loop-item.meter c.loop-item.tally c.args.meter.now.cost c.args.tally.now
    (for_each go c.args.ground.now.place.here.level (variables_of c.args.ground.now.place.here.scope.now) x body (map data_of c.args.list.now) (drawing_of c.args.drawing.now) c.args.meter.now.cost c.args.meter.now.deepest)
    (ap (λ (vs : List Value). map data_of vs) none) c.loop-item.invariant.goes

pub redrawing::redraw_in_ink-returns-in_err-redraw_all : goal.redrawing::redraw_in_ink-returns-in_err-redraw_all
redrawing::redraw_in_ink-returns-in_err-redraw_all g t c =
    let p = err_from_is_err_and c.from_residual-in_err-redraw_all.result c.from_residual-in_err-redraw_all.ensures.1 in
    let go = (draws_at g.T.Types.holds g.T.Types.presents c.args.ground.now.place) in
    let body = shape_trees_of c.args.body.now in
    redraws-err c.args.ground.now.old.now c.from_residual-in_err-redraw_all.result p.0 c.in_err-redraw_all.field-0.0 (drawing_of c.redraw_all.new.drawing)
    c.args.meter.now.cost c.redraw_all.new.meter c.args.tally.now c.redraw_all.new.tally _ p.1 p.2
    (within-stop c.args.ground.now.old.now go c.args.ground.now.place.here.level (variables_of c.args.ground.now.place.here.scope.now) body (restore_ink c.args.drawing.now.ambient) (set_ink (data_of c.args.number.now) (drawing_of c.args.drawing.now)) (drawing_of c.set_ink.new.self) (drawing_of c.redraw_all.new.drawing)
    c.in_err-redraw_all.field-0.0 c.redraw_all.new.meter c.args.meter.now.cost c.args.meter.now.deepest c.args.tally.now c.redraw_all.new.tally c.in_ok-set_ink.ensures c.in_err-redraw_all.ensures)

pub redrawing::redraw_in_ink-returns : goal.redrawing::redraw_in_ink-returns
redrawing::redraw_in_ink-returns g t c =
    let go = (draws_at g.T.Types.holds g.T.Types.presents c.args.ground.now.place) in
    let body = shape_trees_of c.args.body.now in
    within-end c.args.ground.now.old.now go c.args.ground.now.place.here.level (variables_of c.args.ground.now.place.here.scope.now) body (restore_ink c.args.drawing.now.ambient) (set_ink (data_of c.args.number.now) (drawing_of c.args.drawing.now)) (drawing_of c.set_ink.new.self) (drawing_of c.redraw_all.new.drawing)
    (drawing_of c.restore_ink.new.self) (Ok tt) c.redraw_all.new.meter c.args.meter.now.cost c.args.meter.now.deepest c.args.tally.now c.redraw_all.new.tally c.in_ok-set_ink.ensures c.in_ok-redraw_all.ensures
    (ap (λ (s : DrawingAt). done-with s) (sym c.restore_ink.ensures))
  where
    done-with : DrawingAt → Result DrawingAt ℕ
    done-with s = Ok s

pub redrawing::redraw_indented-returns-in_err-redraw_all : goal.redrawing::redraw_indented-returns-in_err-redraw_all
redrawing::redraw_indented-returns-in_err-redraw_all g t c =
    let p = err_from_is_err_and c.from_residual-in_err-redraw_all.result c.from_residual-in_err-redraw_all.ensures.1 in
    let go = (draws_at g.T.Types.holds g.T.Types.presents c.args.ground.now.place) in
    let body = shape_trees_of c.args.body.now in
    redraws-err c.args.ground.now.old.now c.from_residual-in_err-redraw_all.result p.0 c.in_err-redraw_all.field-0.0 (drawing_of c.redraw_all.new.drawing)
    c.args.meter.now.cost c.redraw_all.new.meter c.args.tally.now c.redraw_all.new.tally _ p.1 p.2
    (within-stop c.args.ground.now.old.now go c.args.ground.now.place.here.level (variables_of c.args.ground.now.place.here.scope.now) body (restore_margin c.args.drawing.now.ambient) (indent (data_of c.args.number.now) (drawing_of c.args.drawing.now)) (drawing_of c.indent.new.self) (drawing_of c.redraw_all.new.drawing)
    c.in_err-redraw_all.field-0.0 c.redraw_all.new.meter c.args.meter.now.cost c.args.meter.now.deepest c.args.tally.now c.redraw_all.new.tally c.in_ok-indent.ensures c.in_err-redraw_all.ensures)

pub redrawing::redraw_indented-returns : goal.redrawing::redraw_indented-returns
redrawing::redraw_indented-returns g t c =
    let go = (draws_at g.T.Types.holds g.T.Types.presents c.args.ground.now.place) in
    let body = shape_trees_of c.args.body.now in
    within-end c.args.ground.now.old.now go c.args.ground.now.place.here.level (variables_of c.args.ground.now.place.here.scope.now) body (restore_margin c.args.drawing.now.ambient) (indent (data_of c.args.number.now) (drawing_of c.args.drawing.now)) (drawing_of c.indent.new.self) (drawing_of c.redraw_all.new.drawing)
    (drawing_of c.restore_margin.new.self) (Ok tt) c.redraw_all.new.meter c.args.meter.now.cost c.args.meter.now.deepest c.args.tally.now c.redraw_all.new.tally c.in_ok-indent.ensures c.in_ok-redraw_all.ensures
    (ap (λ (s : DrawingAt). done-with s) (sym c.restore_margin.ensures))
  where
    done-with : DrawingAt → Result DrawingAt ℕ
    done-with s = Ok s

pub redrawing::redraw_in_room-returns-in_err-redraw_all : goal.redrawing::redraw_in_room-returns-in_err-redraw_all
redrawing::redraw_in_room-returns-in_err-redraw_all g t c =
    let p = err_from_is_err_and c.from_residual.result c.from_residual.ensures.1 in
    let go = (draws_at g.T.Types.holds g.T.Types.presents c.args.ground.now.place) in
    let body = shape_trees_of c.args.body.now in
    redraws-err c.args.ground.now.old.now c.from_residual.result p.0 c.in_err-redraw_all.field-0.0 (drawing_of c.redraw_all.new.drawing)
    c.args.meter.now.cost c.redraw_all.new.meter c.args.tally.now c.redraw_all.new.tally _ p.1 p.2
    (subst (λ (t : DrawingAt). Redraws c.args.ground.now.old.now (Err c.in_err-redraw_all.field-0.0) (drawing_of c.redraw_all.new.drawing) c.args.meter.now.cost c.redraw_all.new.meter c.args.tally.now c.redraw_all.new.tally
    (draws_to go c.args.ground.now.place.here.level (variables_of c.args.ground.now.place.here.scope.now) body (leave_room c.args.drawing.now.ambient (drawing_of c.args.drawing.now).part) t c.args.meter.now.cost c.args.meter.now.deepest))
    c.enter_room-outer.ensures.inside
    (to-stop c.args.ground.now.old.now go c.args.ground.now.place.here.level (variables_of c.args.ground.now.place.here.scope.now) body (leave_room c.args.drawing.now.ambient (drawing_of c.args.drawing.now).part) (drawing_of c.enter_room-outer.new.self) (drawing_of c.redraw_all.new.drawing)
    c.in_err-redraw_all.field-0.0 c.redraw_all.new.meter c.args.meter.now.cost c.args.meter.now.deepest c.args.tally.now c.redraw_all.new.tally c.in_err-redraw_all.ensures))

pub redrawing::redraw_in_room-returns : goal.redrawing::redraw_in_room-returns
redrawing::redraw_in_room-returns g t c =
    let go = (draws_at g.T.Types.holds g.T.Types.presents c.args.ground.now.place) in
    let body = shape_trees_of c.args.body.now in
    subst (λ (t : DrawingAt). Redraws c.args.ground.now.old.now c.leave_room.result (drawing_of c.leave_room.new.self) c.args.meter.now.cost c.redraw_all.new.meter c.args.tally.now c.redraw_all.new.tally
    (draws_to go c.args.ground.now.place.here.level (variables_of c.args.ground.now.place.here.scope.now) body (leave_room c.args.drawing.now.ambient (drawing_of c.args.drawing.now).part) t c.args.meter.now.cost c.args.meter.now.deepest))
    c.enter_room-outer.ensures.inside
    (to-end c.args.ground.now.old.now go c.args.ground.now.place.here.level (variables_of c.args.ground.now.place.here.scope.now) body (leave_room c.args.drawing.now.ambient (drawing_of c.args.drawing.now).part) (drawing_of c.enter_room-outer.new.self) (drawing_of c.redraw_all.new.drawing)
    (drawing_of c.leave_room.new.self) c.leave_room.result c.redraw_all.new.meter c.args.meter.now.cost c.args.meter.now.deepest c.args.tally.now c.redraw_all.new.tally c.in_ok-redraw_all.ensures
    (room-left (drawing_of c.leave_room.new.self) (drawing_of c.redraw_all.new.drawing) c.leave_room.result _ c.args.drawing.now.ambient _ (drawing_of c.args.drawing.now).part
    c.enter_room-outer.ensures.ambient c.enter_room-outer.ensures.part c.leave_room.ensures))

pub redrawing::redraw_presented-returns-in_err-redraw_all : goal.redrawing::redraw_presented-returns-in_err-redraw_all
redrawing::redraw_presented-returns-in_err-redraw_all g t c =
    let p = err_from_is_err_and c.from_residual-in_err-redraw_all.result c.from_residual-in_err-redraw_all.ensures.1 in
    let go = (draws_at g.T.Types.holds g.T.Types.presents c.args.ground.now.place) in
    let body = shape_trees_of c.args.body.now in
    let entered = drawing_of c.enter_presentation.new.self in
    let drawn = subst (λ (fs : List Shape). Redraws c.args.ground.now.old.now (Err c.in_err-redraw_all.field-0.0) (drawing_of c.redraw_all.new.drawing)
    c.args.meter.now.cost c.redraw_all.new.meter c.args.tally.now c.redraw_all.new.tally
    (in_order go c.args.ground.now.place.here.level (variables_of c.args.ground.now.place.here.scope.now) (shape_trees_of fs) entered c.args.meter.now.cost c.args.meter.now.deepest)) c.as_slice.ensures c.in_err-redraw_all.ensures in
    redraws-err c.args.ground.now.old.now c.from_residual-in_err-redraw_all.result p.0 c.in_err-redraw_all.field-0.0 (drawing_of c.redraw_all.new.drawing)
    c.args.meter.now.cost c.redraw_all.new.meter c.args.tally.now c.redraw_all.new.tally _ p.1 p.2
    (redraws-member c.args.ground.now.old.now (g.T.Types.holds c.args.ground.now.place.types.now) c.args.presentation.now.spec (data_of c.args.object) (presents_body c.args.ground.now.place.max_weight go c.args.ground.now.place.here.level (variables_of c.args.ground.now.place.here.scope.now) c.args.presentation.now body (drawing_of c.args.drawing.now) (data_of c.args.object)) c.in_ok-check_member.field-0 c.args.meter.now.cost c.args.meter.now.deepest
    (Err c.in_err-redraw_all.field-0.0) (drawing_of c.redraw_all.new.drawing) c.redraw_all.new.meter c.args.tally.now c.redraw_all.new.tally
    (rw (c.deref.ensures, c.spec.ensures) at c.in_ok-check_member.ensures)
    (within-stop c.args.ground.now.old.now go c.args.ground.now.place.here.level (variables_of c.args.ground.now.place.here.scope.now) body (leave_presentation (label_of c.args.presentation.now.spec c.args.presentation.now.single_box (data_of c.args.object)) (drawing_of c.args.drawing.now).part) (enter_presentation c.args.ground.now.place.max_weight (data_of c.args.object) (drawing_of c.args.drawing.now)) entered (drawing_of c.redraw_all.new.drawing) c.in_err-redraw_all.field-0.0
    c.redraw_all.new.meter c.args.meter.now.cost c.args.meter.now.deepest c.args.tally.now c.redraw_all.new.tally c.in_ok-outer.ensures.inside drawn))

pub redrawing::redraw_presented-returns : goal.redrawing::redraw_presented-returns
redrawing::redraw_presented-returns g t c =
    let go = (draws_at g.T.Types.holds g.T.Types.presents c.args.ground.now.place) in
    let body = shape_trees_of c.args.body.now in
    let entered = drawing_of c.enter_presentation.new.self in
    let drawn = rw c.as_slice.ensures at c.in_ok-redraw_all.ensures in
    redraws-member c.args.ground.now.old.now (g.T.Types.holds c.args.ground.now.place.types.now) c.args.presentation.now.spec (data_of c.args.object) (presents_body c.args.ground.now.place.max_weight go c.args.ground.now.place.here.level (variables_of c.args.ground.now.place.here.scope.now) c.args.presentation.now body (drawing_of c.args.drawing.now) (data_of c.args.object)) c.in_ok-check_member.field-0 c.args.meter.now.cost c.args.meter.now.deepest
    c.leave_presentation.result (drawing_of c.leave_presentation.new.self) c.redraw_all.new.meter c.args.tally.now c.redraw_all.new.tally
    (rw (c.deref.ensures, c.spec.ensures) at c.in_ok-check_member.ensures)
    (within-end c.args.ground.now.old.now go c.args.ground.now.place.here.level (variables_of c.args.ground.now.place.here.scope.now) body (leave_presentation (label_of c.args.presentation.now.spec c.args.presentation.now.single_box (data_of c.args.object)) (drawing_of c.args.drawing.now).part) (enter_presentation c.args.ground.now.place.max_weight (data_of c.args.object) (drawing_of c.args.drawing.now)) entered (drawing_of c.redraw_all.new.drawing) (drawing_of c.leave_presentation.new.self)
    c.leave_presentation.result c.redraw_all.new.meter c.args.meter.now.cost c.args.meter.now.deepest c.args.tally.now c.redraw_all.new.tally c.in_ok-outer.ensures.inside drawn
    (presentation-left (drawing_of c.leave_presentation.new.self) (drawing_of c.redraw_all.new.drawing) c.leave_presentation.result _ (label_of c.args.presentation.now.spec c.args.presentation.now.single_box (data_of c.args.object)) _ (drawing_of c.args.drawing.now).part
    (search rules) c.in_ok-outer.ensures.outer c.leave_presentation.ensures))

pub redrawing_updates::redraw_body-overflow_add-meter : goal.redrawing_updates::redraw_body-overflow_add-meter
redrawing_updates::redraw_body-overflow_add-meter g t c =
    let allowed : Allowance = record { budget = c.saturating_sub.result; weight = c.saturating_sub-2.result } in
    let scene = (scene_at g.T.Types.holds g.T.Types.presents c.args.ground.now.place) in
    let body = shape_trees_of c.args.body.now in
    let drawn = rw (c.enter_body-inner.ensures, c.new-own.ensures.cost, c.new-own.ensures.deepest) at c.in-Ok.ensures in
    let paid = body-kept scene.app scene c.requires.reusable.texts c.args.ground.now.place.here.left allowed (variables_of c.args.ground.now.place.here.scope.now) body (enter_body (drawing_of c.args.drawing.now))
    (drawing_of c.redraw_all.new.drawing) (Ok tt) c.redraw_all.new.meter drawn.0 in
    let budget : Fits w64 c.args.ground.now.place.here.context.now.budget = search rules in
    let cost : Fits w64 c.args.meter.now.cost = search rules in
    omega (arith, paid, c.saturating_sub.ensures, budget, cost)

pub redrawing_updates::redraw_body-overflow_add-ground : goal.redrawing_updates::redraw_body-overflow_add-ground
redrawing_updates::redraw_body-overflow_add-ground g t c =
    let allowed : Allowance = record { budget = c.saturating_sub.result; weight = c.saturating_sub-2.result } in
    let scene = (scene_at g.T.Types.holds g.T.Types.presents c.args.ground.now.place) in
    let body = shape_trees_of c.args.body.now in
    let drawn = rw (c.enter_body-inner.ensures, c.new-own.ensures.cost, c.new-own.ensures.deepest) at c.in-Ok.ensures in
    let below = body-reach scene.app scene c.requires.reusable.texts c.args.ground.now.place.here.left allowed (variables_of c.args.ground.now.place.here.scope.now) body (enter_body (drawing_of c.args.drawing.now))
    (drawing_of c.redraw_all.new.drawing) c.redraw_all.new.meter.cost c.redraw_all.new.meter.deepest drawn.0 in
    omega (arith, below, c.requires.depth)

pub redrawing_updates::redraw_body-leave_update-requires-clause-around : goal.redrawing_updates::redraw_body-leave_update-requires-clause-around
redrawing_updates::redraw_body-leave_update-requires-clause-around g t c =
    let allowed : Allowance = record { budget = c.saturating_sub.result; weight = c.saturating_sub-2.result } in
    let scene = (scene_at g.T.Types.holds g.T.Types.presents c.args.ground.now.place) in
    let body = shape_trees_of c.args.body.now in
    let drawn = rw (c.enter_body-inner.ensures, c.new-own.ensures.cost, c.new-own.ensures.deepest) at c.in-Ok.ensures in
    body-around scene c.args.ground.now.place.here.left allowed (variables_of c.args.ground.now.place.here.scope.now) body (drawing_of c.args.drawing.now) (drawing_of c.redraw_all.new.drawing)
    c.redraw_all.new.meter.cost c.redraw_all.new.meter.deepest drawn.0

pub redrawing_updates::redraw_body-leave_update-requires-clause-light : goal.redrawing_updates::redraw_body-leave_update-requires-clause-light
redrawing_updates::redraw_body-leave_update-requires-clause-light g t c =
    let allowed : Allowance = record { budget = c.saturating_sub.result; weight = c.saturating_sub-2.result } in
    let scene = (scene_at g.T.Types.holds g.T.Types.presents c.args.ground.now.place) in
    let body = shape_trees_of c.args.body.now in
    let drawn = rw (c.enter_body-inner.ensures, c.new-own.ensures.cost, c.new-own.ensures.deepest) at c.in-Ok.ensures in
    let light = body-weight scene c.args.ground.now.place.here.left allowed (variables_of c.args.ground.now.place.here.scope.now) body (drawing_of c.args.drawing.now) (drawing_of c.redraw_all.new.drawing)
    c.redraw_all.new.meter.cost c.redraw_all.new.meter.deepest drawn.0 in
    let most : Fits w64 c.args.ground.now.place.max_weight = search rules in
    let weight : Fits w64 c.args.drawing.now.weight = search rules in
    omega (arith, light, c.saturating_sub-2.ensures, most, weight)

pub redrawing_updates::redraw_body-overflow_add-meter-in-Err-Trap : goal.redrawing_updates::redraw_body-overflow_add-meter-in-Err-Trap
redrawing_updates::redraw_body-overflow_add-meter-in-Err-Trap g t c =
    let allowed : Allowance = record { budget = c.saturating_sub.result; weight = c.saturating_sub-2.result } in
    let scene = (scene_at g.T.Types.holds g.T.Types.presents c.args.ground.now.place) in
    let body = shape_trees_of c.args.body.now in
    let trap = trap-agrees _ c.in-Err-Trap.field-0 c.in-Err-Trap.kind _ _ _ _ _ _ c.in-Err-Trap.field-0-is c.in-Err-Trap.ensures in
    let trapped = rw (c.enter_body-inner.ensures, c.new-own.ensures.cost, c.new-own.ensures.deepest) at trap in
    let paid = body-kept scene.app scene c.requires.reusable.texts c.args.ground.now.place.here.left allowed (variables_of c.args.ground.now.place.here.scope.now) body (enter_body (drawing_of c.args.drawing.now))
    (drawing_of c.redraw_all.new.drawing) (Err (Trap c.in-Err-Trap.kind)) c.redraw_all.new.meter trapped in
    let budget : Fits w64 c.args.ground.now.place.here.context.now.budget = search rules in
    let cost : Fits w64 c.args.meter.now.cost = search rules in
    omega (arith, paid, c.saturating_sub.ensures, budget, cost)

pub redrawing_updates::redraw_over-keep_update-requires-clause-same : goal.redrawing_updates::redraw_over-keep_update-requires-clause-same
redrawing_updates::redraw_over-keep_update-requires-clause-same g t c =
    found-that c.args.key.site (data_of c.args.key.id) c.args.ground.now.old.now.at (Rattle.cl_record.specs.Trees.trees_of c.args.ground.now.old.now.old) (old_of c.args.old.now) c.requires.found

pub redrawing_updates::redraw_over-keep_update-requires-clause-light : goal.redrawing_updates::redraw_over-keep_update-requires-clause-light
redrawing_updates::redraw_over-keep_update-requires-clause-light g t c =
    let w = kept-within c.args.old.now.piece.now.head (opening_at (key_of c.args.key) (drawing_of c.args.drawing.now) c.saturating_sub.result c.saturating_sub-2.result c.args.ground.now.place.here.left) (rw c.may_keep.ensures at c.if-may_keep.true) in
    let most : Fits w64 c.args.ground.now.place.max_weight = search rules in
    let weight : Fits w64 c.args.drawing.now.weight = search rules in
    omega (arith, w.weight, c.saturating_sub-2.ensures, most, weight)

pub redrawing_updates::redraw_over-keep_update-requires-clause-cheap : goal.redrawing_updates::redraw_over-keep_update-requires-clause-cheap
redrawing_updates::redraw_over-keep_update-requires-clause-cheap g t c =
    let w = kept-within c.args.old.now.piece.now.head (opening_at (key_of c.args.key) (drawing_of c.args.drawing.now) c.saturating_sub.result c.saturating_sub-2.result c.args.ground.now.place.here.left) (rw c.may_keep.ensures at c.if-may_keep.true) in
    let budget : Fits w64 c.args.ground.now.place.here.context.now.budget = search rules in
    let cost : Fits w64 c.args.meter.now.cost = search rules in
    omega (arith, w.cost, c.saturating_sub.ensures, budget, cost)

pub redrawing_updates::redraw_over-keep_update-requires-clause-shallow : goal.redrawing_updates::redraw_over-keep_update-requires-clause-shallow
redrawing_updates::redraw_over-keep_update-requires-clause-shallow g t c =
    let w = kept-within c.args.old.now.piece.now.head (opening_at (key_of c.args.key) (drawing_of c.args.drawing.now) c.saturating_sub.result c.saturating_sub-2.result c.args.ground.now.place.here.left) (rw c.may_keep.ensures at c.if-may_keep.true) in
    omega (arith, w.reach, c.requires.depth)

pub redrawing_updates::redraw_over-returns-then-may_keep : goal.redrawing_updates::redraw_over-returns-then-may_keep
redrawing_updates::redraw_over-returns-then-may_keep g t c =
    over-answer (scene_at g.T.Types.holds g.T.Types.presents c.args.ground.now.place) (variables_of c.args.ground.now.place.here.scope.now) (shape_trees_of c.args.body.now) _ c.args.ground.now.old.now (allowance_at c.args.ground.now.place) c.args.ground.now.place.here.left c.args.ground.now.place.here.level c.args.drawing.now
    c.keep_update.new.drawing c.args.meter.now c.keep_update.new.meter c.args.old.now c.saturating_sub.result c.saturating_sub-2.result c.args.tally.now
    c.keep_update.new.tally c.keep_update.result c.saturating_sub.ensures c.saturating_sub-2.ensures c.requires.found (rw c.may_keep.ensures at c.if-may_keep.true)
    c.requires.reusable.faithful c.requires.own.stands c.keep_update.ensures

pub redrawing_updates::redraw_over-redraw_body-requires : goal.redrawing_updates::redraw_over-redraw_body-requires
redrawing_updates::redraw_over-redraw_body-requires g t c κs within =
    let faithful = faithful-inside (scene_at g.T.Types.holds g.T.Types.presents c.args.ground.now.place) (variables_of c.args.ground.now.place.here.scope.now) (shape_trees_of c.args.body.now) (key_of c.args.key) c.args.ground.now.old.now (allowance_at c.args.ground.now.place) c.args.ground.now.place.here.left c.args.ground.now.place.here.level
    (drawing_of c.args.drawing.now) c.args.meter.now.cost c.args.meter.now.deepest (old_of c.args.old.now) c.requires.found c.requires.reusable.faithful in (
      search rules,
      (
        search rules,
        (
          c.requires.depth,
          (
            c.requires.reusable,
            (
              c.requires.own,
              record {
                texts = c.requires.reusable.texts;
                sees = c.requires.reusable.sees;
                covered = c.requires.reusable.covered;
                apart = c.requires.reusable.apart;
                faithful = rw c.in_ok-below.ensures faithful;
              },
            ),
          ),
        ),
      ),
    )

pub redrawing_updates::redraw_update-redraw_keyed-requires : goal.redrawing_updates::redraw_update-redraw_keyed-requires
redrawing_updates::redraw_update-redraw_keyed-requires g t c κs within =
    let here = c.args.ground.now.place.here in
    let app = here.context.now.app.now in
    let slots = here.context.now.slots.now in
    let types = (scene_at g.T.Types.holds g.T.Types.presents c.args.ground.now.place).types in
    let holds = cache-holds app slots (variables_of c.args.ground.now.place.here.scope.now) here.left here.context.now.budget here.level c.args.update.now.cache c.evaluate_id.new.meter.cost
    c.evaluate_id.new.meter.deepest c.in_ok-cache.cache c.evaluate_cache.new.meter.cost c.evaluate_cache.new.meter.deepest c.in_ok-cache.ensures.meaning in
    let without = no-cache-comes app slots types here.left here.context.now.budget here.level (variables_of c.args.ground.now.place.here.scope.now) c.args.update.now.cache c.evaluate_id.new.meter.cost
    c.evaluate_id.new.meter.deepest c.in_ok-cache.cache c.evaluate_cache.new.meter.cost c.evaluate_cache.new.meter.deepest c.in_ok-cache.ensures.meaning in
    let stands = stands-cached app slots types c.requires.reusable.texts c.requires.reusable.sees c.requires.reusable.covered c.requires.reusable.apart
    c.args.update.now (variables_of c.args.ground.now.place.here.scope.now) (shape_trees_of c.args.body.now) c.requires.own (data_of c.in_ok-id.id) c.in_ok-cache.cache c.args.update.now.cache refl holds
    without in
    (search rules, (search rules, (c.requires.depth, (c.requires.reusable, record { own = λ u h. c.requires.own u (inr h); stands = rw c.site-site.ensures stands }))))

pub redrawing_updates::redraw_body-returns-in-Ok : goal.redrawing_updates::redraw_body-returns-in-Ok
redrawing_updates::redraw_body-returns-in-Ok g t c =
    let drawn = rw (c.saturating_sub.ensures, c.saturating_sub-2.ensures, c.enter_body-inner.ensures, c.new-own.ensures.cost, c.new-own.ensures.deepest) at c.in-Ok.ensures in
    body-left _ (key_of c.args.key) c.args.ground.now.place.here.level (drawing_of c.args.drawing.now) (drawing_of c.redraw_all.new.drawing)
    (drawing_of c.leave_update.new.self) c.redraw_all.new.meter
    (record { cost = c.args.meter.now.cost + c.redraw_all.new.meter.cost; deepest = c.max-meter.result })
    c.args.meter.now.cost c.args.meter.now.deepest _ c.leave_update.result c.args.tally.now c.enter-outer.new.self c.redraw_all.new.tally c.leave.new.self
    c.enter-outer.result drawn refl c.max-meter.ensures c.enter-outer.ensures.outer c.enter-outer.ensures.inside c.in_ok-leave-in-Ok.ensures
    c.leave_update.ensures

pub redrawing_updates::redraw_body-returns-in-Err-Trap : goal.redrawing_updates::redraw_body-returns-in-Err-Trap
redrawing_updates::redraw_body-returns-in-Err-Trap g t c =
    let body = body_over g.T.Types.holds g.T.Types.presents c.args.ground.now (shape_trees_of c.args.body.now) (drawing_of c.args.drawing.now) c.args.meter.now.cost in
    let k = kept_from c.args.below.now body.walk in
    let is : c.redraw_all.result ≡ Err (Trap c.in-Err-Trap.kind) = c.in-Err-Trap.is ∙ ap (λ (x : Stop). Err x) c.in-Err-Trap.field-0-is in
    let came = rw (c.saturating_sub.ensures, c.saturating_sub-2.ensures, c.enter_body-inner.ensures, c.new-own.ensures.cost, c.new-own.ensures.deepest) at c.redraw_all.ensures in
    let drawn : Redrawn k (Err (Trap c.in-Err-Trap.kind)) (drawing_of c.redraw_all.new.drawing) 0 c.redraw_all.new.meter c.enter-outer.new.self c.redraw_all.new.tally body.outcome =
    subst (λ (x : Result (Unit {0}) Stop). Redrawn k x (drawing_of c.redraw_all.new.drawing) 0 c.redraw_all.new.meter c.enter-outer.new.self c.redraw_all.new.tally body.outcome) is came in
    body-stopped k (key_of c.args.key) c.args.ground.now.place.here.level (drawing_of c.args.drawing.now) (drawing_of c.redraw_all.new.drawing)
    (drawing_of c.args.drawing.now) c.redraw_all.new.meter
    (record { cost = c.args.meter.now.cost + c.redraw_all.new.meter.cost; deepest = c.args.meter.now.deepest })
    c.args.meter.now.cost c.args.meter.now.deepest c.in-Err-Trap.kind _ body.outcome c.args.tally.now c.enter-outer.new.self c.redraw_all.new.tally
    c.leave_trapped.new.self c.enter-outer.result c.leave_trapped.result drawn refl refl c.enter-outer.ensures.outer c.enter-outer.ensures.inside
    c.in-Err-Trap.kind-is c.leave_trapped.ensures
