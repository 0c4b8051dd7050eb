use Rattle.std.proofs.Common.{◌≡◌, ℤ, map, ◌∙◌, rules, arith}
use Rattle.std.proofs.lemmas.Int.{to_z-of_z}
use Rattle.std.proofs.lemmas.List.{drop_all}
use Rattle.std.specs.Prelude.{reverse}
use mir.Syntax.{w64}
use mir.Val.{SFits}
use Rattle.cl_record.specs.Marks.{history_marks}
use Rattle.cl_record.specs.TouchWalks.{touch_of}
use Rattle.cl_record.specs.Touches.{touch_of_label, touched_labels}
use Rattle.cl_value.specs.Value.{data_of}
use Rattle.cl_translate.specs.Choices.{blank_area, candidates}
use Rattle.cl_translate.specs.Scenes.{scene_of}
use Rattle.cl_translate.proofs.CandidateLemmas.{all_candidates, context_found, context_passed, no_context_left, spot_is}
use Rattle.cl_translate.proofs.FirstLemmas.{item_here}
use Rattle.cl_translate.proofs.choosers.Chooser.choose.Goals as goal

pub returns-in-Some : goal.returns-in-Some
returns-in-Some g c =
    let across : SFits w64 c.args.point.now.x = search rules in
    let down : SFits w64 c.args.point.now.y = search rules in
    let s = scene_of g.T.Types.holds g.T.Types.hierarchy c.args.self.now in
    let ls = touched_labels g.L.Leaf.bounds c.args.point.now.x c.args.point.now.y (history_marks g.L.Leaf.moved_by c.args.history.now) in
    let blank = blank_area c.args.point.now.pane.now c.args.point.now.x c.args.point.now.y in
    let gathered = spot_is (λ (x y : ℤ). map touch_of c.in_ok-candidates.candidates.items
    ≡ map touch_of_label (reverse (touched_labels g.L.Leaf.bounds x y (history_marks g.L.Leaf.moved_by c.args.history.now))))
    c.args.point.now.x c.args.point.now.y _ _ (to_z-of_z w64 _ across) (to_z-of_z w64 _ down) c.in_ok-candidates.ensures in
    let all : map touch_of c.as_slice-in-loop-number.result.now ≡ candidates ls blank =
    all_candidates touch_of c.in_ok-candidates.candidates.items c.as_slice-in-loop-number.result.now _ ls blank gathered
    (c.as_slice-in-loop-number.ensures.value ∙ c.in_ok-push.ensures.items) (λ i. record { object = c.in_ok-object.ensures i; spec = c.in_ok-spec.ensures i }) in
    context_found s c.args.gesture c.args.contexts.now (candidates ls blank) c.loop-number.number c.index-contexts-number.result (data_of c.in-Some.value)
    (item_here c.args.contexts.now c.loop-number.number c.index-contexts-number.result (omega arith) c.index-contexts-number.is) c.loop-number.invariant
    (rw (c.in-Some.is, all) at c.in_ok-found.ensures)

pub loop-number-preserved : goal.loop-number-preserved
loop-number-preserved g c =
    let across : SFits w64 c.args.point.now.x = search rules in
    let down : SFits w64 c.args.point.now.y = search rules in
    let s = scene_of g.T.Types.holds g.T.Types.hierarchy c.args.self.now in
    let ls = touched_labels g.L.Leaf.bounds c.args.point.now.x c.args.point.now.y (history_marks g.L.Leaf.moved_by c.args.history.now) in
    let blank = blank_area c.args.point.now.pane.now c.args.point.now.x c.args.point.now.y in
    let gathered = spot_is (λ (x y : ℤ). map touch_of c.in_ok-candidates.candidates.items
    ≡ map touch_of_label (reverse (touched_labels g.L.Leaf.bounds x y (history_marks g.L.Leaf.moved_by c.args.history.now))))
    c.args.point.now.x c.args.point.now.y _ _ (to_z-of_z w64 _ across) (to_z-of_z w64 _ down) c.in_ok-candidates.ensures in
    let all : map touch_of c.as_slice-in-loop-number.result.now ≡ candidates ls blank =
    all_candidates touch_of c.in_ok-candidates.candidates.items c.as_slice-in-loop-number.result.now _ ls blank gathered
    (c.as_slice-in-loop-number.ensures.value ∙ c.in_ok-push.ensures.items) (λ i. record { object = c.in_ok-object.ensures i; spec = c.in_ok-spec.ensures i }) in
    context_passed s c.args.gesture c.args.contexts.now (candidates ls blank) c.loop-number.number c.index-contexts-number.result
    (item_here c.args.contexts.now c.loop-number.number c.index-contexts-number.result (omega arith) c.index-contexts-number.is) c.loop-number.invariant
    (rw (c.in_default.is, all) at c.in_ok-found.ensures)

pub returns : goal.returns
returns g c =
    let s = scene_of g.T.Types.holds g.T.Types.hierarchy c.args.self.now in
    let cs = candidates (touched_labels g.L.Leaf.bounds c.args.point.now.x c.args.point.now.y (history_marks g.L.Leaf.moved_by c.args.history.now))
    (blank_area c.args.point.now.pane.now c.args.point.now.x c.args.point.now.y) in
    no_context_left s c.args.gesture c.args.contexts.now cs c.loop-number.number (drop_all c.loop-number.number c.args.contexts.now (omega arith)) c.loop-number.invariant
