use Rattle.std.proofs.Common.{ℕ, List, filter, sym, ◌∙◌, arith}
use Rattle.std.proofs.lemmas.List.{drop_all}
use Rattle.cl_record.specs.TouchWalks.{touch_of}
use Rattle.cl_translators.specs.Order.{is_for}
use Rattle.cl_translators.specs.declared.declarations.TranslatorPlace.{TranslatorPlace}
use Rattle.cl_value.specs.Value.{data_of}
use Rattle.cl_translate.specs.Choices.{gathered_high, place_gives}
use Rattle.cl_translate.specs.Scenes.{scene_of}
use Rattle.cl_translate.proofs.FirstLemmas.{First, is_none, is_there, item_here, no_part_left, part_found, part_passed}
use Rattle.cl_translate.proofs.choosers.Chooser.of_high.Goals as goal

pub returns-then-is_some : goal.returns-then-is_some
returns-then-is_some g c =
    let given = place_gives (scene_of g.T.Types.holds g.T.Types.hierarchy c.args.self.now) c.args.context.now (touch_of c.args.candidate) in
    let part : List ℕ → List TranslatorPlace = λ from. filter (is_for c.args.gesture from c.args.high) c.args.self.now.translators.now in
    is_there data_of (First given (part c.from-item.result)) (First given (gathered_high c.args.self.now.translators.now c.args.gesture c.args.precedence.now c.args.high))
    c.in_ok-found.found (sym c.is_some.ensures ∙ c.if-is_some.true)
    (λ r h. part_found given part c.args.precedence.now c.loop-from.from-index c.from-item.result r
    (item_here c.args.precedence.now c.loop-from.from-index c.from-item.result c.loop-from-test.true c.from-item.is) c.loop-from.invariant h)
    (rw c.group-places.ensures at c.in_ok-found.ensures)

pub loop-from-preserved : goal.loop-from-preserved
loop-from-preserved g c =
    let given = place_gives (scene_of g.T.Types.holds g.T.Types.hierarchy c.args.self.now) c.args.context.now (touch_of c.args.candidate) in
    let part : List ℕ → List TranslatorPlace = λ from. filter (is_for c.args.gesture from c.args.high) c.args.self.now.translators.now in
    part_passed given part c.args.precedence.now c.loop-from.from-index c.from-item.result
    (item_here c.args.precedence.now c.loop-from.from-index c.from-item.result c.loop-from-test.true c.from-item.is) c.loop-from.invariant
    (is_none data_of (First given (part c.from-item.result)) c.in_ok-found.found (sym c.is_some.ensures ∙ c.if-is_some.false) (rw c.group-places.ensures at c.in_ok-found.ensures))

pub returns : goal.returns
returns g c =
    let given = place_gives (scene_of g.T.Types.holds g.T.Types.hierarchy c.args.self.now) c.args.context.now (touch_of c.args.candidate) in
    let part : List ℕ → List TranslatorPlace = λ from. filter (is_for c.args.gesture from c.args.high) c.args.self.now.translators.now in
    no_part_left given part c.args.precedence.now c.loop-from.from-index (drop_all c.loop-from.from-index c.args.precedence.now (omega arith)) c.loop-from.invariant
