use Rattle.std.proofs.Common.{◌≡◌, get_or, sym, ◌∙◌, ap, arith}
use Rattle.std.proofs.lemmas.List.{drop_all}
use Rattle.std.specs.List.{flat_map}
use Rattle.cl_record.specs.TouchWalks.{touch_of}
use Rattle.cl_value.specs.Value.{data_of}
use Rattle.cl_translate.specs.Choices.{gathered, gathered_high, place_gives}
use Rattle.cl_translate.specs.Scenes.{scene_of}
use Rattle.cl_translate.proofs.FirstLemmas.{First, is_none, is_there, no_part_left, part_found, part_passed}
use Rattle.cl_translate.proofs.HighLemmas.{gathered_by, high_here, high_small}
use Rattle.cl_translate.proofs.choosers.Chooser.of_gathered.Goals as goal

pub of_high-requires : goal.of_high-requires
of_high-requires g c =
    high_small c.args.self.now.translators.now c.args.gesture c.args.highs.now c.loop-high.high-index c.requires c.loop-high-test.true

pub returns-then-is_some : goal.returns-then-is_some
returns-then-is_some g c =
    let given = place_gives (scene_of g.T.Types.holds g.T.Types.hierarchy c.args.self.now) c.args.context.now (touch_of c.args.candidate) in
    let part = gathered_high c.args.self.now.translators.now c.args.gesture c.args.precedence.now in
    let all : flat_map part c.args.highs.now ≡ gathered c.args.self.now.translators.now c.args.gesture c.args.precedence.now =
    ap (flat_map part) c.requires ∙ gathered_by c.args.self.now.translators.now c.args.gesture c.args.precedence.now in
    is_there data_of (First given (part (get_or c.args.highs.now c.loop-high.high-index 0))) (First given (gathered c.args.self.now.translators.now c.args.gesture c.args.precedence.now))
    c.in_ok-found.found (sym c.is_some.ensures ∙ c.if-is_some.true)
    (λ r h. rw (← all) (part_found given part c.args.highs.now c.loop-high.high-index (get_or c.args.highs.now c.loop-high.high-index 0) r
    (high_here c.args.highs.now c.loop-high.high-index c.loop-high-test.true) c.loop-high.invariant h)) c.in_ok-found.ensures

pub loop-high-preserved : goal.loop-high-preserved
loop-high-preserved g c =
    let given = place_gives (scene_of g.T.Types.holds g.T.Types.hierarchy c.args.self.now) c.args.context.now (touch_of c.args.candidate) in
    let part = gathered_high c.args.self.now.translators.now c.args.gesture c.args.precedence.now in
    part_passed given part c.args.highs.now c.loop-high.high-index (get_or c.args.highs.now c.loop-high.high-index 0)
    (high_here c.args.highs.now c.loop-high.high-index c.loop-high-test.true) c.loop-high.invariant
    (is_none data_of (First given (part (get_or c.args.highs.now c.loop-high.high-index 0))) c.in_ok-found.found (sym c.is_some.ensures ∙ c.if-is_some.false) c.in_ok-found.ensures)

pub returns : goal.returns
returns g c =
    let given = place_gives (scene_of g.T.Types.holds g.T.Types.hierarchy c.args.self.now) c.args.context.now (touch_of c.args.candidate) in
    let part = gathered_high c.args.self.now.translators.now c.args.gesture c.args.precedence.now in
    let all : flat_map part c.args.highs.now ≡ gathered c.args.self.now.translators.now c.args.gesture c.args.precedence.now =
    ap (flat_map part) c.requires ∙ gathered_by c.args.self.now.translators.now c.args.gesture c.args.precedence.now in
    rw (← all) (no_part_left given part c.args.highs.now c.loop-high.high-index (drop_all c.loop-high.high-index c.args.highs.now (omega arith)) c.loop-high.invariant)
