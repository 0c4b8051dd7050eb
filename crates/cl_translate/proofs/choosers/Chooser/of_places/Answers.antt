use Rattle.std.proofs.Common.{◌≡◌, sym, ◌∙◌, arith}
use Rattle.std.proofs.lemmas.List.{drop_all}
use Rattle.std.specs.Prelude.{Some, None}
use Rattle.cl_record.specs.TouchWalks.{touch_of}
use Rattle.cl_value.specs.Value.{data_of}
use Rattle.cl_translate.specs.Choices.{place_gives}
use Rattle.cl_translate.specs.Scenes.{scene_of}
use Rattle.cl_translate.proofs.FirstLemmas.{First, is_none, is_there, item_here, none_left, of_one, one_found, one_passed}
use Rattle.cl_translate.proofs.choosers.Chooser.of_places.Goals as goal

pub returns-then-is_some : goal.returns-then-is_some
returns-then-is_some g c =
    let given = place_gives (scene_of g.T.Types.holds g.T.Types.hierarchy c.args.self.now) c.args.context.now (touch_of c.args.candidate) in
    is_there data_of (λ o. o ≡ given c.place-item.result) (First given c.args.places.now) c.in_ok-found.found (sym c.is_some.ensures ∙ c.if-is_some.true)
    (λ r h. one_found given c.args.places.now c.loop-place.place-index c.place-item.result r
    (item_here c.args.places.now c.loop-place.place-index c.place-item.result c.loop-place-test.true c.place-item.is) c.loop-place.invariant
    (of_one given c.place-item.result (Some r) h))
    c.in_ok-found.ensures

pub loop-place-preserved : goal.loop-place-preserved
loop-place-preserved g c =
    let given = place_gives (scene_of g.T.Types.holds g.T.Types.hierarchy c.args.self.now) c.args.context.now (touch_of c.args.candidate) in
    one_passed given c.args.places.now c.loop-place.place-index c.place-item.result
    (item_here c.args.places.now c.loop-place.place-index c.place-item.result c.loop-place-test.true c.place-item.is) c.loop-place.invariant
    (of_one given c.place-item.result None
    (is_none data_of (λ o. o ≡ given c.place-item.result) c.in_ok-found.found (sym c.is_some.ensures ∙ c.if-is_some.false) c.in_ok-found.ensures))

pub returns : goal.returns
returns g c =
    let given = place_gives (scene_of g.T.Types.holds g.T.Types.hierarchy c.args.self.now) c.args.context.now (touch_of c.args.candidate) in
    none_left given c.args.places.now c.loop-place.place-index (drop_all c.loop-place.place-index c.args.places.now (omega arith)) c.loop-place.invariant
