use Rattle.std.proofs.Common.{sym, ◌∙◌}
use Rattle.std.specs.Prelude.{option_map}
use Rattle.cl_record.specs.TouchWalks.{touch_of}
use Rattle.cl_syntax.specs.TypeSpecTree.{name_of}
use Rattle.cl_value.specs.Value.{data_of}
use Rattle.cl_translate.specs.Applies.{precedence_of}
use Rattle.cl_translate.specs.Choices.{gathered, gives, place_gives, translators_for}
use Rattle.cl_translate.specs.Scenes.{scene_of}
use Rattle.cl_translate.proofs.FirstLemmas.{First, each_ok, is_none, is_there}
use Rattle.cl_translate.proofs.GivesLemmas.{declared_first, identity_last}
use Rattle.cl_translate.proofs.choosers.Chooser.of_candidate.Goals as goal

pub returns-then-is_some : goal.returns-then-is_some
returns-then-is_some g c =
    let s = scene_of g.T.Types.holds g.T.Types.hierarchy c.args.self.now in
    let ps = gathered s.translators c.args.gesture (precedence_of s (name_of c.args.candidate.spec.now)) in
    is_there data_of (First (place_gives s c.args.context.now (touch_of c.args.candidate)) ps)
    (First (gives s c.args.context.now (touch_of c.args.candidate)) (translators_for s c.args.gesture (name_of c.args.candidate.spec.now)))
    c.in_ok-found.found (sym c.is_some.ensures ∙ c.if-is_some.true)
    (declared_first s c.args.context.now (touch_of c.args.candidate) c.args.gesture ps) (rw c.precedence_of-precedence.ensures at c.in_ok-found.ensures)

pub returns : goal.returns
returns g c =
    let s = scene_of g.T.Types.holds g.T.Types.hierarchy c.args.self.now in
    let ps = gathered s.translators c.args.gesture (precedence_of s (name_of c.args.candidate.spec.now)) in
    each_ok _ _ c.of_identities.result
    (λ o h. identity_last s c.args.context.now (touch_of c.args.candidate) c.args.gesture ps (option_map data_of o)
    (is_none data_of (First (place_gives s c.args.context.now (touch_of c.args.candidate)) ps) c.in_ok-found.found (sym c.is_some.ensures ∙ c.if-is_some.false)
    (rw c.precedence_of-precedence.ensures at c.in_ok-found.ensures)) h) c.of_identities.ensures
