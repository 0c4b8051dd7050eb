use Rattle.std.proofs.Common.{sym, ◌∙◌, map, arith}
use Rattle.std.specs.Prelude.{Some, option_map}
use Rattle.cl_record.specs.TouchWalks.{touch_of}
use Rattle.cl_syntax.specs.TypeSpecTree.{name_of}
use Rattle.cl_value.specs.Value.{data_of}
use Rattle.cl_translate.specs.Choices.{gives, translators_for, trial_gives, trials_in, trials_of}
use Rattle.cl_translate.specs.Scenes.{scene_of}
use Rattle.cl_translate.proofs.CandidateLemmas.{none_behind, of_trials, seen_here}
use Rattle.cl_translate.proofs.FirstLemmas.{First, is_none, is_there, no_part_left, part_found, part_passed}
use Rattle.cl_translate.proofs.choosers.Chooser.in_context.Goals as goal

pub returns-then-is_some : goal.returns-then-is_some
returns-then-is_some g c =
    let s = scene_of g.T.Types.holds g.T.Types.hierarchy c.args.self.now in
    let cs = map touch_of c.args.candidates.now in
    let t = touch_of c.candidate-item.result in
    is_there data_of (First (gives s c.args.context.now t) (translators_for s c.args.gesture (name_of t.spec)))
    (First (trial_gives s c.args.context.now) (trials_in s c.args.gesture cs)) c.in_ok-found.found (sym c.is_some.ensures ∙ c.if-is_some.true)
    (λ r h. part_found (trial_gives s c.args.context.now) (trials_of s c.args.gesture) cs c.loop-candidate.candidate-index t r
    (seen_here touch_of c.args.candidates.now c.loop-candidate.candidate-index c.candidate-item.result c.loop-candidate-test.true c.candidate-item.is)
    c.loop-candidate.invariant (of_trials s c.args.context.now c.args.gesture t (Some r) h))
    c.in_ok-found.ensures

pub loop-candidate-preserved : goal.loop-candidate-preserved
loop-candidate-preserved g c =
    let s = scene_of g.T.Types.holds g.T.Types.hierarchy c.args.self.now in
    let cs = map touch_of c.args.candidates.now in
    let t = touch_of c.candidate-item.result in
    part_passed (trial_gives s c.args.context.now) (trials_of s c.args.gesture) cs c.loop-candidate.candidate-index t
    (seen_here touch_of c.args.candidates.now c.loop-candidate.candidate-index c.candidate-item.result c.loop-candidate-test.true c.candidate-item.is)
    c.loop-candidate.invariant
    (is_none data_of (First (trial_gives s c.args.context.now) (trials_of s c.args.gesture t)) c.in_ok-found.found (sym c.is_some.ensures ∙ c.if-is_some.false)
    (of_trials s c.args.context.now c.args.gesture t (option_map data_of c.in_ok-found.found) c.in_ok-found.ensures))

pub returns : goal.returns
returns g c =
    let s = scene_of g.T.Types.holds g.T.Types.hierarchy c.args.self.now in
    let cs = map touch_of c.args.candidates.now in
    no_part_left (trial_gives s c.args.context.now) (trials_of s c.args.gesture) cs c.loop-candidate.candidate-index
    (none_behind touch_of c.args.candidates.now c.loop-candidate.candidate-index (omega arith)) c.loop-candidate.invariant
