use Rattle.std.proofs.Common.{drop, map}
use Rattle.std.specs.List.{flat_map}
use Rattle.cl_record.specs.TouchWalks.{touch_of}
use Rattle.cl_translate.specs.Choices.{trial_gives, trials_in, trials_of}
use Rattle.cl_translate.specs.Scenes.{scene_of}
use Rattle.cl_translate.proofs.FirstLemmas.{Leads}
use Rattle.cl_translate.proofs.choosers.Chooser.in_context.Given as goal

abbrev pub invariant-loop-candidate : goal.invariant-loop-candidate
invariant-loop-candidate g l =
    Leads (trial_gives (scene_of g.T.Types.holds g.T.Types.hierarchy l.self) l.context)
    (flat_map (trials_of (scene_of g.T.Types.holds g.T.Types.hierarchy l.self) l.gesture) (drop l.candidate-index (map touch_of l.candidates)))
    (trials_in (scene_of g.T.Types.holds g.T.Types.hierarchy l.self) l.gesture (map touch_of l.candidates))
