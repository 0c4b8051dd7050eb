use Rattle.std.proofs.Common.{drop}
use Rattle.std.specs.List.{flat_map}
use Rattle.cl_record.specs.TouchWalks.{touch_of}
use Rattle.cl_translate.specs.Choices.{gathered_high, place_gives}
use Rattle.cl_translate.specs.Scenes.{scene_of}
use Rattle.cl_translate.proofs.FirstLemmas.{Leads}
use Rattle.cl_translate.proofs.choosers.Chooser.of_gathered.Given as goal

abbrev pub invariant-loop-high : goal.invariant-loop-high
invariant-loop-high g l =
    Leads (place_gives (scene_of g.T.Types.holds g.T.Types.hierarchy l.self) l.context (touch_of l.candidate))
    (flat_map (gathered_high l.self.translators.now l.gesture l.precedence) (drop l.high-index l.highs))
    (flat_map (gathered_high l.self.translators.now l.gesture l.precedence) l.highs)
