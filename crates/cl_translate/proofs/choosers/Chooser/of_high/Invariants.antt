use Rattle.std.proofs.Common.{drop}
use Rattle.cl_record.specs.TouchWalks.{touch_of}
use Rattle.cl_translate.specs.Choices.{gathered_high, place_gives}
use Rattle.cl_translate.specs.Scenes.{scene_of}
use Rattle.cl_translate.proofs.FirstLemmas.{Leads}
use Rattle.cl_translate.proofs.choosers.Chooser.of_high.Given as goal

abbrev pub invariant-loop-from : goal.invariant-loop-from
invariant-loop-from g l =
    Leads (place_gives (scene_of g.T.Types.holds g.T.Types.hierarchy l.self) l.context (touch_of l.candidate))
    (gathered_high l.self.translators.now l.gesture (drop l.from-index l.precedence) l.high) (gathered_high l.self.translators.now l.gesture l.precedence l.high)
