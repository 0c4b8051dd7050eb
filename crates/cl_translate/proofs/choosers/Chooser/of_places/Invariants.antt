use Rattle.std.proofs.Common.{drop}
use Rattle.cl_record.specs.TouchWalks.{touch_of}
use Rattle.cl_translate.specs.Choices.{place_gives}
use Rattle.cl_translate.specs.Scenes.{scene_of}
use Rattle.cl_translate.proofs.FirstLemmas.{Leads}
use Rattle.cl_translate.proofs.choosers.Chooser.of_places.Given as goal

abbrev pub invariant-loop-place : goal.invariant-loop-place
invariant-loop-place g l = Leads (place_gives (scene_of g.T.Types.holds g.T.Types.hierarchy l.self) l.context (touch_of l.candidate)) (drop l.place-index l.places) l.places
