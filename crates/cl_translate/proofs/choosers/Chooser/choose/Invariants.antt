use Rattle.std.proofs.Common.{drop}
use Rattle.cl_record.specs.Marks.{history_marks}
use Rattle.cl_record.specs.Touches.{touched_labels}
use Rattle.cl_translate.specs.Choices.{blank_area, candidates, trials, tried}
use Rattle.cl_translate.specs.Scenes.{scene_of}
use Rattle.cl_translate.proofs.FirstLemmas.{Leads}
use Rattle.cl_translate.proofs.choosers.Chooser.choose.Given as goal

abbrev pub invariant-loop-number : goal.invariant-loop-number
invariant-loop-number g l =
    Leads (tried (scene_of g.T.Types.holds g.T.Types.hierarchy l.self))
    (trials (scene_of g.T.Types.holds g.T.Types.hierarchy l.self) l.gesture l.number (drop l.number l.contexts)
    (candidates (touched_labels g.L.Leaf.bounds l.point.x l.point.y (history_marks g.L.Leaf.moved_by l.history)) (blank_area l.point.pane.now l.point.x l.point.y)))
    (trials (scene_of g.T.Types.holds g.T.Types.hierarchy l.self) l.gesture 0 l.contexts
    (candidates (touched_labels g.L.Leaf.bounds l.point.x l.point.y (history_marks g.L.Leaf.moved_by l.history)) (blank_area l.point.pane.now l.point.x l.point.y)))
