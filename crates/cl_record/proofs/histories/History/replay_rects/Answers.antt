use Rattle.std.proofs.Common.{◌∙◌, List, subst}
use Rattle.cl_record.specs.Marks.{Mark, history_marks}
use Rattle.cl_record.specs.Replays.{Paints, items_drawn, cell_after, items_touching}
use Rattle.cl_record.proofs.Moves.{all-still}
use Rattle.cl_record.specs.Trees.{trees_of}
use Rattle.cl_record.proofs.Ranges.{placed-still}
use Rattle.cl_record.proofs.Regions.{painted-touching, shown_cell}
use Rattle.cl_record.proofs.histories.History.replay_rects.Goals as goal

pub replay_inside-requires : goal.replay_inside-requires
replay_inside-requires g c =
    placed-still g.L.Leaf.bounds g.L.Leaf.moved_by g.met.L.Leaf.moves_bounds (trees_of c.self.inside.nodes) c.summary.ensures.sound

pub returns-clause-paints : goal.returns-clause-paints
returns-clause-paints g c =
    rw (← c.self.view_is)
    (subst (λ (ms : List (Mark _)). Paints g.C.Canvas.shows g.C.Canvas.cell g.C.Canvas.keeps g.L.Leaf.cell c.args.canvas.now c.replay_inside.new.canvas (items_touching g.L.Leaf.bounds c.args.rects.now (items_drawn ms)))
    (all-still g.L.Leaf.moved_by g.met.L.Leaf.stays (history_marks g.L.Leaf.moved_by c.self.inside.nodes))
    c.replay_inside.ensures)

pub returns-clause-rects : goal.returns-clause-rects
returns-clause-rects g c = λ x y shown in_rects.
    let items = items_drawn (history_marks g.L.Leaf.moved_by c.args.self.now) in
    let under = g.C.Canvas.cell c.args.canvas.now x y in
    shown_cell (g.C.Canvas.shows c.args.canvas.now x y) (g.C.Canvas.cell c.replay_inside.new.canvas x y)
    (cell_after g.L.Leaf.cell (items_touching g.L.Leaf.bounds c.args.rects.now items) x y under) under shown
    ((returns-clause-paints g c).cells x y)
    ∙ painted-touching g.L.Leaf.bounds g.L.Leaf.cell g.met.L.Leaf.within c.args.rects.now items x y under in_rects
