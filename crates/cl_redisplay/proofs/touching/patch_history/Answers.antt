use Rattle.std.proofs.Common.{List, subst}
use Rattle.cl_record.specs.Marks.{Mark, history_marks}
use Rattle.cl_record.specs.Replays.{items_drawn}
use Rattle.cl_record.specs.Trees.{trees_of}
use Rattle.cl_record.proofs.Moves.{all-still}
use Rattle.cl_record.proofs.Ranges.{placed-still}
use Rattle.cl_spans.specs.SpanRows.{spans_hold}
use Rattle.cl_redisplay.specs.Touching.{PaintsThose}
use Rattle.cl_redisplay.proofs.touching.patch_history.Goals as goal

pub patch_inside-requires-clause-placed : goal.patch_inside-requires-clause-placed
patch_inside-requires-clause-placed g c =
    placed-still g.L.Leaf.bounds g.L.Leaf.moved_by g.met.L.Leaf.moves_bounds (trees_of c.nodes-nodes.result.now) c.summary.ensures.sound

pub returns : goal.returns
returns g c =
    rw (← c.nodes-nodes.ensures)
    (subst (λ (ms : List (Mark _)). PaintsThose g.L.Leaf.cell c.args.raster.now c.patch_inside.new.raster c.args.area (spans_hold c.args.touched.now) (items_drawn ms))
    (all-still g.L.Leaf.moved_by g.met.L.Leaf.stays (history_marks g.L.Leaf.moved_by c.nodes-nodes.result.now))
    c.patch_inside.ensures)
