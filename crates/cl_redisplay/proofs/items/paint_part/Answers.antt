use Rattle.cl_redisplay.proofs.PartLemmas.{no_rows, paints_empty, paints_parts, row_more}
use Rattle.cl_redisplay.proofs.items.paint_part.Goals as goal

pub loop-row-init : goal.loop-row-init
loop-row-init g c = paints_empty g.L.Leaf.cell _ _ _ _ (no_rows c.args.part.x c.args.part.y c.args.part.width)

pub loop-row-preserved : goal.loop-row-preserved
loop-row-preserved g c =
    paints_parts g.L.Leaf.cell _ _ _ c.args.area _ _ _ (g.L.Leaf.moved_by c.args.at c.args.item.now) c.loop-row.invariant c.paint_line.ensures
    (λ x y. row_more c.args.part.x c.args.part.y c.args.part.width c.loop-row.row x y)
