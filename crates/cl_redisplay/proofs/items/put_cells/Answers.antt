use Rattle.cl_redisplay.specs.Parts.{row_cell}
use Rattle.cl_redisplay.proofs.PartLemmas.{column_more, no_columns, paints_empty, paints_parts, place}
use Rattle.cl_redisplay.proofs.items.put_cells.Goals as goal

pub loop-column-init : goal.loop-column-init
loop-column-init c = paints_empty row_cell _ _ _ _ (no_columns c.args.line.x c.args.line.y c.args.line.height)

pub loop-column-preserved : goal.loop-column-preserved
loop-column-preserved c =
    paints_parts row_cell _ _ _ c.args.line _ (place _ _) _ c.args.cells.now c.loop-column.invariant c.put_cell.ensures
    (λ x y. column_more c.args.line.x c.args.line.y c.loop-column.column c.args.line.height x y c.requires.one)
