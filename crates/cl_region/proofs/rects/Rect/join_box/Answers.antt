use Rattle.std.proofs.Common.{sym, ◌∙◌}
use Rattle.cl_region.proofs.Corners.{box-left, box-right, box-least, has_cell, wrong}
use Rattle.cl_region.proofs.rects.Rect.join_box.Goals as goal

pub returns-clause-left : goal.returns-clause-left
returns-clause-left c = rw c.corners_box.ensures.corners (box-left c.args.self.now c.args.other.now)

pub returns-clause-right : goal.returns-clause-right
returns-clause-right c = rw c.corners_box.ensures.corners (box-right c.args.self.now c.args.other.now)

pub returns-clause-least : goal.returns-clause-least
returns-clause-least c =
    λ r p q. rw c.corners_box.ensures.corners (box-least c.args.self.now c.args.other.now r (has_cell _ (λ e. wrong (sym c.if-is_empty.false ∙ c.is_empty.ensures.cells.1 e))) (has_cell _ (λ e. wrong (sym c.if-is_empty-2.false ∙ c.is_empty-2.ensures.cells.1 e))) p q)
