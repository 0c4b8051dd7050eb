-- Where the shorter list ends, what is left is ordered as the lengths are.
use Rattle.std.proofs.Common.{sym, ◌∙◌, arith}
use Rattle.cl_value.proofs.+order.Goals as goal
use Rattle.cl_value.proofs.Parts.{order_end}

pub order::order_all-returns : goal.order::order_all-returns
order::order_all-returns t c = c.cmp.ensures ∙ sym (order_end _ _ c.loop-place.place (omega arith) (omega arith)) ∙ c.loop-place.invariant
