use Rattle.std.proofs.Common.{arith}
use Rattle.cl_value.proofs.row.Row.push.Goals as goal
use Rattle.cl_value.proofs.Rows.{measured_behind}

pub invariant_of-self-2 : goal.invariant_of-self-2
invariant_of-self-2 c = rw c.in_default.ensures.items (measured_behind _ _ _ _ _ _ c.self.invariant (omega (arith, c.size.ensures, c.saturating_add-size.ensures)) (omega (arith, c.depth.ensures, c.max-depth.ensures)))
