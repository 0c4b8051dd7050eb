use Rattle.cl_value.proofs.Value.equal.Goals as goal
use Rattle.cl_value.proofs.Same.{equal_test}

pub returns : goal.returns
returns c = rw c.is_eq.ensures (equal_test _ _ c.order.result c.order.ensures)
