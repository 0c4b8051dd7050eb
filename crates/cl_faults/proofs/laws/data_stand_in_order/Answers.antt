use Rattle.cl_faults.proofs.TextOrder.{data_stand_in_order}
use Rattle.cl_faults.proofs.laws.data_stand_in_order.Goals as goal

pub returns : goal.returns
returns c bytes forms a = data_stand_in_order bytes forms a
