use Rattle.cl_faults.proofs.TextOrder.{first_fault_of_a_text_has_least_offset}
use Rattle.cl_faults.proofs.laws.first_fault_of_a_text_has_least_offset.Goals as goal

pub returns : goal.returns
returns c bytes forms w notes n o a e = first_fault_of_a_text_has_least_offset bytes forms w notes n o a e
