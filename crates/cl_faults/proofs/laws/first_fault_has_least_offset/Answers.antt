use Rattle.cl_faults.proofs.FirstFault.{first_fault_has_least_offset}
use Rattle.cl_faults.proofs.laws.first_fault_has_least_offset.Goals as goal

pub returns : goal.returns
returns c w ds notes n o ordered e = first_fault_has_least_offset w ds notes n o ordered e
