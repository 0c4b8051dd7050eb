use Rattle.cl_faults.proofs.LoadedText.{blame_refused}
use Rattle.cl_faults.proofs.laws.first_blame_of_a_text_is_its_refusal.Goals as goal

pub returns : goal.returns
returns c bounds bytes forms number at read first = blame_refused bytes forms read bounds number at first
