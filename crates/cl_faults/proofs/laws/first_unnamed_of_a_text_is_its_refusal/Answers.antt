use Rattle.cl_faults.proofs.LoadedText.{unnamed_refused}
use Rattle.cl_faults.proofs.laws.first_unnamed_of_a_text_is_its_refusal.Goals as goal

pub returns : goal.returns
returns c bounds bytes forms at read first = unnamed_refused bytes forms read bounds at first
