use Rattle.cl_untouched.proofs.Untouched.{new-agrees}
use Rattle.cl_untouched.proofs.laws.what_is_kept_agrees_with_the_old_history.Goals as goal

pub returns : goal.returns
returns c = new-agrees
