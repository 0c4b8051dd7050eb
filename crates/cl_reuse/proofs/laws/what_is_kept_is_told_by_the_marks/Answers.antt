use Rattle.cl_reuse.proofs.ToldKept.{kept-told}
use Rattle.cl_reuse.proofs.laws.what_is_kept_is_told_by_the_marks.Goals as goal

pub returns : goal.returns
returns c = kept-told
