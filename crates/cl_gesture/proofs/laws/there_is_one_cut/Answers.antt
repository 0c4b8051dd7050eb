use Rattle.cl_gesture.proofs.Cutting.{is_the_only_cut}
use Rattle.cl_gesture.proofs.laws.there_is_one_cut.Goals as goal

pub returns : goal.returns
returns c = is_the_only_cut
