use Rattle.cl_gesture.proofs.Cutting.{are_well_cut}
use Rattle.cl_gesture.proofs.laws.pieces_are_well_cut.Goals as goal

pub returns : goal.returns
returns c = are_well_cut
