use Rattle.cl_gesture.proofs.Cutting.{are_the_bytes}
use Rattle.cl_gesture.proofs.laws.cutting_keeps_the_bytes.Goals as goal

pub returns : goal.returns
returns c = are_the_bytes
