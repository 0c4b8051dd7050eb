use Rattle.cl_gesture.proofs.Spelling.{are_spelled}
use Rattle.cl_gesture.proofs.laws.gestures_are_spelled.Goals as goal

pub returns : goal.returns
returns c = are_spelled
