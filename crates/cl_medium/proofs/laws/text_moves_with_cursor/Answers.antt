use Rattle.cl_medium.proofs.Placed.{text_moves}
use Rattle.cl_medium.proofs.laws.text_moves_with_cursor.Goals as goal

pub returns : goal.returns
returns c = text_moves
