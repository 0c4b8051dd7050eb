use Rattle.cl_reuse.proofs.BodyMoves.{bodies-move, forms-move}
use Rattle.cl_reuse.proofs.laws.a_body_moved_is_the_body_drawn_anew.Goals as goal

pub returns-clause-forms : goal.returns-clause-forms
returns-clause-forms c = forms-move

pub returns-clause-bodies : goal.returns-clause-bodies
returns-clause-bodies c = bodies-move
