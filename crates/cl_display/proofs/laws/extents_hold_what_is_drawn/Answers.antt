use Rattle.cl_display.proofs.DisplayLemmas.{holds_drawn}
use Rattle.cl_display.proofs.laws.extents_hold_what_is_drawn.Goals as goal

pub returns : goal.returns
returns c = holds_drawn
