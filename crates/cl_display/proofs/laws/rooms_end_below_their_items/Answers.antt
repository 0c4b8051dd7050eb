use Rattle.cl_display.proofs.DisplayLemmas.{room-ends}
use Rattle.cl_display.proofs.laws.rooms_end_below_their_items.Goals as goal

pub returns : goal.returns
returns c = room-ends
