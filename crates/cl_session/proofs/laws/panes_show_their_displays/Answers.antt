use Rattle.cl_session.proofs.CurrentLemmas.{current_always}
use Rattle.cl_session.proofs.laws.panes_show_their_displays.Goals as goal

pub returns : goal.returns
returns c = current_always
