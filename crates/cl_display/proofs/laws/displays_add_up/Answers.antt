use Rattle.cl_display.proofs.DisplayLemmas.{adds_up}
use Rattle.cl_display.proofs.laws.displays_add_up.Goals as goal

pub returns : goal.returns
returns c = adds_up
