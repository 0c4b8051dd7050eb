use Rattle.std.proofs.Common.{refl}
use Rattle.cl_display.proofs.displays.trapped.Goals as goal

pub same-nodes : goal.same-nodes
same-nodes c = refl
