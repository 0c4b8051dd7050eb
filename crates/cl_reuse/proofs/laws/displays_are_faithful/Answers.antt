use Rattle.cl_reuse.proofs.DisplayNames.{pane-own}
use Rattle.cl_reuse.proofs.DisplayPays.{display-faithful}
use Rattle.cl_reuse.proofs.laws.displays_are_faithful.Goals as goal

pub returns-clause-drawn : goal.returns-clause-drawn
returns-clause-drawn c = display-faithful

pub returns-clause-panes : goal.returns-clause-panes
returns-clause-panes c = pane-own
