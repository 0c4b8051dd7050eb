use Rattle.std.proofs.Common.{◌≡◌, [], drop}
use Rattle.cl_opening.specs.Placing.{place_panes}
use Rattle.cl_opening.proofs.placing.place_panes.Given as goal

abbrev pub invariant-loop-pane : goal.invariant-loop-pane
invariant-loop-pane l = place_panes l.width l.height (drop l.pane-index l.panes) l.placed ≡ place_panes l.width l.height l.panes []
