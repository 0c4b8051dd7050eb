use Rattle.std.proofs.Common.{◌≡◌, drop}
use Rattle.cl_opening.specs.Placing.{is_apart}
use Rattle.cl_opening.proofs.placing.is_apart.Given as goal

abbrev pub invariant-loop-place : goal.invariant-loop-place
invariant-loop-place l = is_apart l.pane (drop l.place l.placed) ≡ is_apart l.pane l.placed
