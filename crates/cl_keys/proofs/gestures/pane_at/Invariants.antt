use Rattle.std.proofs.Common.{◌≡◌, drop, map}
use Rattle.cl_application.specs.Panes.{declared_by}
use Rattle.cl_keys.specs.Gestures.{pane_at}
use Rattle.cl_keys.proofs.gestures.pane_at.Given as goal

abbrev pub invariant-loop-place : goal.invariant-loop-place
invariant-loop-place l = pane_at l.column l.row (map declared_by (drop l.place l.panes)) ≡ pane_at l.column l.row (map declared_by l.panes)
