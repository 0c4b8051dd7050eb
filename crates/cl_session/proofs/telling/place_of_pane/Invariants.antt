use Rattle.std.proofs.Common.{◌≡◌, drop}
use Rattle.std.specs.List.{position_from}
use Rattle.cl_application.specs.Panes.{panes_of}
use Rattle.cl_session.specs.Telling.{is_pane_named, place_of_pane}
use Rattle.cl_session.proofs.telling.place_of_pane.Given as goal

abbrev pub invariant-loop-place : goal.invariant-loop-place
invariant-loop-place l = position_from (is_pane_named l.name) l.place (drop l.place (panes_of l.app)) ≡ place_of_pane l.name (panes_of l.app)
