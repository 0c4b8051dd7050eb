use Rattle.std.proofs.Common.{◌≡◌, ◌++◌, All, drop, map}
use Rattle.cl_application.specs.Panes.{panes_of}
use Rattle.cl_frame.specs.Frames.{IsBlankPane}
use Rattle.cl_frame.specs.Panes.{area_of, area_of_pane}
use Rattle.cl_frame.proofs.frames.blank_panes.Given as goal

abbrev pub invariant-loop-place : goal.invariant-loop-place
invariant-loop-place l = record {
  areas : map area_of_pane l.panes.items ++ map area_of (drop l.place (panes_of l.app)) ≡ map area_of (panes_of l.app);
  blank : All IsBlankPane l.panes.items;
}
