use Rattle.std.proofs.Common.{◌≡◌, drop, map}
use Rattle.cl_frame.specs.Panes.{report_of_pane}
use Rattle.cl_session.specs.Totals.{with_reports}
use Rattle.cl_session.proofs.totals.Totals.with_panes.Given as goal

abbrev pub invariant-loop-pane : goal.invariant-loop-pane
invariant-loop-pane l =
    with_reports l.totals (map report_of_pane (drop l.pane-index l.panes)) ≡ with_reports l.fn.self (map report_of_pane l.panes)
