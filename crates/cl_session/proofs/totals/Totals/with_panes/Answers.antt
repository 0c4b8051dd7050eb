use Rattle.std.proofs.Common.{◌+◌, ◌∙◌, ap, drop, map, sym}
use Rattle.cl_frame.specs.Panes.{report_of_pane}
use Rattle.cl_frame.specs.declared.panes.Pane.{Pane}
use Rattle.cl_session.specs.Totals.{with_report, with_reports}
use Rattle.cl_session.proofs.TotalsLemmas.{counted-next}
use Rattle.cl_session.proofs.totals.Totals.with_panes.Goals as goal

pub loop-pane-preserved : goal.loop-pane-preserved
loop-pane-preserved c =
    rw c.with_report-totals.ensures
    (ap (λ (p : Pane). with_reports (with_report c.loop-pane.totals (report_of_pane p)) (map report_of_pane (drop (c.loop-pane.pane-index + 1) c.args.panes.now))) c.pane-item.is
    ∙ (sym (counted-next c.loop-pane.totals c.args.panes.now c.pane-item.result c.loop-pane.pane-index c.loop-pane-test.true) ∙ c.loop-pane.invariant))
