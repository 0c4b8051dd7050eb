use Rattle.std.proofs.Common.{◌++◌, ◌+◌, ◌∙◌, arith, drop}
use Rattle.cl_application.specs.Panes.{panes_of}
use Rattle.cl_frame.specs.Frames.{reports_of_frame}
use Rattle.cl_frame.proofs.DeclaredPanes.{declared_pane, stands_at}
use Rattle.cl_session.specs.Step.{pane_lines, report_lines}
use Rattle.cl_session.specs.Transcript.{line_bytes}
use Rattle.cl_session.proofs.TellingLemmas.{lines-end, lines-next, report_at}
use Rattle.cl_session.proofs.WritingLemmas.{CutShort-next, Wrote-next, Wrote-none}
use Rattle.cl_session.proofs.speaking.put_panes.Goals as goal

pub returns-then-not-put_report-clause-puts : goal.returns-then-not-put_report-clause-puts
returns-then-not-put_report-clause-puts g c =
    let name = c.as_slice.ensures in
    let put = rw name at c.if-not-put_report.ensures.puts in
    let next = lines-next (panes_of c.args.app.now) (reports_of_frame c.args.frame.now) c.panes.place c.in-Some.declared.now c.index.result.now.report
    (declared_pane c.args.app.now.frame.panes c.panes.place c.in-Some.declared.now c.in-Some.ensures)
    (report_at c.args.frame.now.panes.items c.panes.place c.index.result.now
    (stands_at c.args.frame.now.panes.items c.panes.place c.index.result.now (omega (arith, c.panes-test.true, c.min-place-end.ensures, c.len-2.ensures)) c.index.ensures)) in
    CutShort-next (g.O.Sink.taken c.args.out.now) (g.O.Sink.taken c.panes.out) (g.O.Sink.taken c.put_report.new.out)
    (c.args.outgoing.now ++ line_bytes (pane_lines (panes_of c.args.app.now) (reports_of_frame c.args.frame.now))) c.panes.outgoing
    (line_bytes (pane_lines (drop c.panes.place (panes_of c.args.app.now)) (drop c.panes.place (reports_of_frame c.args.frame.now))))
    (line_bytes (report_lines c.in-Some.declared.now.name c.index.result.now.report))
    (line_bytes (pane_lines (drop (c.panes.place + 1) (panes_of c.args.app.now)) (drop (c.panes.place + 1) (reports_of_frame c.args.frame.now))))
    (g.O.Sink.faults c.args.out.now) (g.O.Sink.faults c.panes.out) (g.O.Sink.faults c.put_report.new.out)
    next c.panes.invariant.wrote c.panes.invariant.later put

pub panes-preserved : goal.panes-preserved
panes-preserved g c =
    let name = c.as_slice.ensures in
    let put = rw name at c.if-not-put_report.ensures.puts in
    let next = lines-next (panes_of c.args.app.now) (reports_of_frame c.args.frame.now) c.panes.place c.in-Some.declared.now c.index.result.now.report
    (declared_pane c.args.app.now.frame.panes c.panes.place c.in-Some.declared.now c.in-Some.ensures)
    (report_at c.args.frame.now.panes.items c.panes.place c.index.result.now
    (stands_at c.args.frame.now.panes.items c.panes.place c.index.result.now (omega (arith, c.panes-test.true, c.min-place-end.ensures, c.len-2.ensures)) c.index.ensures)) in
    record {
      lent = c.if-not-put_report.ensures.lent ∙ c.panes.invariant.lent;
      wrote = Wrote-next (g.O.Sink.taken c.args.out.now) (g.O.Sink.taken c.panes.out) (g.O.Sink.taken c.put_report.new.out)
          (c.args.outgoing.now ++ line_bytes (pane_lines (panes_of c.args.app.now) (reports_of_frame c.args.frame.now))) c.panes.outgoing c.put_report.new.outgoing
          (line_bytes (pane_lines (drop c.panes.place (panes_of c.args.app.now)) (drop c.panes.place (reports_of_frame c.args.frame.now))))
          (line_bytes (report_lines c.in-Some.declared.now.name c.index.result.now.report))
          (line_bytes (pane_lines (drop (c.panes.place + 1) (panes_of c.args.app.now)) (drop (c.panes.place + 1) (reports_of_frame c.args.frame.now))))
          next c.panes.invariant.wrote put;
      later = omega (arith, c.panes.invariant.later, c.if-not-put_report.ensures.later);
    }

pub returns-clause-puts : goal.returns-clause-puts
returns-clause-puts g c =
    Wrote-none (g.O.Sink.taken c.args.out.now) (g.O.Sink.taken c.panes.out)
    (c.args.outgoing.now ++ line_bytes (pane_lines (panes_of c.args.app.now) (reports_of_frame c.args.frame.now))) c.panes.outgoing
    (line_bytes (pane_lines (drop c.panes.place (panes_of c.args.app.now)) (drop c.panes.place (reports_of_frame c.args.frame.now))))
    (lines-end c.args.app.now c.args.frame.now.panes.items c.panes.place
    (omega (arith, c.panes-test.false, c.min-place-end.ensures, c.len.ensures, c.len-2.ensures))) c.panes.invariant.wrote
