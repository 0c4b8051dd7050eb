use Rattle.cl_application.specs.Panes.{panes_of}
use Rattle.cl_frame.specs.Frames.{reports_of_frame}
use Rattle.cl_session.specs.Step.{pane_lines, wire_lines}
use Rattle.cl_session.specs.Transcript.{line_bytes}
use Rattle.cl_session.proofs.WritingLemmas.{Puts-first, Puts-then, line_bytes-append}
use Rattle.cl_session.proofs.speaking.put_behind.Goals as goal

pub returns-then-not-put_panes-clause-puts : goal.returns-then-not-put_panes-clause-puts
returns-then-not-put_panes-clause-puts g c =
    let panes = pane_lines (panes_of c.args.app.now) (reports_of_frame c.args.frame.now) in
    rw (line_bytes-append panes (wire_lines c.args.wire))
    (Puts-first (g.O.Sink.taken c.args.out.now) (g.O.Sink.taken c.put_panes.new.out) c.args.outgoing.now (line_bytes panes) (line_bytes (wire_lines c.args.wire))
    c.put_panes.new.outgoing _ _ c.if-not-put_panes.ensures.puts)

pub returns-clause-puts : goal.returns-clause-puts
returns-clause-puts g c =
    let panes = pane_lines (panes_of c.args.app.now) (reports_of_frame c.args.frame.now) in
    rw (line_bytes-append panes (wire_lines c.args.wire))
    (Puts-then c.put_wire.result (g.O.Sink.taken c.args.out.now) (g.O.Sink.taken c.put_panes.new.out) (g.O.Sink.taken c.put_wire.new.out)
    c.args.outgoing.now (line_bytes panes) (line_bytes (wire_lines c.args.wire))
    c.put_panes.new.outgoing c.put_wire.new.outgoing (g.O.Sink.faults c.args.out.now) (g.O.Sink.faults c.put_panes.new.out) (g.O.Sink.faults c.put_wire.new.out)
    c.if-not-put_panes.ensures.puts c.put_panes.ensures.later c.put_wire.ensures.puts)
