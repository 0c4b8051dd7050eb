use Rattle.std.proofs.Common.{◌++◌}
use Rattle.cl_application.specs.Panes.{panes_of}
use Rattle.cl_frame.specs.Frames.{reports_of_frame}
use Rattle.cl_session.specs.Replies.{own_lines}
use Rattle.cl_session.specs.Step.{pane_lines, wire_lines}
use Rattle.cl_session.specs.Transcript.{line_bytes}
use Rattle.cl_session.proofs.WritingLemmas.{Puts-first, Puts-then, line_bytes-append}
use Rattle.cl_session.proofs.speaking.put_replies.Goals as goal

pub returns-then-not-put_own-clause-puts : goal.returns-then-not-put_own-clause-puts
returns-then-not-put_own-clause-puts g c =
    let own = own_lines c.args.replies.now.memory c.args.replies.now.own in
    let behind = pane_lines (panes_of c.args.app.now) (reports_of_frame c.args.frame.now) ++ wire_lines c.args.replies.now.wire in
    rw (line_bytes-append own behind)
    (Puts-first (g.O.Sink.taken c.args.out.now) (g.O.Sink.taken c.put_own.new.out) c.args.outgoing.now (line_bytes own) (line_bytes behind)
    c.put_own.new.outgoing _ _ c.if-not-put_own.ensures.puts)

pub returns-clause-puts : goal.returns-clause-puts
returns-clause-puts g c =
    let own = own_lines c.args.replies.now.memory c.args.replies.now.own in
    let behind = pane_lines (panes_of c.args.app.now) (reports_of_frame c.args.frame.now) ++ wire_lines c.args.replies.now.wire in
    rw (line_bytes-append own behind)
    (Puts-then c.put_behind.result (g.O.Sink.taken c.args.out.now) (g.O.Sink.taken c.put_own.new.out) (g.O.Sink.taken c.put_behind.new.out)
    c.args.outgoing.now (line_bytes own) (line_bytes behind)
    c.put_own.new.outgoing c.put_behind.new.outgoing (g.O.Sink.faults c.args.out.now) (g.O.Sink.faults c.put_own.new.out) (g.O.Sink.faults c.put_behind.new.out)
    c.if-not-put_own.ensures.puts c.put_own.ensures.later c.put_behind.ensures.puts)
