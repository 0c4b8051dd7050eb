use Rattle.std.proofs.Common.{◌++◌, [], ◌∷◌}
use Rattle.cl_session.specs.Step.{report_head, report_tail}
use Rattle.cl_session.proofs.WritingLemmas.{Puts-first, Puts-then, line_parts}
use Rattle.cl_session.proofs.speaking.put_shown.Goals as goal

pub returns-then-not-put_head-clause-puts : goal.returns-then-not-put_head-clause-puts
returns-then-not-put_head-clause-puts g c =
    rw (line_parts (report_head c.args.name.now c.args.report.kept c.args.report.moved) (report_tail c.args.report.drawn c.args.report.erased))
    (Puts-first (g.O.Sink.taken c.args.out.now) (g.O.Sink.taken c.put_head.new.out) c.args.outgoing.now
    (report_head c.args.name.now c.args.report.kept c.args.report.moved) (report_tail c.args.report.drawn c.args.report.erased ++ 10 ∷ [])
    c.put_head.new.outgoing _ _ c.if-not-put_head.ensures.puts)

pub returns-clause-puts : goal.returns-clause-puts
returns-clause-puts g c =
    rw (line_parts (report_head c.args.name.now c.args.report.kept c.args.report.moved) (report_tail c.args.report.drawn c.args.report.erased))
    (Puts-then c.put_tail.result (g.O.Sink.taken c.args.out.now) (g.O.Sink.taken c.put_head.new.out) (g.O.Sink.taken c.put_tail.new.out)
    c.args.outgoing.now (report_head c.args.name.now c.args.report.kept c.args.report.moved) (report_tail c.args.report.drawn c.args.report.erased ++ 10 ∷ [])
    c.put_head.new.outgoing c.put_tail.new.outgoing (g.O.Sink.faults c.args.out.now) (g.O.Sink.faults c.put_head.new.out) (g.O.Sink.faults c.put_tail.new.out)
    c.if-not-put_head.ensures.puts c.put_head.ensures.later c.put_tail.ensures.puts)
