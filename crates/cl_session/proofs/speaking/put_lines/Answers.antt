use Rattle.std.proofs.Common.{◌≡◌, ◌++◌, get_or, ◌+◌, ◌∙◌, arith, drop, map}
use Rattle.cl_session.specs.Transcript.{ended_line}
use Rattle.cl_outside.specs.Writing.{joined}
use Rattle.cl_session.proofs.WritingLemmas.{Puts-piece, Wrote-piece}
use Rattle.cl_outside.proofs.WritingLemmas.{Wrote-trans}
use Rattle.cl_session.proofs.speaking.put_lines.Goals as goal

pub returns-then-not-put_all-clause-puts : goal.returns-then-not-put_all-clause-puts
returns-then-not-put_all-clause-puts g c =
    let text : c.as_slice.result.now ≡ get_or c.args.lines.now c.loop-line.line-index c.line-item.result = c.as_slice.ensures ∙ c.line-item.is in
    let put = rw text at c.if-not-put_all.ensures.puts in
    Puts-piece ended_line (g.O.Sink.taken c.args.out.now) (g.O.Sink.taken c.loop-line.out) (g.O.Sink.taken c.put_all.new.out)
    (c.args.outgoing.now ++ joined (map ended_line c.args.lines.now)) c.args.lines.now c.line-item.result c.loop-line.line-index
    c.loop-line.outgoing c.put_all.new.self (g.O.Sink.faults c.args.out.now) (g.O.Sink.faults c.loop-line.out) (g.O.Sink.faults c.put_all.new.out)
    c.loop-line-test.true c.loop-line.invariant.wrote c.loop-line.invariant.later put

pub loop-line-preserved : goal.loop-line-preserved
loop-line-preserved g c =
    let text : c.as_slice.result.now ≡ get_or c.args.lines.now c.loop-line.line-index c.line-item.result = c.as_slice.ensures ∙ c.line-item.is in
    let put = rw text at c.if-not-put_all.ensures.puts in
    record {
      lent = c.if-not-put_all.ensures.lent ∙ c.loop-line.invariant.lent;
      wrote = Wrote-trans (g.O.Sink.taken c.args.out.now) (g.O.Sink.taken c.loop-line.out) (g.O.Sink.taken c.put_all.new.out)
          (c.args.outgoing.now ++ joined (map ended_line c.args.lines.now))
          (c.loop-line.outgoing ++ joined (map ended_line (drop c.loop-line.line-index c.args.lines.now)))
          (c.put_all.new.self ++ joined (map ended_line (drop (c.loop-line.line-index + 1) c.args.lines.now)))
          c.loop-line.invariant.wrote
          (Wrote-piece ended_line (g.O.Sink.taken c.loop-line.out) (g.O.Sink.taken c.put_all.new.out) c.args.lines.now c.line-item.result
          c.loop-line.line-index c.loop-line.outgoing c.put_all.new.self c.loop-line-test.true put);
      later = omega (arith, c.loop-line.invariant.later, c.if-not-put_all.ensures.later);
    }
