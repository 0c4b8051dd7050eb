use Rattle.std.proofs.Common.{◌+◌, ◌∙◌, arith, drop, length-drop}
use Rattle.std.proofs.lemmas.List.{take_rest}
use Rattle.cl_outside.proofs.WritingLemmas.{Wrote-taken, Wrote-trans}
use Rattle.cl_outside.proofs.writing.write_all.Goals as goal

pub loop-at-preserved : goal.loop-at-preserved
loop-at-preserved g c =
    let took = rw (take_rest c.args.bytes.now c.loop-at.at) at c.in-Bytes.ensures.bytes in
    record {
      lent = c.in-Bytes.ensures.lent ∙ c.loop-at.invariant.lent;
      wrote = Wrote-trans (g.O.Sink.taken c.args.out.now) (g.O.Sink.taken c.loop-at.out) (g.O.Sink.taken c.write.new.self)
          c.args.bytes.now (drop c.loop-at.at c.args.bytes.now) (drop (c.loop-at.at + c.in-Bytes.count) c.args.bytes.now)
          c.loop-at.invariant.wrote
          (Wrote-taken (g.O.Sink.taken c.loop-at.out) (g.O.Sink.taken c.write.new.self) c.args.bytes.now c.loop-at.at c.in-Bytes.count took.2);
      within = omega (arith, took.1, length-drop c.loop-at.at c.args.bytes.now);
      later = omega (arith, c.loop-at.invariant.later, c.in-Bytes.ensures.cause);
    }
