use Rattle.cl_session.proofs.WritingLemmas.{Puts-after, Puts-flushless, Puts-said}
use Rattle.cl_session.proofs.writing.Outgoing.put.Goals as goal

pub returns-then-not-flush-clause-puts : goal.returns-then-not-flush-clause-puts
returns-then-not-flush-clause-puts g c =
    Puts-flushless (g.O.Sink.taken c.args.out.now) (g.O.Sink.taken c.flush.new.out) c.args.self.now c.args.bytes.now c.flush.new.self _ _
    c.if-not-flush.ensures.says

pub returns-clause-puts : goal.returns-clause-puts
returns-clause-puts g c =
    Puts-after c.write_all.result (g.O.Sink.taken c.args.out.now) (g.O.Sink.taken c.flush.new.out) (g.O.Sink.taken c.write_all.new.out)
    c.args.self.now c.args.bytes.now c.flush.new.self
    (g.O.Sink.faults c.args.out.now) (g.O.Sink.faults c.flush.new.out) (g.O.Sink.faults c.write_all.new.out) c.if-not-flush.ensures.says c.flush.ensures.later
    (Puts-said c.write_all.result (g.O.Sink.taken c.flush.new.out) (g.O.Sink.taken c.write_all.new.out) c.args.bytes.now c.flush.new.self
    (g.O.Sink.faults c.flush.new.out) (g.O.Sink.faults c.write_all.new.out) c.flush.ensures.none c.write_all.ensures.says)
