use Rattle.cl_session.specs.Replies.{lines_of}
use Rattle.cl_session.specs.Transcript.{line_bytes}
use Rattle.cl_session.proofs.WritingLemmas.{Says-flushed}
use Rattle.cl_session.proofs.speaking.say_replies.Goals as goal

pub returns-clause-says : goal.returns-clause-says
returns-clause-says g c =
    let put = rw c.new-outgoing.ensures at c.if-not-put_replies.ensures.puts in
    Says-flushed c.flush.result (g.O.Sink.taken c.args.out.now) (g.O.Sink.taken c.put_replies.new.out) (g.O.Sink.taken c.flush.new.out)
    (line_bytes (lines_of c.args.app.now c.args.frame.now c.args.replies.now)) c.put_replies.new.outgoing
    (g.O.Sink.faults c.args.out.now) (g.O.Sink.faults c.put_replies.new.out) (g.O.Sink.faults c.flush.new.out)
    put c.put_replies.ensures.later c.flush.ensures.says
