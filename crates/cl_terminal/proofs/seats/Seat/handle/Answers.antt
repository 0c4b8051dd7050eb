use Rattle.std.proofs.Common.{Bool, subst}
use Rattle.cl_session.specs.Replies.{met_of}
use Rattle.cl_session.specs.Transcript.{RoseIf}
use Rattle.cl_terminal.proofs.seats.Seat.handle.Goals as goal

pub returns-then-replies-clause-handles : goal.returns-then-replies-clause-handles
returns-then-replies-clause-handles g c =
    let rose = subst (λ (b : Bool). RoseIf b c.args.device.now.faults c.step-replies.new.device.faults) c.if-replies.true c.step-replies.ensures.failed in
    (met_of c.step-replies.new.self.frame c.step-replies.result, c.if-replies.true, c.step-replies.ensures.steps.world, rose.1)

pub returns-clause-handles : goal.returns-clause-handles
returns-clause-handles g c =
    (record { met = met_of c.step-replies.new.self.frame c.step-replies.result; whole = c.if-replies.false }, c.step-replies.ensures.steps.world)
