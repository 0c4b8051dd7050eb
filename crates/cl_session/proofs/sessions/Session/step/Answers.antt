use Rattle.std.proofs.Common.{◌∙◌, subst, sym}
use Rattle.cl_frame.specs.Ground.{ground_of}
use Rattle.cl_frame.specs.Sending.{wire_of}
use Rattle.cl_session.specs.Current.{IsCurrent}
use Rattle.cl_session.specs.Replies.{met_of}
use Rattle.cl_session.specs.Session.{world_of}
use Rattle.cl_session.proofs.CurrentLemmas.{next_current}
use Rattle.cl_session.proofs.StepLemmas.{broken_after, broken_is, fault_of, sent-to, spends-to, steps-to, wire-to}
use Rattle.cl_session.proofs.sessions.Session.step.Goals as goal

pub returns-clause-steps : goal.returns-clause-steps
returns-clause-steps g c =
    steps-to (ground_of g.T.Types.holds g.T.Types.presents g.T.Types.reads g.T.Types.hierarchy c.args.program.now) c.args.self.now record { accessible = c.args.self.now.accessible; desk = c.handle-handling.new.desk; frame = c.update-painted.new.self; totals = c.with_gesture-self.result }
    c.args.slots.now c.handle-handling.new.slots c.args.gesture.now c.handle-handling.result c.update-painted.result c.replies_of-replies.result
    c.handle-handling.ensures.handles (rw (c.which-which.ensures, c.filling.ensures) at c.update-painted.ensures.settles) c.update-painted.ensures.stale c.replies_of-replies.ensures c.with_gesture-self.ensures

pub returns-clause-ledger : goal.returns-clause-ledger
returns-clause-ledger g c =
    spends-to (ground_of g.T.Types.holds g.T.Types.presents g.T.Types.reads g.T.Types.hierarchy c.args.program.now) c.args.self.now record { accessible = c.args.self.now.accessible; desk = c.handle-handling.new.desk; frame = c.update-painted.new.self; totals = c.with_gesture-self.result }
    c.args.slots.now c.handle-handling.new.slots c.args.gesture.now c.handle-handling.result c.update-painted.result c.replies_of-replies.result
    c.handle-handling.ensures.handles (rw (c.which-which.ensures, c.filling.ensures) at c.update-painted.ensures.settles) c.update-painted.ensures.stale c.replies_of-replies.ensures
    c.args.steps.now c.handle-handling.new.steps c.update-painted.new.steps c.handle-handling.ensures.ledger (rw (c.which-which.ensures, c.filling.ensures) at c.update-painted.ensures.ledger)

pub returns-clause-failed : goal.returns-clause-failed
returns-clause-failed g c =
    wire-to (ground_of g.T.Types.holds g.T.Types.presents g.T.Types.reads g.T.Types.hierarchy c.args.program.now) c.args.self.now record { accessible = c.args.self.now.accessible; desk = c.handle-handling.new.desk; frame = c.update-painted.new.self; totals = c.with_gesture-self.result }
    c.args.slots.now c.handle-handling.new.slots c.args.gesture.now c.handle-handling.result c.update-painted.result c.replies_of-replies.result
    c.handle-handling.ensures.handles (rw (c.which-which.ensures, c.filling.ensures) at c.update-painted.ensures.settles) c.update-painted.ensures.stale c.replies_of-replies.ensures
    (g.D.Device.faults c.args.device.now) (g.D.Device.faults c.update-painted.new.device) c.update-painted.ensures.cause

pub returns-clause-sent : goal.returns-clause-sent
returns-clause-sent g c =
    sent-to (ground_of g.T.Types.holds g.T.Types.presents g.T.Types.reads g.T.Types.hierarchy c.args.program.now) c.args.self.now record { accessible = c.args.self.now.accessible; desk = c.handle-handling.new.desk; frame = c.update-painted.new.self; totals = c.with_gesture-self.result }
    c.args.slots.now c.handle-handling.new.slots c.args.gesture.now c.handle-handling.result c.update-painted.result c.replies_of-replies.result
    c.handle-handling.ensures.handles (rw (c.which-which.ensures, c.filling.ensures) at c.update-painted.ensures.settles) c.update-painted.ensures.stale c.replies_of-replies.ensures
    (wire_of (g.D.Device.wire c.args.device.now) (g.D.Device.faults c.args.device.now) (g.D.Device.lent c.args.device.now).told)
    (wire_of (g.D.Device.wire c.update-painted.new.device) (g.D.Device.faults c.update-painted.new.device) (g.D.Device.lent c.update-painted.new.device).told)
    (g.D.Device.broken c.args.device.now)
    (broken_is c.args.self.now.frame.screen.stale (g.D.Device.broken c.args.device.now) _ _ _ c.requires.agree c.requires.breaks)
    (rw (c.which-which.ensures, c.filling.ensures) at c.update-painted.ensures.bytes)

pub returns-clause-shows : goal.returns-clause-shows
returns-clause-shows g c = λ whole.
    c.update-painted.ensures.shows (sym (fault_of c.handle-handling.result c.update-painted.result c.replies_of-replies.result c.replies_of-replies.ensures) ∙ whole)

pub returns-clause-breaks : goal.returns-clause-breaks
returns-clause-breaks g c = λ stale.
    broken_after c.update-painted.result (g.D.Device.broken c.update-painted.new.device) (sym c.update-painted.ensures.stale ∙ stale) c.update-painted.ensures.breaks

pub returns-clause-fits : goal.returns-clause-fits
returns-clause-fits g c =
    let own = ground_of g.T.Types.holds g.T.Types.presents g.T.Types.reads g.T.Types.hierarchy c.args.program.now in
    let steps = steps-to (ground_of g.T.Types.holds g.T.Types.presents g.T.Types.reads g.T.Types.hierarchy c.args.program.now) c.args.self.now record { accessible = c.args.self.now.accessible; desk = c.handle-handling.new.desk; frame = c.update-painted.new.self; totals = c.with_gesture-self.result }
    c.args.slots.now c.handle-handling.new.slots c.args.gesture.now c.handle-handling.result c.update-painted.result c.replies_of-replies.result
    c.handle-handling.ensures.handles (rw (c.which-which.ensures, c.filling.ensures) at c.update-painted.ensures.settles) c.update-painted.ensures.stale c.replies_of-replies.ensures c.with_gesture-self.ensures in
    record {
      reuse = c.requires.fits.reuse;
      accessible = c.requires.fits.accessible;
      frame = c.update-painted.ensures.frame;
      faithful = c.update-painted.ensures.faithful;
      current = subst (IsCurrent own) (sym steps.world)
          (next_current own (world_of c.args.self.now c.args.slots.now) c.args.gesture.now (met_of c.update-painted.new.self c.replies_of-replies.result) c.requires.fits.current);
    }
