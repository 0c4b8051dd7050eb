use Rattle.std.proofs.Common.{◌≡◌, ◌+◌, [], ◌∷◌, codes, length, length-append, ap, refl, sym, arith}
use Rattle.cl_frame.specs.Ground.{ground_of}
use Rattle.cl_frame.specs.Sending.{wire_of}
use Rattle.cl_gesture.specs.Gesture.{bad, does}
use Rattle.cl_gesture.specs.Reader.{count_of, progress_of}
use Rattle.cl_outside.specs.Lent.{Lent}
use Rattle.cl_session.specs.Session.{world_of}
use Rattle.cl_session.specs.Replies.{lines_of, met_of}
use Rattle.cl_session.specs.World.{World}
use Rattle.cl_session.specs.Runs.{bad_line}
use Rattle.cl_session.specs.Transcript.{line_bytes, lost, meters, stepped}
use Rattle.cl_session.proofs.ServingLemmas.{turn-said, Served-end, Served-limit, Faulted-fault}
use Rattle.cl_session.proofs.StepLemmas.{counted-to, lines-said}
use Rattle.cl_session.proofs.sessions.Session.turn.Goals as goal

pub returns-in-Gesture-clause-turns : goal.returns-in-Gesture-clause-turns
returns-in-Gesture-clause-turns g c = λ going.
    let lines = lines-said (ground_of g.T.Types.holds g.T.Types.presents g.T.Types.reads g.T.Types.hierarchy c.args.program.now) c.args.self.now c.step-replies.new.self c.args.slots.now c.step-replies.new.slots
    c.in-Gesture.gesture c.step-replies.result c.step-replies.ensures.steps in
    rw c.goes_on.ensures
    (turn-said (ground_of g.T.Types.holds g.T.Types.presents g.T.Types.reads g.T.Types.hierarchy c.args.program.now) c.say_replies.result (does c.in-Gesture.gesture)
    (stepped (met_of c.step-replies.new.self.frame c.step-replies.result)) _ _
    (c.in-Gesture.ensures.next going)
    (line_bytes (lines_of c.args.program.now.app.now c.step-replies.new.self.frame c.step-replies.result))
    (ap line_bytes lines) c.step-replies.ensures.steps.world
    (record {
      ran = c.step-replies.ensures.ledger;
      failed = c.step-replies.ensures.failed;
      sent = c.step-replies.ensures.sent;
      shows = λ whole. rw (sym (ap (λ (w : World). w.panes) c.step-replies.ensures.steps.world)) (c.step-replies.ensures.shows whole);
      told = ap (λ (l : Lent). l.told) c.step-replies.ensures.lent;
      counts = counted-to (ground_of g.T.Types.holds g.T.Types.presents g.T.Types.reads g.T.Types.hierarchy c.args.program.now) c.args.self.now c.step-replies.new.self c.args.slots.now c.step-replies.new.slots
          c.in-Gesture.gesture c.step-replies.result c.step-replies.ensures.steps;
    }) c.say_replies.ensures.says)

pub returns-in-Bad-clause-turns : goal.returns-in-Bad-clause-turns
returns-in-Bad-clause-turns g c = λ going.
    let r = c.in-Bad.ensures.next going in
    let number : c.in-Bad.number ≡ count_of c.args.gestures.now + length r.0.idles + 1 =
    omega (arith, r.1, r.0.passes.counted, length-append r.0.idles (r.0.piece ∷ [])) in
    rw c.goes_on-in-Bad.ensures
    (turn-said (ground_of g.T.Types.holds g.T.Types.presents g.T.Types.reads g.T.Types.hierarchy c.args.program.now) c.say_bad.result bad lost _ _ r.0
    (line_bytes (bad_line c.in-Bad.number ∷ []))
    (ap (λ n. line_bytes (bad_line n ∷ [])) number) refl refl c.say_bad.ensures.says)

pub returns-in-Memory-clause-turns : goal.returns-in-Memory-clause-turns
returns-in-Memory-clause-turns g c = λ going.
    let r = c.in-Memory.ensures.next going in
    rw c.goes_on-in-Memory.ensures
    (turn-said (ground_of g.T.Types.holds g.T.Types.presents g.T.Types.reads g.T.Types.hierarchy c.args.program.now) c.say_lost.result (does r.0) lost _ _ r.1
    (line_bytes (codes "! memory" ∷ [])) refl refl (rw c.with_memory-self.ensures refl) c.say_lost.ensures.says)

pub returns-in-End-clause-turns : goal.returns-in-End-clause-turns
returns-in-End-clause-turns g c = λ going.
    Served-end (ground_of g.T.Types.holds g.T.Types.presents g.T.Types.reads g.T.Types.hierarchy c.args.program.now) (world_of c.args.self.now c.args.slots.now) (meters c.args.steps.now (wire_of (g.D.Device.wire c.args.device.now) (g.D.Device.faults c.args.device.now) (g.D.Device.lent c.args.device.now).told) c.args.self.now.totals)
    (progress_of g.G.Source.left g.G.Source.faults c.args.gestures.now) (progress_of g.G.Source.left g.G.Source.faults c.next.new.self)
    (g.O.Sink.taken c.args.out.now) _ _ (c.in-End.ensures.next going)

pub returns-in-ReadFault-clause-turns : goal.returns-in-ReadFault-clause-turns
returns-in-ReadFault-clause-turns g c = λ going.
    Faulted-fault (ground_of g.T.Types.holds g.T.Types.presents g.T.Types.reads g.T.Types.hierarchy c.args.program.now) (world_of c.args.self.now c.args.slots.now) (meters c.args.steps.now (wire_of (g.D.Device.wire c.args.device.now) (g.D.Device.faults c.args.device.now) (g.D.Device.lent c.args.device.now).told) c.args.self.now.totals)
    (progress_of g.G.Source.left g.G.Source.faults c.args.gestures.now) (progress_of g.G.Source.left g.G.Source.faults c.next.new.self)
    (g.O.Sink.taken c.args.out.now) _ _ (c.in-ReadFault.ensures.next going)

pub returns-in-TooMany-clause-turns : goal.returns-in-TooMany-clause-turns
returns-in-TooMany-clause-turns g c = λ going.
    let r = c.in-TooMany.ensures.next going in (
      Served-limit (ground_of g.T.Types.holds g.T.Types.presents g.T.Types.reads g.T.Types.hierarchy c.args.program.now) (world_of c.args.self.now c.args.slots.now) (meters c.args.steps.now (wire_of (g.D.Device.wire c.args.device.now) (g.D.Device.faults c.args.device.now) (g.D.Device.lent c.args.device.now).told) c.args.self.now.totals)
          (progress_of g.G.Source.left g.G.Source.faults c.args.gestures.now) (progress_of g.G.Source.left g.G.Source.faults c.next.new.self)
          (g.O.Sink.taken c.args.out.now) _ _ r,
      r.full,
      r.further,
    )

pub returns-in-Memory-clause-fits : goal.returns-in-Memory-clause-fits
returns-in-Memory-clause-fits g c = record {
  reuse = c.requires.fits.reuse;
  accessible = c.requires.fits.accessible;
  frame = c.requires.fits.frame;
  faithful = c.requires.fits.faithful;
  current = c.requires.fits.current;
}
