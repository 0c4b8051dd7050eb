use Rattle.std.proofs.Common.{◌≡◌, ◌∙◌, ap, arith, refl, Some}
use Rattle.cl_frame.specs.Ground.{ground_of}
use Rattle.cl_frame.specs.Sending.{wire_of}
use Rattle.cl_gesture.specs.declared.reader.Gestures.{Gestures}
use Rattle.cl_gesture.specs.declared.answers.Stop.TheVariants as stop
use Rattle.cl_gesture.specs.Reader.{progress_of, stop_of}
use Rattle.cl_session.specs.Session.{world_of}
use Rattle.cl_session.specs.Serving.{stand}
use Rattle.cl_session.specs.Transcript.{meters}
use Rattle.cl_session.proofs.StreamLemmas.{Going-nothing}
use Rattle.cl_session.specs.Transcript.{SpentOfPiece, said_of_piece, world_after_piece}
use Rattle.cl_session.proofs.ServingLemmas.{Going-more, ServesTo-end}
use Rattle.cl_session.proofs.StoppedLemmas.{going-on, same-stand, same-twice, some-end, stays-after, stays-done, untouched-more, untouched-start}
use Rattle.cl_session.proofs.sessions.Session.serve.Goals as goal

pub turns-init : goal.turns-init
turns-init g c = record {
  going = λ start. Going-nothing (said_of_piece (ground_of g.T.Types.holds g.T.Types.presents g.T.Types.reads g.T.Types.hierarchy c.args.program.now))
      (world_after_piece (ground_of g.T.Types.holds g.T.Types.presents g.T.Types.reads g.T.Types.hierarchy c.args.program.now))
      (SpentOfPiece (ground_of g.T.Types.holds g.T.Types.presents g.T.Types.reads g.T.Types.hierarchy c.args.program.now))
      (stand (world_of c.args.self.now c.args.slots.now) (meters c.args.steps.now (wire_of (g.D.Device.wire c.args.device.now) (g.D.Device.faults c.args.device.now) (g.D.Device.lent c.args.device.now).told) c.args.self.now.totals)
      (progress_of g.G.Source.left g.G.Source.faults c.args.gestures.now) (g.O.Sink.taken c.args.out.now) (g.O.Sink.faults c.args.out.now)) start;
  untouched = untouched-start (stop_of c.args.gestures.now) _ (refl, refl, refl, refl, refl, refl);
  counts = omega arith;
  lent = refl;
  out_lent = refl;
  device_lent = refl;
  later = omega arith;
  out_later = omega arith;
  device_later = omega arith;
  steps_later = omega arith;
  fits = c.requires.fits;
  agree = c.requires.agree;
  breaks = c.requires.breaks;
}

pub turns-preserved : goal.turns-preserved
turns-preserved g c =
    let turned = c.in-None.ensures.turns in
    let on : stop_of c.turns.gestures ≡ stop.Going = going-on (stop_of c.turns.gestures) _ c.in-None.ensures.stays in
    record {
      going = λ start.
          let more = Going-more (ground_of g.T.Types.holds g.T.Types.presents g.T.Types.reads g.T.Types.hierarchy c.args.program.now) _ _ _ (c.turns.invariant.going start) turned
          (λ e. (stays-done (stop_of c.turns.gestures) _ _ e c.in-None.ensures.stays).0) in
          more.0;
      untouched = untouched-more (stop_of c.args.gestures.now) (stop_of c.turns.gestures) _ _ _ (λ same. ap stop_of same.0) c.turns.invariant.untouched c.in-None.ensures.stays;
      counts = omega (arith, (turned on).1, c.turns.invariant.counts);
      lent = c.in-None.ensures.lent ∙ c.turns.invariant.lent;
      out_lent = c.in-None.ensures.out_lent ∙ c.turns.invariant.out_lent;
      device_lent = c.in-None.ensures.device_lent ∙ c.turns.invariant.device_lent;
      later = omega (arith, c.turns.invariant.later, c.in-None.ensures.later);
      out_later = omega (arith, c.turns.invariant.out_later, c.in-None.ensures.out_later);
      device_later = omega (arith, c.turns.invariant.device_later, c.in-None.ensures.device_later);
      steps_later = omega (arith, c.turns.invariant.steps_later, c.in-None.ensures.steps_later);
      fits = c.in-None.ensures.fits;
      agree = c.in-None.ensures.agree;
      breaks = c.in-None.ensures.breaks;
    }

pub returns-in-Some-clause-serves : goal.returns-in-Some-clause-serves
returns-in-Some-clause-serves g c = λ start.
    ServesTo-end (ground_of g.T.Types.holds g.T.Types.presents g.T.Types.reads g.T.Types.hierarchy c.args.program.now) _ _ _
    (c.turns.invariant.going start) c.turns.invariant.later c.turns.invariant.out_later c.in-Some.end c.in-Some.ensures.turns
    (λ e. let done = stays-done (stop_of c.turns.gestures) _ _ e c.in-Some.ensures.stays in (
      some-end _ _ done.0,
      same-stand (λ (s : Gestures g.row.G.Denot). progress_of g.G.Source.left g.G.Source.faults s) g.O.Sink.taken g.O.Sink.faults (λ (d : g.row.D.Denot). wire_of (g.D.Device.wire d) (g.D.Device.faults d) (g.D.Device.lent d).told)
          c.turns.gestures c.turn.new.gestures c.turns.out c.turn.new.out c.turns.device c.turn.new.device c.turns.steps c.turn.new.steps c.turns.self.totals c.turn.new.self.totals
          (world_of c.turns.self c.turns.slots) (world_of c.turn.new.self c.turn.new.slots) done.1,
    ))

pub returns-in-Some-clause-stays : goal.returns-in-Some-clause-stays
returns-in-Some-clause-stays g c =
    stays-after (stop_of c.args.gestures.now) (stop_of c.turns.gestures) (Some c.in-Some.end) _ _ _ (λ same. ap stop_of same.0)
    (same-twice c.args.gestures.now c.turns.gestures c.turn.new.gestures c.args.out.now c.turns.out c.turn.new.out c.args.device.now c.turns.device c.turn.new.device
    c.args.steps.now c.turns.steps c.turn.new.steps c.args.self.now.totals c.turns.self.totals c.turn.new.self.totals
    (world_of c.args.self.now c.args.slots.now) (world_of c.turns.self c.turns.slots) (world_of c.turn.new.self c.turn.new.slots))
    c.turns.invariant.untouched c.in-Some.ensures.stays
