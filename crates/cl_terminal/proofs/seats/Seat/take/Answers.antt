use Rattle.std.proofs.Common.{◌≡◌, ◌∙◌, false, Some, sym, arith}
use Rattle.cl_frame.specs.Ground.{ground_of}
use Rattle.cl_keys.specs.Decoding.{step}
use Rattle.cl_keys.specs.Gestures.{gesture_of}
use Rattle.cl_session.specs.Session.{world_of}
use Rattle.cl_terminal.specs.Handled.{is_end}
use Rattle.cl_terminal.proofs.Taking.{byte-acts, byte-passed}
use Rattle.cl_terminal.proofs.seats.Seat.take.Goals as goal

pub returns-in-Ok-Some : goal.returns-in-Ok-Some
returns-in-Ok-Some g c =
    let key : (step c.args.self.now.decoder c.args.byte).key ≡ Some c.in-Some.key = sym c.take.ensures.key ∙ c.in-Some.is in
    let other : is_end c.in-Some.key ≡ false = sym c.is_end.ensures ∙ c.if-is_end.false in
    let has : gesture_of c.args.program.now.app.now c.in-Some.key ≡ Some c.in-Ok-Some.gesture = sym c.in-Ok-Some.ensures ∙ c.in-Ok-Some.field-0-is in
    record {
      takes = byte-acts (ground_of g.T.Types.holds g.T.Types.presents g.T.Types.reads g.T.Types.hierarchy c.args.program.now) c.args.self.now.decoder
          c.handle.new.self.decoder (world_of c.args.self.now.session c.args.self.now.slots) (world_of c.handle.new.self.session c.handle.new.self.slots)
          c.args.byte c.in-Some.key c.in-Ok-Some.gesture c.args.device.now.faults c.handle.new.device.faults c.handle.result key other has
          (c.handle.ensures.decoder ∙ c.take.ensures.state) c.handle.ensures.handles;
      ready = c.handle.ensures.ready;
      later = c.handle.ensures.later;
      steps_later = c.handle.ensures.steps_later;
    }

pub returns-in-Ok-None-clause-takes : goal.returns-in-Ok-None-clause-takes
returns-in-Ok-None-clause-takes g c =
    let key : (step c.args.self.now.decoder c.args.byte).key ≡ Some c.in-Some.key = sym c.take.ensures.key ∙ c.in-Some.is in
    let other : is_end c.in-Some.key ≡ false = sym c.is_end.ensures ∙ c.if-is_end.false in
    byte-passed (ground_of g.T.Types.holds g.T.Types.presents g.T.Types.reads g.T.Types.hierarchy c.args.program.now) _ _
    (world_of c.args.self.now.session c.args.self.now.slots) c.args.byte c.in-Some.key key other c.take.ensures.state

pub returns-in-Err : goal.returns-in-Err
returns-in-Err g c =
    let key : (step c.args.self.now.decoder c.args.byte).key ≡ Some c.in-Some.key = sym c.take.ensures.key ∙ c.in-Some.is in
    let other : is_end c.in-Some.key ≡ false = sym c.is_end.ensures ∙ c.if-is_end.false in
    record {
      takes = byte-passed (ground_of g.T.Types.holds g.T.Types.presents g.T.Types.reads g.T.Types.hierarchy c.args.program.now) c.args.self.now.decoder
          c.take.new.self (world_of c.args.self.now.session c.args.self.now.slots) c.args.byte c.in-Some.key key other c.take.ensures.state;
      ready = c.requires.ready;
      later = omega arith;
      steps_later = omega arith;
    }
