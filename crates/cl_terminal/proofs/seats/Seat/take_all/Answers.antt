use Rattle.std.proofs.Common.{arith}
use Rattle.cl_frame.specs.Ground.{ground_of}
use Rattle.cl_session.specs.Session.{world_of}
use Rattle.cl_terminal.proofs.Taking.{taken-and-closed, taken-more}
use Rattle.cl_terminal.proofs.seats.Seat.take_all.Goals as goal

pub returns-in_default : goal.returns-in_default
returns-in_default g c =
    let own = ground_of g.T.Types.holds g.T.Types.presents g.T.Types.reads g.T.Types.hierarchy c.args.program.now in
    record {
      takes = taken-and-closed own c.args.self.now.decoder (world_of c.args.self.now.session c.args.self.now.slots) c.loop-byte.self.decoder
          (world_of c.loop-byte.self.session c.loop-byte.self.slots) c.take.new.self.decoder (world_of c.take.new.self.session c.take.new.self.slots)
          c.args.bytes.now c.loop-byte.byte-index c.args.device.now.faults c.loop-byte.device.faults c.take.new.device.faults c.take.result
          (omega arith) c.in_default.not-On c.loop-byte.invariant.later c.loop-byte.invariant.goes c.take.ensures.takes;
      ready = c.take.ensures.ready;
      later = omega arith;
      steps_later = omega arith;
    }

pub loop-byte-preserved : goal.loop-byte-preserved
loop-byte-preserved g c =
    let own = ground_of g.T.Types.holds g.T.Types.presents g.T.Types.reads g.T.Types.hierarchy c.args.program.now in
    record {
      goes = taken-more own c.args.self.now.decoder (world_of c.args.self.now.session c.args.self.now.slots) c.loop-byte.self.decoder
          (world_of c.loop-byte.self.session c.loop-byte.self.slots) c.take.new.self.decoder (world_of c.take.new.self.session c.take.new.self.slots)
          c.args.bytes.now c.loop-byte.byte-index (omega arith) c.loop-byte.invariant.goes c.in-On.ensures.takes;
      ready = c.take.ensures.ready;
      later = omega arith;
      steps_later = omega arith;
    }
