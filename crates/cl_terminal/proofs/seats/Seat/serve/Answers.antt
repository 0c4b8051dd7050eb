use Rattle.std.proofs.Common.{arith, ◌∙◌}
use Rattle.cl_frame.specs.Ground.{ground_of}
use Rattle.cl_session.specs.Session.{world_of}
use Rattle.cl_terminal.specs.Serving.{standing}
use Rattle.cl_terminal.specs.declared.serving.TheConstants.{MOST_READS}
use Rattle.cl_terminal.proofs.Turning.{any-reads, both-turned, serves-behind, turned-long}
use Rattle.cl_terminal.proofs.seats.Seat.serve.Goals as goal

pub returns-in-Some-clause-serves : goal.returns-in-Some-clause-serves
returns-in-Some-clause-serves g c =
    let own = ground_of g.T.Types.holds g.T.Types.presents g.T.Types.reads g.T.Types.hierarchy c.args.program.now in
    let old = standing c.args.self.now.decoder (world_of c.args.self.now.session c.args.self.now.slots) in
    let mid = standing c.loop-read.self.decoder (world_of c.loop-read.self.session c.loop-read.self.slots) in
    serves-behind own old mid
    (standing c.turn.new.self.decoder (world_of c.turn.new.self.session c.turn.new.self.slots))
    (g.G.Source.left c.args.keys.now) (g.G.Source.left c.loop-read.keys) (g.G.Source.left c.turn.new.keys)
    (g.G.Source.faults c.args.keys.now) (g.G.Source.faults c.loop-read.keys) (g.G.Source.faults c.turn.new.keys)
    c.args.device.now.faults c.loop-read.device.faults c.turn.new.device.faults c.in-Some.closing
    c.loop-read.invariant.later c.loop-read.invariant.device_later
    (any-reads own c.loop-read._read old mid (g.G.Source.left c.args.keys.now) (g.G.Source.left c.loop-read.keys) c.loop-read.invariant.turned)
    c.in-Some.ensures.turns

pub loop-read-preserved : goal.loop-read-preserved
loop-read-preserved g c =
    let own = ground_of g.T.Types.holds g.T.Types.presents g.T.Types.reads g.T.Types.hierarchy c.args.program.now in
    record {
      turned = both-turned own c.loop-read._read 1 (standing c.args.self.now.decoder (world_of c.args.self.now.session c.args.self.now.slots))
          (standing c.loop-read.self.decoder (world_of c.loop-read.self.session c.loop-read.self.slots))
          (standing c.turn.new.self.decoder (world_of c.turn.new.self.session c.turn.new.self.slots))
          (g.G.Source.left c.args.keys.now) (g.G.Source.left c.loop-read.keys) (g.G.Source.left c.turn.new.keys)
          c.loop-read.invariant.turned c.in-None.ensures.turns;
      ready = c.in-None.ensures.ready;
      lent = c.turn.ensures.lent ∙ c.loop-read.invariant.lent;
      later = omega arith;
      device_later = omega arith;
      steps_later = omega arith;
    }

pub returns-clause-serves : goal.returns-clause-serves
returns-clause-serves g c =
    turned-long (ground_of g.T.Types.holds g.T.Types.presents g.T.Types.reads g.T.Types.hierarchy c.args.program.now) MOST_READS c.loop-read._read
    (standing c.args.self.now.decoder (world_of c.args.self.now.session c.args.self.now.slots))
    (standing c.loop-read.self.decoder (world_of c.loop-read.self.session c.loop-read.self.slots))
    (g.G.Source.left c.args.keys.now) (g.G.Source.left c.loop-read.keys) c.loop-read-test.false c.loop-read.invariant.turned
