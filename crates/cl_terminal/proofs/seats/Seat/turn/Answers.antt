use Rattle.std.proofs.Common.{Option, take, subst, sym}
use Rattle.cl_frame.specs.Ground.{ground_of}
use Rattle.cl_session.specs.Session.{world_of}
use Rattle.cl_terminal.specs.Serving.{IsReadyBehind, Turns, standing}
use Rattle.cl_terminal.specs.declared.flows.Closing.{Closing}
use Rattle.cl_terminal.proofs.Ready.{ready_behind, rows_ready}
use Rattle.cl_terminal.proofs.Turning.{read-turns, show-failed, some-read}
use Rattle.cl_terminal.proofs.seats.Seat.turn.Goals as goal

pub returns-in-Failed-clause-turns : goal.returns-in-Failed-clause-turns
returns-in-Failed-clause-turns g c =
    show-failed (ground_of g.T.Types.holds g.T.Types.presents g.T.Types.reads g.T.Types.hierarchy c.args.program.now)
    (standing c.args.self.now.decoder (world_of c.args.self.now.session c.args.self.now.slots)) (g.G.Source.left c.args.keys.now)
    c.args.device.now.faults c.show.new.device.faults c.in-Failed.ensures.writes.cause.1

pub take_all-requires-clause-ready : goal.take_all-requires-clause-ready
take_all-requires-clause-ready g c =
    rows_ready (ground_of g.T.Types.holds g.T.Types.presents g.T.Types.reads g.T.Types.hierarchy c.args.program.now)
    c.args.self.now.slots c.args.self.now.session (world_of c.args.self.now.session c.args.self.now.slots) c.args.self.now.said c.args.device.now
    c.show.new.device c.requires.placed c.requires.ready c.in-Done.ensures

pub returns-in-Bytes-eq0-clause-ready : goal.returns-in-Bytes-eq0-clause-ready
returns-in-Bytes-eq0-clause-ready g c =
    rows_ready (ground_of g.T.Types.holds g.T.Types.presents g.T.Types.reads g.T.Types.hierarchy c.args.program.now)
    c.args.self.now.slots c.args.self.now.session (world_of c.args.self.now.session c.args.self.now.slots) c.args.self.now.said c.args.device.now
    c.show.new.device c.requires.placed c.requires.ready c.in-Done.ensures

pub returns-in-Failed-read-clause-ready : goal.returns-in-Failed-read-clause-ready
returns-in-Failed-read-clause-ready g c =
    rows_ready (ground_of g.T.Types.holds g.T.Types.presents g.T.Types.reads g.T.Types.hierarchy c.args.program.now)
    c.args.self.now.slots c.args.self.now.session (world_of c.args.self.now.session c.args.self.now.slots) c.args.self.now.said c.args.device.now
    c.show.new.device c.requires.placed c.requires.ready c.in-Done.ensures

pub returns-in-Bytes-clause-turns : goal.returns-in-Bytes-clause-turns
returns-in-Bytes-clause-turns g c =
    let own = ground_of g.T.Types.holds g.T.Types.presents g.T.Types.reads g.T.Types.hierarchy c.args.program.now in
    let old = standing c.args.self.now.decoder (world_of c.args.self.now.session c.args.self.now.slots) in
    let new = standing c.take_all.new.self.decoder (world_of c.take_all.new.self.session c.take_all.new.self.slots) in
    subst (λ (how : Option Closing). Turns own old new (g.G.Source.left c.args.keys.now) (g.G.Source.left c.read.new.self)
    (g.G.Source.faults c.args.keys.now) (g.G.Source.faults c.read.new.self) c.args.device.now.faults c.take_all.new.device.faults how) (sym c.closing_of.ensures)
    (read-turns own old new (g.G.Source.left c.args.keys.now) (g.G.Source.left c.read.new.self)
    (g.G.Source.faults c.args.keys.now) (g.G.Source.faults c.read.new.self) c.args.device.now.faults c.show.new.device.faults c.take_all.new.device.faults
    (take c.in-Bytes.count c.read.new.buf) c.take_all.result (some-read c.in-Bytes.count c.read.new.buf c.in-Bytes.count-test.1 c.in-Bytes.ensures.bytes.0)
    c.in-Done.ensures.writes.cause c.in-Bytes.ensures.bytes.1 c.take_all.ensures.takes)

pub returns-in-Bytes-clause-ready : goal.returns-in-Bytes-clause-ready
returns-in-Bytes-clause-ready g c =
    let own = ground_of g.T.Types.holds g.T.Types.presents g.T.Types.reads g.T.Types.hierarchy c.args.program.now in
    subst (λ (how : Option Closing). IsReadyBehind own c.take_all.new.self.slots c.take_all.new.self.session c.take_all.new.device how) (sym c.closing_of.ensures)
    (ready_behind own c.take_all.new.self.slots c.take_all.new.self.session c.take_all.new.device c.take_all.result c.take_all.ensures.ready)
