use Rattle.cl_frame.specs.Ground.{ground_of}
use Rattle.cl_session.specs.Session.{world_of}
use Rattle.cl_terminal.specs.Serving.{standing}
use Rattle.cl_terminal.proofs.Ending.{run-served}
use Rattle.cl_terminal.proofs.Ready.{shows_at}
use Rattle.cl_terminal.proofs.running.run_entered.Goals as goal

pub returns-in-Ok-clause-ran : goal.returns-in-Ok-clause-ran
returns-in-Ok-clause-ran g c =
    let own = ground_of g.T.Types.holds g.T.Types.presents g.T.Types.reads g.T.Types.hierarchy c.args.program.now in
    run-served own c.args.slots.now (g.G.Source.left c.args.keys.now) (g.G.Source.left c.serve.new.keys) (g.G.Source.faults c.args.keys.now)
    (g.G.Source.faults c.serve.new.keys) c.in-Ok.seat.decoder (world_of c.in-Ok.seat.session c.in-Ok.seat.slots) c.in-Ok.seat.session.frame.screen.stale
    (standing c.serve.new.self.decoder (world_of c.serve.new.self.session c.serve.new.self.slots)) c.args.device.now.faults c.open.new.device.faults
    c.serve.new.device c.serve.result c.in-Ok.ensures.decoder c.in-Ok.ensures.world c.in-Ok.ensures.failed c.serve.ensures.serves
    (shows_at own c.serve.new.self.slots c.serve.new.self.session c.serve.new.device c.serve.result c.serve.ensures.ready)
