use Rattle.std.proofs.Common.{rules}
use Rattle.cl_frame.specs.Ground.{ground_of}
use Rattle.cl_program.proofs.RunLemmas.{EndsAs-served}
use Rattle.cl_program.proofs.running.Opening.serve.Goals as goal

pub returns-clause-ended : goal.returns-clause-ended
returns-clause-ended g c = λ spent begun paid opens.
    let serves = c.serve-end.ensures.serves c.with_room-reader.ensures.stop in
    EndsAs-served (ground_of g.T.Types.holds g.T.Types.presents g.T.Types.reads g.T.Types.hierarchy c.args.program.now) c.args.self.now.session.frame.screen.stale _ _ _ _ (g.O.Sink.taken c.args.out.now) (g.O.Sink.taken c.serve-end.new.out)
    (g.O.Sink.faults c.args.out.now) (g.O.Sink.faults c.serve-end.new.out) spent c.args.steps.now c.serve-end.new.steps begun _ _ _ _ opens
    c.requires.opening.world paid c.requires.opening.totals c.with_room-reader.ensures.ahead c.with_room-reader.ensures.count c.serve-end.new.gestures.lines.at_most c.serve-end.result
    serves _ _ _ _ (search rules) (search rules) (search rules) (search rules)
