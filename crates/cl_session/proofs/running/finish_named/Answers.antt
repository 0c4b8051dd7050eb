use Rattle.std.proofs.Common.{sym, subst, ◌∙◌}
use Rattle.cl_eval.specs.Outcome.{RisesBy}
use Rattle.cl_frame.specs.Ground.{ground_of}
use Rattle.cl_session.specs.Handling.{HandlesTo, handling_met, world_at}
use Rattle.cl_session.specs.Runs.{Handled}
use Rattle.cl_session.proofs.RunLemmas.{finished_on}
use Rattle.cl_session.proofs.running.finish_named.Goals as goal

pub returns-in-Ok-clause-handles : goal.returns-in-Ok-clause-handles
returns-in-Ok-clause-handles g c =
    let own = ground_of g.T.Types.holds g.T.Types.presents g.T.Types.reads g.T.Types.hierarchy c.args.program.now in
    let w = world_at c.args.slots.now c.args.desk.now c.args.frame.now in
    let same = finished_on own w c.args.command.now c.in-Ok.parsed (sym c.is.ensures ∙ c.if-not-is.false) c.in-Ok.ensures in
    subst
    (λ (h : Handled). HandlesTo h c.args.frame.now c.finish_parsed.result c.args.slots.now c.finish_parsed.new.slots c.args.desk.now c.finish_parsed.new.desk)
    (sym same) c.finish_parsed.ensures.handles

pub returns-in-Ok-clause-ledger : goal.returns-in-Ok-clause-ledger
returns-in-Ok-clause-ledger g c =
    let own = ground_of g.T.Types.holds g.T.Types.presents g.T.Types.reads g.T.Types.hierarchy c.args.program.now in
    let w = world_at c.args.slots.now c.args.desk.now c.args.frame.now in
    let same = finished_on own w c.args.command.now c.in-Ok.parsed (sym c.is.ensures ∙ c.if-not-is.false) c.in-Ok.ensures in
    subst (λ (h : Handled). RisesBy (handling_met c.finish_parsed.result) c.args.steps.now c.finish_parsed.new.steps h.cost) (sym same)
    c.finish_parsed.ensures.ledger
