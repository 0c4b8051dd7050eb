use Rattle.std.proofs.Common.{ℕ, List, sym, ap, subst, ◌∙◌}
use Rattle.cl_application.specs.App.{command_named}
use Rattle.cl_eval.specs.Outcome.{RisesBy}
use Rattle.cl_frame.specs.Ground.{ground_of}
use Rattle.cl_session.specs.Handling.{HandlesTo, handling_met, world_at}
use Rattle.cl_session.specs.Runs.{Handled}
use Rattle.cl_session.proofs.PointingLemmas.{chosen_run}
use Rattle.cl_session.proofs.pointing.run_chosen.Goals as goal

pub returns-in-Some-command-clause-handles : goal.returns-in-Some-command-clause-handles
returns-in-Some-command-clause-handles g c =
    let own = ground_of g.T.Types.holds g.T.Types.presents g.T.Types.reads g.T.Types.hierarchy c.args.program.now in
    let w = world_at c.args.slots.now c.args.desk.now c.args.frame.now in
    let same = chosen_run own w c.as_slice.result.now c.in-List.parts c.args.value.now c.in-Some.first.now c.in-Some.arguments.now c.in-Symbol.name
    c.in-Some-command.command.now c.in-List.is c.as_slice.ensures c.in-Some.ensures.cases.0 c.in-Symbol.is
    (ap (λ (n : List ℕ). command_named n c.args.program.now.app.now) (sym c.as_slice-2.ensures) ∙ sym c.in-Some-command.ensures) in
    subst (λ (h : Handled). HandlesTo h c.args.frame.now c.run_command.result c.args.slots.now c.run_command.new.slots c.args.desk.now c.run_command.new.desk)
    (sym same) c.run_command.ensures.handles

pub returns-in-Some-command-clause-ledger : goal.returns-in-Some-command-clause-ledger
returns-in-Some-command-clause-ledger g c =
    let own = ground_of g.T.Types.holds g.T.Types.presents g.T.Types.reads g.T.Types.hierarchy c.args.program.now in
    let w = world_at c.args.slots.now c.args.desk.now c.args.frame.now in
    let same = chosen_run own w c.as_slice.result.now c.in-List.parts c.args.value.now c.in-Some.first.now c.in-Some.arguments.now c.in-Symbol.name
    c.in-Some-command.command.now c.in-List.is c.as_slice.ensures c.in-Some.ensures.cases.0 c.in-Symbol.is
    (ap (λ (n : List ℕ). command_named n c.args.program.now.app.now) (sym c.as_slice-2.ensures) ∙ sym c.in-Some-command.ensures) in
    subst (λ (h : Handled). RisesBy (handling_met c.run_command.result) c.args.steps.now c.run_command.new.steps h.cost) (sym same) c.run_command.ensures.ledger
