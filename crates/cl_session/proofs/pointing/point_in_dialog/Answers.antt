use Rattle.std.proofs.Common.{sym, subst, ◌∙◌}
use Rattle.std.specs.Prelude.{option_map}
use Rattle.cl_eval.specs.Outcome.{RisesBy}
use Rattle.cl_frame.specs.Ground.{ground_of}
use Rattle.cl_frame.specs.Panes.{marks_of_pane}
use Rattle.cl_session.specs.Handling.{HandlesTo, handling_met, world_at}
use Rattle.cl_session.specs.Runs.{Handled}
use Rattle.cl_translate.specs.Choices.{given_of}
use Rattle.cl_session.proofs.PointingLemmas.{answered_on}
use Rattle.cl_session.proofs.pointing.point_in_dialog.Goals as goal

pub returns-in-Ok-choice_at-clause-handles : goal.returns-in-Ok-choice_at-clause-handles
returns-in-Ok-choice_at-clause-handles g c =
    let own = ground_of g.T.Types.holds g.T.Types.presents g.T.Types.reads g.T.Types.hierarchy c.args.program.now in
    let w = world_at c.args.slots.now c.args.desk.now c.args.frame.now in
    let same = answered_on own w c.args.target.at.now c.args.target.declared.now (marks_of_pane c.args.target.shown.now)
    c.args.desk.now.dialog c.in-Some.dialog c.as_slice-contexts.result.now (option_map given_of c.in-Ok-choice_at.choice)
    c.in-Some.is (c.as_slice-contexts.ensures.value ∙ c.in-Ok.ensures) c.in-Ok-choice_at.ensures in
    subst (λ (h : Handled). HandlesTo h c.args.frame.now c.answer.result c.args.slots.now c.answer.new.slots c.args.desk.now c.answer.new.desk)
    (sym same) c.answer.ensures.handles

pub returns-in-Ok-choice_at-clause-ledger : goal.returns-in-Ok-choice_at-clause-ledger
returns-in-Ok-choice_at-clause-ledger g c =
    let own = ground_of g.T.Types.holds g.T.Types.presents g.T.Types.reads g.T.Types.hierarchy c.args.program.now in
    let w = world_at c.args.slots.now c.args.desk.now c.args.frame.now in
    let same = answered_on own w c.args.target.at.now c.args.target.declared.now (marks_of_pane c.args.target.shown.now)
    c.args.desk.now.dialog c.in-Some.dialog c.as_slice-contexts.result.now (option_map given_of c.in-Ok-choice_at.choice)
    c.in-Some.is (c.as_slice-contexts.ensures.value ∙ c.in-Ok.ensures) c.in-Ok-choice_at.ensures in
    subst (λ (h : Handled). RisesBy (handling_met c.answer.result) c.args.steps.now c.answer.new.steps h.cost) (sym same) c.answer.ensures.ledger
