use Rattle.std.proofs.Common.{sym, subst, ◌∙◌}
use Rattle.std.specs.Prelude.{option_map}
use Rattle.cl_eval.specs.Outcome.{RisesBy}
use Rattle.cl_frame.specs.Ground.{ground_of}
use Rattle.cl_frame.specs.Panes.{marks_of_pane}
use Rattle.cl_session.specs.Handling.{HandlesTo, handling_met, world_at}
use Rattle.cl_session.specs.Runs.{Handled}
use Rattle.cl_session.specs.Targets.{typed_of}
use Rattle.cl_translate.specs.Choices.{given_of}
use Rattle.cl_session.proofs.PointingLemmas.{acted_on}
use Rattle.cl_session.proofs.pointing.point_in_line.Goals as goal

pub returns-in-Ok-choice_at-clause-handles : goal.returns-in-Ok-choice_at-clause-handles
returns-in-Ok-choice_at-clause-handles g c =
    let own = ground_of g.T.Types.holds g.T.Types.presents g.T.Types.reads g.T.Types.hierarchy c.args.program.now in
    let w = world_at c.args.slots.now c.args.desk.now c.args.frame.now in
    let same = acted_on own w c.args.target.at.now c.args.target.declared.now (marks_of_pane c.args.target.shown.now)
    (option_map typed_of c.typed_argument-typed.result) c.as_slice-contexts.result.now (option_map given_of c.in-Ok-choice_at.choice)
    c.typed_argument-typed.ensures (c.as_slice-contexts.ensures.value ∙ c.in-Ok.ensures) c.in-Ok-choice_at.ensures in
    subst (λ (h : Handled). HandlesTo h c.args.frame.now c.act_on.result c.args.slots.now c.act_on.new.slots c.args.desk.now c.act_on.new.desk)
    (sym same) c.act_on.ensures.handles

pub returns-in-Ok-choice_at-clause-ledger : goal.returns-in-Ok-choice_at-clause-ledger
returns-in-Ok-choice_at-clause-ledger g c =
    let own = ground_of g.T.Types.holds g.T.Types.presents g.T.Types.reads g.T.Types.hierarchy c.args.program.now in
    let w = world_at c.args.slots.now c.args.desk.now c.args.frame.now in
    let same = acted_on own w c.args.target.at.now c.args.target.declared.now (marks_of_pane c.args.target.shown.now)
    (option_map typed_of c.typed_argument-typed.result) c.as_slice-contexts.result.now (option_map given_of c.in-Ok-choice_at.choice)
    c.typed_argument-typed.ensures (c.as_slice-contexts.ensures.value ∙ c.in-Ok.ensures) c.in-Ok-choice_at.ensures in
    subst (λ (h : Handled). RisesBy (handling_met c.act_on.result) c.args.steps.now c.act_on.new.steps h.cost) (sym same) c.act_on.ensures.ledger
