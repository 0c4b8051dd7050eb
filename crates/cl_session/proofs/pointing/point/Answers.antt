use Rattle.std.proofs.Common.{◌≡◌, ℕ, List, None, Some, sym, ap, subst, ◌∙◌, rules}
use Rattle.std.specs.Prelude.{codes}
use Rattle.cl_application.specs.Panes.{panes_of}
use Rattle.cl_eval.specs.Outcome.{RisesBy}
use Rattle.cl_frame.specs.Frames.{marks_of_frame}
use Rattle.cl_frame.specs.Ground.{ground_of}
use Rattle.cl_frame.specs.Panes.{marks_of_pane}
use Rattle.cl_gesture.specs.declared.answers.PointAt.{PointAt}
use Rattle.cl_session.specs.Handling.{HandlesTo, handling_met, world_at}
use Rattle.cl_session.specs.Runs.{Handled}
use Rattle.cl_session.specs.Step.{point, point_at}
use Rattle.cl_session.specs.Telling.{place_of_pane}
use Rattle.cl_session.proofs.HistoryLemmas.{handles_reply, pane_found, pane_missing, place_within}
use Rattle.cl_session.proofs.pointing.point.Goals as goal

pub target_at-target-requires-clause-place : goal.target_at-target-requires-clause-place
target_at-target-requires-clause-place g c =
    let ds = panes_of c.args.program.now.app.now in
    place_within c.args.at.now.pane ds c.in-Some.place
    (ap (λ (n : List ℕ). place_of_pane n ds) (sym c.as_slice.ensures) ∙ (sym c.place_of_pane.ensures ∙ c.in-Some.is))

pub returns-in-None-clause-handles : goal.returns-in-None-clause-handles
returns-in-None-clause-handles g c =
    let own = ground_of g.T.Types.holds g.T.Types.presents g.T.Types.reads g.T.Types.hierarchy c.args.program.now in
    let w = world_at c.args.slots.now c.args.desk.now c.args.frame.now in
    let ds = panes_of c.args.program.now.app.now in
    let none : place_of_pane c.args.at.now.pane ds ≡ None =
    ap (λ (n : List ℕ). place_of_pane n ds) (sym c.as_slice.ensures) ∙ (sym c.place_of_pane.ensures ∙ c.in-None.is) in
    handles_reply (point own w c.args.at.now) c.args.frame.now (codes "! pane") c.reply.result c.args.slots.now c.args.desk.now
    (pane_missing (point_at own w c.args.at.now) w c.args.at.now.pane ds (marks_of_frame c.args.frame.now) none) c.reply.ensures

pub returns-in-None-clause-ledger : goal.returns-in-None-clause-ledger
returns-in-None-clause-ledger g c =
    let own = ground_of g.T.Types.holds g.T.Types.presents g.T.Types.reads g.T.Types.hierarchy c.args.program.now in
    let w = world_at c.args.slots.now c.args.desk.now c.args.frame.now in
    let ds = panes_of c.args.program.now.app.now in
    let none : place_of_pane c.args.at.now.pane ds ≡ None =
    ap (λ (n : List ℕ). place_of_pane n ds) (sym c.as_slice.ensures) ∙ (sym c.place_of_pane.ensures ∙ c.in-None.is) in
    let same = pane_missing (point_at own w c.args.at.now) w c.args.at.now.pane ds (marks_of_frame c.args.frame.now) none in
    subst (λ (h : Handled). RisesBy (handling_met c.reply.result) c.args.steps.now c.args.steps.now h.cost) (sym same) (search rules)

pub returns-in-Some-clause-handles : goal.returns-in-Some-clause-handles
returns-in-Some-clause-handles g c =
    let own = ground_of g.T.Types.holds g.T.Types.presents g.T.Types.reads g.T.Types.hierarchy c.args.program.now in
    let w = world_at c.args.slots.now c.args.desk.now c.args.frame.now in
    let ds = panes_of c.args.program.now.app.now in
    let d = c.target_at-target.result.declared.now in
    let m = marks_of_pane c.target_at-target.result.shown.now in
    let found : place_of_pane c.args.at.now.pane ds ≡ Some c.in-Some.place =
    ap (λ (n : List ℕ). place_of_pane n ds) (sym c.as_slice.ensures) ∙ (sym c.place_of_pane.ensures ∙ c.in-Some.is) in
    let same = pane_found (point_at own w c.args.at.now) w c.args.at.now.pane ds (marks_of_frame c.args.frame.now) c.in-Some.place d m found
    c.target_at-target.ensures.declared c.target_at-target.ensures.shown
    ∙ ap (λ (p : PointAt). point_at own w p d m) (sym c.target_at-target.ensures.at) in
    subst (λ (h : Handled). HandlesTo h c.args.frame.now c.point_at.result c.args.slots.now c.point_at.new.slots c.args.desk.now c.point_at.new.desk)
    (sym same) c.point_at.ensures.handles

pub returns-in-Some-clause-ledger : goal.returns-in-Some-clause-ledger
returns-in-Some-clause-ledger g c =
    let own = ground_of g.T.Types.holds g.T.Types.presents g.T.Types.reads g.T.Types.hierarchy c.args.program.now in
    let w = world_at c.args.slots.now c.args.desk.now c.args.frame.now in
    let ds = panes_of c.args.program.now.app.now in
    let d = c.target_at-target.result.declared.now in
    let m = marks_of_pane c.target_at-target.result.shown.now in
    let found : place_of_pane c.args.at.now.pane ds ≡ Some c.in-Some.place =
    ap (λ (n : List ℕ). place_of_pane n ds) (sym c.as_slice.ensures) ∙ (sym c.place_of_pane.ensures ∙ c.in-Some.is) in
    let same = pane_found (point_at own w c.args.at.now) w c.args.at.now.pane ds (marks_of_frame c.args.frame.now) c.in-Some.place d m found
    c.target_at-target.ensures.declared c.target_at-target.ensures.shown
    ∙ ap (λ (p : PointAt). point_at own w p d m) (sym c.target_at-target.ensures.at) in
    subst (λ (h : Handled). RisesBy (handling_met c.point_at.result) c.args.steps.now c.point_at.new.steps h.cost) (sym same) c.point_at.ensures.ledger
