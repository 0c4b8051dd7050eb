use Rattle.std.proofs.Common.{refl, rules}
use Rattle.std.proofs.lemmas.Int.{to_z-of_z}
use mir.Syntax.{w64}
use mir.Val.{SFits}
use Rattle.std.specs.Prelude.{option_map}
use Rattle.cl_frame.specs.Ground.{ground_of}
use Rattle.cl_frame.specs.Panes.{marks_of_pane}
use Rattle.cl_medium.specs.Items.{move_item}
use Rattle.cl_record.specs.Marks.{history_marks}
use Rattle.cl_session.specs.Handling.{enabled_in}
use Rattle.cl_translate.specs.Choices.{given_of}
use Rattle.cl_session.proofs.PointingLemmas.{each_ok, same_choice, same_scene}
use Rattle.cl_session.proofs.pointing.choice_at.Goals as goal

pub returns : goal.returns
returns g c =
    let own = ground_of g.T.Types.holds g.T.Types.presents g.T.Types.reads g.T.Types.hierarchy c.args.program.now in
    let across : SFits w64 c.args.target.at.now.x = search rules in
    let down : SFits w64 c.args.target.at.now.y = search rules in
    each_ok _ _ c.choose.result
    (λ o h. same_choice own c.args.slots.now (enabled_in c.args.enabled.now) c.args.contexts.now c.args.target.at.now c.args.target.declared.now
    (marks_of_pane c.args.target.shown.now) _ _ (history_marks move_item c.history_shown-history.result.now) _ _ (option_map given_of o)
    (same_scene own c.args.slots.now c.args.enabled.now c.args.accessible.now c.requires)
    refl c.history_shown-history.ensures
    (to_z-of_z w64 _ across) (to_z-of_z w64 _ down) h) c.choose.ensures
