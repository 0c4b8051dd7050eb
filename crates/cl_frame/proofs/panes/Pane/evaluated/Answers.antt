use Rattle.std.proofs.Common.{◌∙◌, List, ap, subst, sym}
use Rattle.cl_medium.specs.Items.{Item, move_item}
use Rattle.cl_record.specs.Marks.{Mark, history_marks}
use Rattle.cl_reuse.specs.Records.{kept_among}
use Rattle.cl_untouched.specs.Among.{keeps_among}
use Rattle.cl_frame.specs.Ground.{meanings_of}
use Rattle.cl_frame.specs.States.{state_of}
use Rattle.cl_frame.specs.Settling.{pane_draw}
use Rattle.cl_frame.proofs.KeptPanes.{built-keeps}
use Rattle.cl_frame.proofs.ShownForms.{shown-own}
use Rattle.cl_reuse.specs.Sited.{AreOwn}
use Rattle.cl_syntax.specs.ShapeTree.{ShapeTree, shape_trees_of}
use Rattle.cl_frame.proofs.panes.Pane.evaluated.Goals as goal

pub redisplay-requires-clause-own : goal.redisplay-requires-clause-own
redisplay-requires-clause-own g c =
    subst (λ (forms : List ShapeTree). AreOwn c.args.program.now.app.now (shape_trees_of forms)) (sym c.forms-forms.ensures)
    (shown-own c.args.program.now.app.now c.args.declared.now (state_of c.args.state.now))

pub returns-in-Built-clause-keeps : goal.returns-in-Built-clause-keeps
returns-in-Built-clause-keeps g c = λ fine.
    let keeps = rw (c.in-Built.is, c.forms-forms.ensures, c.env-env.ensures) at c.redisplay.ensures.keeps in
    let came = rw (c.in-Built.is, c.forms-forms.ensures, c.env-env.ensures) at c.redisplay.ensures.redisplays in
    let drawn = pane_draw c.args.program.now.limits c.args.program.now.app.now (meanings_of g.T.Types.holds g.T.Types.presents c.args.program.now.types.now) c.args.declared.now (state_of c.args.state.now) in
    built-keeps c.in-Built.history c.in-Built.reuse c.in-Built.keeps drawn c.reused-old.result.now
    (kept_among (history_marks move_item c.reused-old.result.now) drawn) came keeps
    ∙ ap (λ (ms : List (Mark Item)). keeps_among ms drawn) c.reused-old.ensures.marks
