use Rattle.std.proofs.Common.{List, subst, sym}
use Rattle.cl_reuse.proofs.DisplayNames.{pane-own}
use Rattle.cl_reuse.specs.Sited.{AreOwn}
use Rattle.cl_syntax.specs.ShapeTree.{ShapeTree, shape_trees_of}
use Rattle.clim_reuses.proofs.answering.drawn_over.Goals as goal

pub redisplay-shown-requires-clause-own : goal.redisplay-shown-requires-clause-own
redisplay-shown-requires-clause-own g c =
    subst (λ (forms : List ShapeTree). AreOwn c.args.app.now (shape_trees_of forms)) (sym c.forms_of-forms.ensures)
    (pane-own c.args.app.now c.args.pane.now)
