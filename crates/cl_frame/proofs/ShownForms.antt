-- The updates of the forms that a pane shows are those of displays of the application.
use Rattle.std.proofs.Common.{Option, Some, None, refl}
use Rattle.cl_application.specs.App.{display_named}
use Rattle.cl_application.specs.declared.applications.App.{App}
use Rattle.cl_application.specs.declared.declarations.PaneDecl.{PaneDecl}
use Rattle.cl_reuse.proofs.DisplayNames.{forms-own, pane-own}
use Rattle.cl_reuse.specs.Sited.{AreOwn}
use Rattle.cl_syntax.specs.ShapeTree.{shape_trees_of}
use Rattle.cl_frame.specs.States.{FillingAt, StateAt, filling_in, forms_by, shown_forms}

filled-own : (app : App) (d : PaneDecl) (f : Option FillingAt) → AreOwn app (shape_trees_of (forms_by app d f))
filled-own app d None = pane-own app d
filled-own app d (Some f) = forms-own app f.display (display_named f.display app) refl

pub shown-own : (app : App) (d : PaneDecl) (s : StateAt) → AreOwn app (shape_trees_of (shown_forms app d s))
shown-own app d s = filled-own app d (filling_in d s.filling)
