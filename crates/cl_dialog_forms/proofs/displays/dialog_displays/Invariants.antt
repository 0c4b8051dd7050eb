use Rattle.std.proofs.Common.{◌≡◌, ◌++◌, drop, map}
use Rattle.cl_application.specs.Panes.{declared_by}
use Rattle.cl_dialog_forms.specs.Forms.{dialog_display, dialog_displays}
use Rattle.cl_dialog_forms.proofs.displays.dialog_displays.Given as goal

abbrev pub invariant-loop-place : goal.invariant-loop-place
invariant-loop-place l = l.displays.items ++ map (dialog_display l.app) (map declared_by (drop l.place l.app.dialogs)) ≡ dialog_displays l.app
