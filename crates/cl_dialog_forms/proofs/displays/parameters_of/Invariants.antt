use Rattle.std.proofs.Common.{◌≡◌, ◌++◌, drop, map}
use Rattle.cl_application.specs.Panes.{declared_by}
use Rattle.cl_dialog_forms.specs.Forms.{parameters_of, queries_of}
use Rattle.cl_dialog_forms.proofs.displays.parameters_of.Given as goal

abbrev pub invariant-loop-place : goal.invariant-loop-place
invariant-loop-place l = l.names ++ parameters_of (map declared_by (drop l.place l.dialog.queries)) ≡ parameters_of (queries_of l.dialog)
