use Rattle.std.proofs.Common.{◌≡◌, ◌+◌, ◌++◌, drop, map}
use Rattle.cl_application.specs.Panes.{declared_by}
use Rattle.cl_dialog_forms.specs.Forms.{queries_of, query_forms}
use Rattle.cl_dialog_forms.proofs.dialog_forms.dialog_form.Given as goal

abbrev pub invariant-loop-place : goal.invariant-loop-place
invariant-loop-place l =
    l.forms ++ query_forms l.app l.dialog (l.place + 1) (map declared_by (drop l.place l.dialog.queries)) ≡ query_forms l.app l.dialog 1 (queries_of l.dialog)
