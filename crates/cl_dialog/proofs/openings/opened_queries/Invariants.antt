use Rattle.std.proofs.Common.{◌≡◌, ◌++◌, drop, map}
use Rattle.cl_application.specs.Panes.{declared_by}
use Rattle.cl_dialog.specs.Held.{query_of}
use Rattle.cl_dialog.specs.Opened.{opened_query}
use Rattle.cl_dialog_forms.specs.Forms.{arguments_of, queries_of}
use Rattle.cl_dialog.proofs.openings.opened_queries.Given as goal

abbrev pub invariant-loop-place : goal.invariant-loop-place
invariant-loop-place l =
    map query_of l.queries.items ++ map (opened_query l.app (arguments_of l.app l.dialog)) (map declared_by (drop l.place l.dialog.queries))
    ≡ map (opened_query l.app (arguments_of l.app l.dialog)) (queries_of l.dialog)
