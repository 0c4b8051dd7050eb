use Rattle.std.proofs.Common.{◌≡◌, drop, map}
use Rattle.cl_application.specs.Panes.{declared_by}
use Rattle.cl_dialog.specs.Exits.{exit_behind, exit_of}
use Rattle.cl_dialog.proofs.dialogs.Dialog.exit.Given as goal

abbrev pub invariant-loop-place : goal.invariant-loop-place
invariant-loop-place l =
    exit_behind l.app l.slots l.self.queries l.values (map declared_by (drop l.place l.dialog.queries))
    ≡ exit_of l.app l.dialog l.slots l.self
