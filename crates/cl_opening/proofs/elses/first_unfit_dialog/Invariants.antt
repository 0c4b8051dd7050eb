use Rattle.std.proofs.Common.{◌≡◌, drop}
use Rattle.cl_opening.specs.Opening.{first_unfit_dialog}
use Rattle.cl_opening.proofs.elses.first_unfit_dialog.Given as goal

abbrev pub invariant-loop-place : goal.invariant-loop-place
invariant-loop-place g l =
    first_unfit_dialog (g.T.Types.holds l.types) l.app (drop l.place l.dialogs) ≡ first_unfit_dialog (g.T.Types.holds l.types) l.app l.dialogs
