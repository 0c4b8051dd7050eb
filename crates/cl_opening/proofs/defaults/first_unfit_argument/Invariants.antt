use Rattle.std.proofs.Common.{◌≡◌, drop}
use Rattle.cl_opening.specs.Opening.{first_unfit_argument}
use Rattle.cl_opening.proofs.defaults.first_unfit_argument.Given as goal

abbrev pub invariant-loop-place : goal.invariant-loop-place
invariant-loop-place g l =
    first_unfit_argument (g.T.Types.holds l.types) l.app (drop l.place l.arguments) ≡ first_unfit_argument (g.T.Types.holds l.types) l.app l.arguments
