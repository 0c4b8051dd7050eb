use Rattle.std.proofs.Common.{◌≡◌, drop}
use Rattle.cl_opening.specs.Opening.{first_unfit_command}
use Rattle.cl_opening.proofs.defaults.first_unfit_command.Given as goal

abbrev pub invariant-loop-place : goal.invariant-loop-place
invariant-loop-place g l =
    first_unfit_command (g.T.Types.holds l.types) l.app (drop l.place l.commands) ≡ first_unfit_command (g.T.Types.holds l.types) l.app l.commands
