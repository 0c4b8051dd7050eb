use Rattle.std.proofs.Common.{◌≡◌, drop}
use Rattle.cl_opening.specs.Opening.{first_unfit_opening, opened, opening_slots}
use Rattle.cl_opening.proofs.opening.opening_values.Given as goal

abbrev pub invariant-loop-place : goal.invariant-loop-place
invariant-loop-place g l =
    (opened l.app (drop l.place l.app.frame.slots) l.slots ≡ opening_slots l.app)
    × (first_unfit_opening (g.T.Types.holds l.types) l.app (drop l.place l.app.frame.slots) ≡ first_unfit_opening (g.T.Types.holds l.types) l.app l.app.frame.slots)
