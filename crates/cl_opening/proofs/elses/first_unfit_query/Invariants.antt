use Rattle.std.proofs.Common.{◌≡◌, drop}
use Rattle.cl_opening.specs.Opening.{first_unfit_query}
use Rattle.cl_opening.proofs.elses.first_unfit_query.Given as goal

abbrev pub invariant-loop-place : goal.invariant-loop-place
invariant-loop-place g l =
    first_unfit_query (g.T.Types.holds l.types) l.app l.arguments (drop l.place l.queries) ≡ first_unfit_query (g.T.Types.holds l.types) l.app l.arguments l.queries
