use Rattle.std.proofs.Common.{◌≡◌}
use Rattle.cl_cover.specs.Steps.{body_steps}
use Rattle.cl_cover.specs.Walk.{walk}
use Rattle.cl_cover.proofs.WalkTurns.{turns}
use Rattle.cl_cover.proofs.walk.paths_along.Given as goal

abbrev pub invariant-loop-step : goal.invariant-loop-step
invariant-loop-step l =
    walk (body_steps l.app) l.left l.pending (record { paths = l.paths.items; entered = l.entered })
    ≡ walk (body_steps l.app) l.initial.left l.initial.pending (record { paths = l.initial.paths.items; entered = l.initial.entered })

abbrev pub decreases-loop-step : goal.decreases-loop-step
decreases-loop-step l = turns (body_steps l.app) l.left l.pending (record { paths = l.paths.items; entered = l.entered })
