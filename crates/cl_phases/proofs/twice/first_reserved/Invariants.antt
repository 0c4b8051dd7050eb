use Rattle.std.proofs.Common.{◌≡◌, drop}
use Rattle.cl_phases.specs.Earlier.{earlier}
use Rattle.cl_phases.specs.Twice.{first_reserved}
use Rattle.cl_phases.proofs.twice.first_reserved.Given as goal

abbrev pub invariant-loop-name : goal.invariant-loop-name
invariant-loop-name l = earlier l.first (first_reserved l.space (drop l.name-index l.names)) ≡ first_reserved l.space l.names
