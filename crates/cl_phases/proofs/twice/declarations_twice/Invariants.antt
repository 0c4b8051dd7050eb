use Rattle.std.proofs.Common.{◌≡◌, drop, map}
use Rattle.cl_forms.specs.OuterView.{outer_of}
use Rattle.cl_phases.specs.Earlier.{earlier}
use Rattle.cl_phases.specs.Twice.{declarations_twice}
use Rattle.cl_phases.proofs.twice.declarations_twice.Given as goal

abbrev pub invariant-loop-outer : goal.invariant-loop-outer
invariant-loop-outer l = earlier l.first (declarations_twice (map outer_of (drop l.outer-index l.outers))) ≡ declarations_twice (map outer_of l.outers)
