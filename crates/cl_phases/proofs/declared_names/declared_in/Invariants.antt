use Rattle.std.proofs.Common.{◌≡◌, ◌++◌, drop, map}
use Rattle.cl_forms.specs.OuterView.{outer_of}
use Rattle.cl_phases.specs.DeclaredNames.{declared_in}
use Rattle.cl_phases.proofs.declared_names.declared_in.Given as goal

abbrev pub invariant-loop-outer : goal.invariant-loop-outer
invariant-loop-outer l = l.names.items ++ declared_in l.space (map outer_of (drop l.outer-index l.outers)) ≡ declared_in l.space (map outer_of l.outers)
