use Rattle.std.proofs.Common.{◌≡◌, ◌++◌, drop, map}
use Rattle.cl_forms.specs.OuterView.{outer_of}
use Rattle.cl_phases.specs.CommandNames.{lines_in}
use Rattle.cl_phases.proofs.command_names.lines_in.Given as goal

abbrev pub invariant-loop-outer : goal.invariant-loop-outer
invariant-loop-outer l = l.names.items ++ lines_in (map outer_of (drop l.outer-index l.outers)) ≡ lines_in (map outer_of l.outers)
