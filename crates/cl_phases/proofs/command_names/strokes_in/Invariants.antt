use Rattle.std.proofs.Common.{◌≡◌, ◌++◌, drop, map}
use Rattle.cl_forms.specs.OuterView.{outer_of}
use Rattle.cl_phases.specs.CommandNames.{strokes_in}
use Rattle.cl_phases.proofs.command_names.strokes_in.Given as goal

abbrev pub invariant-loop-outer : goal.invariant-loop-outer
invariant-loop-outer l = l.names.items ++ strokes_in (map outer_of (drop l.outer-index l.outers)) ≡ strokes_in (map outer_of l.outers)
