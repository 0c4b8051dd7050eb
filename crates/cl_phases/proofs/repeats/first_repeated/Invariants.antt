use Rattle.std.proofs.Common.{◌≡◌, drop}
use Rattle.std.specs.Map.{keys_of}
use Rattle.cl_phases.specs.Repeats.{repeated, first_repeated}
use Rattle.cl_phases.proofs.repeats.first_repeated.Given as goal

abbrev pub invariant-loop-name : goal.invariant-loop-name
invariant-loop-name l = repeated (keys_of l.met) (drop l.name-index l.names) ≡ first_repeated l.names
