use Rattle.std.proofs.Common.{◌≡◌, ◌∷◌, ◌++◌, drop, map}
use Rattle.cl_value.specs.Value.{data_of}
use Rattle.cl_ptext.proofs.methods.in_front.Given as goal

abbrev pub invariant-loop-other : goal.invariant-loop-other
invariant-loop-other l = map data_of l.values.items ++ map data_of (drop l.other-index l.others) ≡ data_of l.value ∷ map data_of l.others
