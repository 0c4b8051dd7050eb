use Rattle.std.proofs.Common.{◌≡◌, ◌++◌, map, take}
use Rattle.cl_value.specs.Value.{data_of}
use Rattle.cl_eval.proofs.lists.add_all.Given as goal

abbrev pub invariant-loop-part : goal.invariant-loop-part
invariant-loop-part l = map data_of l.values.items ≡ map data_of l.initial.values.items ++ map data_of (take l.part-index l.parts)
