use Rattle.std.proofs.Common.{◌≡◌, map, drop}
use Rattle.cl_value.specs.Value.{data_of}
use Rattle.cl_eval.specs.Operators.{has_part}
use Rattle.cl_eval.proofs.lists.has_part.Given as goal

abbrev pub invariant-loop-part : goal.invariant-loop-part
invariant-loop-part l = has_part (data_of l.value) (map data_of (drop l.part-index l.parts)) ≡ has_part (data_of l.value) (map data_of l.parts)
