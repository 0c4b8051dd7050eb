use Rattle.std.proofs.Common.{◌≡◌, map}
use Rattle.cl_value.specs.Value.{data_of}
use Rattle.cl_eval.specs.Operators.{numbers_from}
use Rattle.cl_eval.proofs.lists.numbers_from.Given as goal

abbrev pub invariant-loop-place : goal.invariant-loop-place
invariant-loop-place l = map data_of l.numbers.items ≡ numbers_from l.first l.place
