use Rattle.std.proofs.Common.{◌≡◌, ◌+◌, ◌-◌, ◌^◌, ◌<◌, min, drop}
use Rattle.cl_value.specs.Data.{size_of_items}
use Rattle.cl_value.specs.Value.{parts_of}
use Rattle.cl_value.proofs.measure.size_all.Given as goal

abbrev pub invariant-loop-value : goal.invariant-loop-value
invariant-loop-value l =
    (l.total < 2 ^ 64) × (min (l.total + size_of_items (parts_of (drop l.value-index l.values))) (2 ^ 64 - 1) ≡ min (size_of_items (parts_of l.values)) (2 ^ 64 - 1))
