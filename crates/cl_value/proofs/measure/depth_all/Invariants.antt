use Rattle.std.proofs.Common.{◌≡◌, ◌-◌, ◌^◌, min, max, drop}
use Rattle.cl_value.specs.Data.{depth_of_items}
use Rattle.cl_value.specs.Value.{parts_of}
use Rattle.cl_value.proofs.measure.depth_all.Given as goal

abbrev pub invariant-loop-value : goal.invariant-loop-value
invariant-loop-value l =
    max l.deepest (min (depth_of_items (parts_of (drop l.value-index l.values))) (2 ^ 64 - 1)) ≡ min (depth_of_items (parts_of l.values)) (2 ^ 64 - 1)
