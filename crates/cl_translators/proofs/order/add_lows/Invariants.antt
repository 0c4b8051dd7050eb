use Rattle.std.proofs.Common.{◌≡◌, ◌++◌, drop}
use Rattle.std.specs.List.{flat_map}
use Rattle.cl_translators.specs.Groups.{low_in}
use Rattle.cl_translators.proofs.order.add_lows.Given as goal

abbrev pub invariant-loop-low : goal.invariant-loop-low
invariant-loop-low l =
    l.translators.items ++ flat_map (low_in l.groups l.order) (drop l.low-index l.lows) ≡ l.initial.translators.items ++ flat_map (low_in l.groups l.order) l.lows
