use Rattle.std.proofs.Common.{◌≡◌, ◌++◌, drop, filter}
use Rattle.cl_translators.specs.Order.{has_low}
use Rattle.cl_translators.proofs.order.add_group.Given as goal

abbrev pub invariant-loop-translator : goal.invariant-loop-translator
invariant-loop-translator l =
    l.translators.items ++ filter (has_low l.low) (drop l.translator-index l.group) ≡ l.initial.translators.items ++ filter (has_low l.low) l.group
