use Rattle.std.proofs.Common.{◌≡◌, ◌++◌, ℕ, List, drop, filter}
use Rattle.cl_translators.specs.Groups.{group_of}
use Rattle.cl_translators.specs.Order.{stands_in, translators_of}
use Rattle.cl_translators.proofs.order.by_table.Given as goal

abbrev pub invariant-loop-place : goal.invariant-loop-place
invariant-loop-place l =
    (table : List ℕ) → group_of table l.groups ++ filter (stands_in table) (drop l.place (translators_of l.places)) ≡ filter (stands_in table) (translators_of l.places)
