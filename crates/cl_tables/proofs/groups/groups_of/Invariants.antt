use Rattle.std.proofs.Common.{◌≡◌, ◌++◌, ℕ, List, drop}
use Rattle.std.specs.Prelude.{filter}
use Rattle.cl_tables.specs.Accessible.{commands_of, stands_in}
use Rattle.cl_tables.specs.Groups.{group_of}
use Rattle.cl_tables.proofs.groups.groups_of.Given as goal

abbrev pub invariant-loop-place : goal.invariant-loop-place
invariant-loop-place l =
    (table : List ℕ) → group_of table l.groups.entries ++ filter (stands_in table) (drop l.place (commands_of l.places)) ≡ filter (stands_in table) (commands_of l.places)
