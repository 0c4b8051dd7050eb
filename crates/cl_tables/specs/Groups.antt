-- Commands by the tables in which they stand.
use Rattle.std.specs.Prelude.{◌≡◌, ℕ, ◌==◌, List, [], ◌∷◌, ◌++◌, Option, Some, None, Vec, filter}
use Rattle.std.specs.Cmp.Lexicographic.{pointwise}
use Rattle.std.specs.Map.{lookup}
use Rattle.std.specs.declared.alloc.Global.{Global}
use Rattle.cl_tables.specs.Accessible.{stands_in}
use Rattle.cl_tables.specs.declared.declarations.CommandPlace.{CommandPlace}

-- the commands of each table that has some
abbrev pub Grouped : Type 0
Grouped = List (List ℕ × Vec CommandPlace Global)

-- the commands of a group, if there is one
abbrev pub commands_there : Option (Vec CommandPlace Global) → List CommandPlace
commands_there None = []
commands_there (Some v) = v.items

-- the commands of a table
abbrev pub group_of : List ℕ → Grouped → List CommandPlace
group_of table groups = commands_there (lookup (pointwise ◌==◌ table) groups)

-- the groups have one more command, in its table and behind the others there
abbrev pub AddsTo : CommandPlace → Grouped → Grouped → Type 0
AddsTo c old new = (table : List ℕ) → group_of table new ≡ group_of table old ++ filter (stands_in table) (c ∷ [])

-- the commands of each table are those of the list that stand in it
abbrev pub AreGrouped : List CommandPlace → Grouped → Type 0
AreGrouped commands groups = (table : List ℕ) → group_of table groups ≡ filter (stands_in table) commands
