-- How the inheritance order is found: the tables that were visited, and those that wait, the next of them last.
use Rattle.std.specs.Prelude.{Bool, if◌then◌else◌, is_some, ℕ, List, ◌++◌}
use Rattle.cl_table.specs.Names.{named, with_first}
use Rattle.cl_tables.specs.declared.walk.Visited.{Visited}

-- the tables that were visited
abbrev pub Visits : Type 0
Visits = List (List ℕ × Visited)

-- whether a table was visited
abbrev pub is_visited : List ℕ → Visits → Bool
is_visited x visits = is_some (named x visits)

-- with one more table, if it was not visited before
abbrev pub with_visit : List ℕ → Visits → Visits
with_visit x visits = with_first (λ v. v.name) visits (record { name = x })

-- with more names behind them, where a table was not visited before
abbrev pub with_more : Bool → List (List ℕ) → List (List ℕ) → List (List ℕ)
with_more seen names more = if seen then names else names ++ more
