-- Tables that are found to be on no ring: such a table is clear once all its parents are.
use Rattle.std.specs.Prelude.{◌≡◌, ℕ, ◌+◌, Bool, true, ◌||◌, not, if◌then◌else◌, is_some, List, [], ◌∷◌, length}
use Rattle.cl_table.specs.Names.{named}
use Rattle.cl_tables.specs.Inheritance.{TableDecls}
use Rattle.cl_tables.specs.Rings.{IsOnRing}
use Rattle.cl_tables.specs.Walk.{Visits, is_visited}

-- none of these tables is on a ring
abbrev pub AreClear : TableDecls → Visits → Type 0
AreClear tables clear = (x : List ℕ) → is_visited x clear ≡ true → IsOnRing tables x → ⊥

-- a table that is clear, or is not declared
abbrev pub is_clear : TableDecls → Visits → List ℕ → Bool
is_clear tables clear x = is_visited x clear || not (is_some (named x tables))

-- how many parents the tables have that were not visited, and one more for each of these tables
abbrev pub pending : TableDecls → Visits → ℕ
pending [] visits = 0
pending (t ∷ ts) visits = (if is_visited t.0 visits then 0 else length t.1.inherit_from + 1) + pending ts visits
