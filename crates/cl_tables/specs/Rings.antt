-- Rings of command tables.
use Rattle.std.specs.Prelude.{◌≡◌, ◌⊎◌, ℕ, true, List, [], ◌∷◌, Option, Some, None}
use Rattle.cl_tables.specs.Inheritance.{TableDecls, is_among, parents_of}

-- from one table to another along parents
pub data Reaches (tables : TableDecls) : List ℕ → List ℕ → Type 0 where
  directly : (x y : List ℕ) → is_among y (parents_of tables x) ≡ true → Reaches tables x y
  through : (x y z : List ℕ) → is_among y (parents_of tables x) ≡ true → Reaches tables y z → Reaches tables x z

-- a table that reaches itself
abbrev pub IsOnRing : TableDecls → List ℕ → Type 0
IsOnRing tables x = Reaches tables x x

-- no table reaches itself
abbrev pub HasNoRing : TableDecls → Type 0
HasNoRing tables = (x : List ℕ) → IsOnRing tables x → ⊥

-- Some offset: that of the first declaration whose table is on a ring; None: there is none
abbrev pub IsFirstOnRing : TableDecls → TableDecls → Option ℕ → Type 0
IsFirstOnRing tables [] None = Unit {0}
IsFirstOnRing tables [] (Some at) = ⊥
IsFirstOnRing tables (t ∷ ts) None = (IsOnRing tables t.0 → ⊥) × IsFirstOnRing tables ts None
IsFirstOnRing tables (t ∷ ts) (Some at) = (IsOnRing tables t.0 × (t.1.at ≡ at)) ⊎ ((IsOnRing tables t.0 → ⊥) × IsFirstOnRing tables ts (Some at))
