-- Names, and what is found by name.
use Rattle.std.specs.Prelude.{◌≡◌, ℕ, ◌==◌, if◌then◌else◌, is_some, All, List, [], ◌∷◌, ◌++◌, Option, Some, None, position, slice_get}
use Rattle.std.specs.Cmp.Lexicographic.{pointwise}
use Rattle.std.specs.Map.{lookup}

-- the first place of a name among names, from 0; None where it is not among them
abbrev pub place_of : List ℕ → List (List ℕ) → Option ℕ
place_of x names = position (pointwise ◌==◌ x) names

-- what stands under a name in a table; None where nothing does
abbrev pub named : {D : Type 0} → List ℕ → List (List ℕ × D) → Option D
named x table = lookup (pointwise ◌==◌ x) table

-- what is declared in an entry, where there is one
abbrev pub declared_in : {D : Type 0} → Option (List ℕ × D) → Option D
declared_in None = None
declared_in (Some p) = Some p.1

-- what stands at a place in a table, from 0; None past its end
abbrev pub declared_at : {D : Type 0} → ℕ → List (List ℕ × D) → Option D
declared_at place table = declared_in (slice_get table place)

-- a declaration behind the others, where none has its name
abbrev pub with_first : {D : Type 0} → (D → List ℕ) → List (List ℕ × D) → D → List (List ℕ × D)
with_first own table d = if is_some (named (own d) table) then table else table ++ (own d, d) ∷ []

-- no two declarations stand under one name
abbrev pub Differ : {D : Type 0} → List (List ℕ × D) → Type 0
Differ [] = Unit {0}
Differ (e ∷ es) = (named e.0 es ≡ None) × Differ es

-- each declaration stands under its own name, and no two under one
pub record IsTable {D : Type 0} (own : D → List ℕ) (table : List (List ℕ × D)) : Type 0 where
  pub owned : All (λ e. e.0 ≡ own e.1) table
  pub differ : Differ table
