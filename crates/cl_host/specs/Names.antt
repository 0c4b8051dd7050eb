-- Names of numbers.
use Rattle.std.specs.Prelude.{◌≡◌, ℕ, ℤ, ◌==◌, int_le, true, List, Option}
use Rattle.std.specs.Cmp.Lexicographic.{pointwise}
use Rattle.std.specs.Map.{lookup}

-- the number of the first entry of a text; None where the text is no name
abbrev pub first_named : List ℕ → List (List ℕ × ℤ) → Option ℤ
first_named text names = lookup (pointwise ◌==◌ text) names

-- a number lies from the first to the second
abbrev pub IsWithin : ℤ → ℤ → ℤ → Type 0
IsWithin low high z = (int_le low z ≡ true) × (int_le z high ≡ true)
