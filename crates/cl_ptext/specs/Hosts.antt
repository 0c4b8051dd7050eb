-- The names of host types.
use Rattle.std.specs.Prelude.{ℕ, ℤ, List, [], ◌∷◌, Option, Some, None, if◌then◌else◌}
use Rattle.std.specs.Ordering.{int_eq}

-- names with their numbers, in order
abbrev pub NameEntries : Type 0
NameEntries = List (List ℕ × ℤ)

-- the first name of a number; None where it has none
abbrev pub name_of_number : ℤ → NameEntries → Option (List ℕ)
name_of_number z [] = None
name_of_number z (e ∷ es) = if int_eq z e.1 then Some e.0 else name_of_number z es
