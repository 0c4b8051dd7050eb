-- Names that stand twice among names.
use Rattle.std.specs.Prelude.{ℕ, if◌then◌else◌, List, [], ◌∷◌, ◌++◌, Option, Some, None}
use Rattle.std.specs.List.{list_any}
use Rattle.std.specs.Str.{bytes_eq}
use Rattle.cl_table.specs.Names.{with_first}
use Rattle.cl_phases.specs.declared.repeats.Met.{Met}
use Rattle.cl_phases.specs.declared.repeats.NameAt.{NameAt}

-- the offset of the first name that stands before it too, behind these names
abbrev pub repeated : List (List ℕ) → List NameAt → Option ℕ
repeated before [] = None
repeated before (n ∷ ns) = if list_any (bytes_eq n.name) before then Some n.at else repeated (before ++ n.name ∷ []) ns

-- the first name that stands before among these
abbrev pub first_repeated : List NameAt → Option ℕ
first_repeated ns = repeated [] ns

-- the names that were met, with one more
abbrev pub with_met : List (List ℕ × Met) → List ℕ → List (List ℕ × Met)
with_met met x = with_first (λ m. m.name) met (record { name = x })
