-- The names and the bounds of host types that are handed in.
use Rattle.std.specs.Prelude.{ℕ, ℤ, List, [], ◌∷◌, Option, Some, None, if◌then◌else◌}
use Rattle.std.specs.Str.{bytes_eq}
use Rattle.cl_ptext.specs.Hosts.{NameEntries}

-- the names that are there; none where they are not
abbrev pub names_there : Option NameEntries → NameEntries
names_there None = []
names_there (Some names) = names

-- the names of the first host type of a name; none where there is no such host type
abbrev pub host_names : List ℕ → List (List ℕ × NameEntries) → NameEntries
host_names x [] = []
host_names x (h ∷ hs) = if bytes_eq x h.0 then h.1 else host_names x hs

-- the least and the greatest number of the first host type of a name; none where there is no such host type
abbrev pub bounds_of : List ℕ → List (List ℕ × ℤ × ℤ) → Option (ℤ × ℤ)
bounds_of x [] = None
bounds_of x (h ∷ hs) = if bytes_eq x h.0 then Some (h.1, h.2) else bounds_of x hs
