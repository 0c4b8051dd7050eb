-- Names with values: slots in the order in which they were added, variables with the newest first.
use Rattle.std.specs.Prelude.{ℕ, Bool, if◌then◌else◌, ◌==◌, List, [], ◌∷◌, Option, Some, None}
use Rattle.std.specs.Cmp.Lexicographic.{pointwise}
use Rattle.cl_value.specs.Data.{Data}
use Rattle.cl_value.specs.declared.Value.{Value}
use Rattle.cl_value.specs.Value.{data_of}

-- names with their values
abbrev pub Slots : Type 0
Slots = List (List ℕ × Data)

-- variables with their values, the nearest first
abbrev pub Env : Type 0
Env = List (List ℕ × Data)

-- two names are the same
abbrev pub is_name : List ℕ → List ℕ → Bool
is_name x y = pointwise ◌==◌ x y

-- the value of the first of a name
abbrev pub value_named : List ℕ → List (List ℕ × Data) → Option Data
value_named x [] = None
value_named x (s ∷ slots) = if is_name s.0 x then Some s.1 else value_named x slots

-- the slot of that name with this value, or a new one at the end
abbrev pub put : List ℕ → Data → Slots → Slots
put x d [] = (x, d) ∷ []
put x d (s ∷ slots) = if is_name s.0 x then (x, d) ∷ slots else s ∷ put x d slots

-- parameters with the values that they are given, as many as there are of both
abbrev pub bind_parameters : List (List ℕ) → List Data → Env
bind_parameters [] ds = []
bind_parameters (x ∷ xs) [] = []
bind_parameters (x ∷ xs) (d ∷ ds) = (x, d) ∷ bind_parameters xs ds

-- a name with its value, as the program holds them
abbrev pub entry_of : List ℕ × Value → List ℕ × Data
entry_of e = (e.0, data_of e.1)

-- one of them has the name
abbrev pub is_named : List ℕ → List ℕ × Value → Bool
is_named x e = is_name e.0 x
