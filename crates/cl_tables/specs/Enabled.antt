-- Commands that are enabled or disabled.
use Rattle.std.specs.Prelude.{◌≡◌, ℕ, Bool, true, false, ◌==◌, if◌then◌else◌, List, [], ◌∷◌, Some, option_map, unwrap_or}
use Rattle.std.specs.Cmp.Lexicographic.{pointwise}
use Rattle.std.specs.Map.{lookup, set_value}
use Rattle.std.specs.Str.{bytes_eq}
use Rattle.cl_table.specs.Names.{named}
use Rattle.cl_tables.specs.Accessible.{CommandPlaces}

-- commands by name, each with whether it is enabled
abbrev pub States : Type 0
States = List (List ℕ × Bool)

-- the commands of a text are known and enabled, and no others are known
abbrev pub AreAllEnabled : CommandPlaces → States → Type 0
AreAllEnabled places states = (x : List ℕ) → lookup (pointwise ◌==◌ x) states ≡ option_map (λ c. true) (named x places)

-- one more command is known, and enabled
abbrev pub Enables : List ℕ → States → States → Type 0
Enables x old new = (y : List ℕ) → lookup (pointwise ◌==◌ y) new ≡ (if bytes_eq x y then Some true else lookup (pointwise ◌==◌ y) old)

-- whether a command is enabled; one of an unknown name is not
abbrev pub is_enabled : List ℕ → States → Bool
is_enabled x states = unwrap_or (lookup (pointwise ◌==◌ x) states) false

-- with one command switched on or off, if it is known
abbrev pub with_switch : List ℕ → Bool → States → States
with_switch x on states = set_value (pointwise ◌==◌ x) states on

-- with commands switched on or off, one after another
abbrev pub with_switches : List (List ℕ × Bool) → States → States
with_switches [] states = states
with_switches (s ∷ ss) states = with_switches ss (with_switch s.0 s.1 states)
