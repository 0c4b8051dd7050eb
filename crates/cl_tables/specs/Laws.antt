-- What the definitions mean, in the words of the language.
use Rattle.std.specs.Prelude.{◌≡◌, ◌≤◌, ◌⊎◌, ℕ, Bool, true, false, if◌then◌else◌, All, List, [], ◌∷◌, length, Option, Some, None}
use Rattle.std.specs.Str.{bytes_eq}
use Rattle.cl_tables.specs.Inheritance.{TableDecls, is_among}
use Rattle.cl_tables.specs.Lookups.{begins}
use Rattle.cl_tables.specs.Rings.{Reaches}
use Rattle.cl_tables.specs.declared.declarations.CommandPlace.{CommandPlace}

-- the table itself, or one that it reaches along parents
abbrev pub IsInherited : TableDecls → List ℕ → List ℕ → Type 0
IsInherited tables x y = (x ≡ y) ⊎ Reaches tables x y

-- a command that is declared, in a table of this order
abbrev pub stands_among : List (List ℕ) → Option CommandPlace → Bool
stands_among order None = false
stands_among order (Some c) = is_among c.table order

-- its name begins the line, and no other that does is longer
pub record IsLongest (line : List ℕ) (commands : List CommandPlace) (c : CommandPlace) : Type 0 where
  pub begins_line : begins line c ≡ true
  pub none_longer : All (λ d. begins line d ≡ true → length d.line_name ≤ length c.line_name) commands

-- the command of a line; None: no name begins it
abbrev pub IsCommandOf : List ℕ → List CommandPlace → Option CommandPlace → Type 0
IsCommandOf line commands None = All (λ d. begins line d ≡ false) commands
IsCommandOf line commands (Some c) = IsLongest line commands c

-- what the last of the switches of a command says; what was so before, where none is of it
abbrev pub last_switch : List ℕ → List (List ℕ × Bool) → Bool → Bool
last_switch x [] before = before
last_switch x (s ∷ ss) before = last_switch x ss (if bytes_eq x s.0 then s.1 else before)
