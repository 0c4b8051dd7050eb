-- The variables that a form sees while it is read.
use Rattle.std.specs.Prelude.{ℕ, Bool, false, ◌||◌, List, [], ◌∷◌}
use Rattle.std.specs.Str.{bytes_eq}
use Rattle.cl_expressions.specs.declared.scopes.Scope.{Scope}
use Rattle.cl_expressions.specs.declared.scopes.Scope.TheVariants as scope

-- names of variables, the newest first
abbrev pub Names : Type 0
Names = List (List ℕ)

-- a name is one of these
abbrev pub among : List ℕ → Names → Bool
among x [] = false
among x (y ∷ ys) = bytes_eq y x || among x ys

-- names, each in front of those before it and of others
abbrev pub in_sight : Names → Names → Names
in_sight [] others = others
in_sight (x ∷ xs) others = in_sight xs (x ∷ others)

-- the variables of a scope as the program holds it
abbrev pub variables_of : Scope → Names
variables_of scope.Empty = []
variables_of (scope.Names' xs p s) = in_sight xs.now (variables_of s)
variables_of (scope.One' x p s) = x.now ∷ variables_of s
