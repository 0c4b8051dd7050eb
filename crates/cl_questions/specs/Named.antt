-- The predicates of the types of questions, by name.
use Rattle.std.specs.Prelude.{ℕ, pos, Bool, false, if◌then◌else◌, List, [], ◌∷◌, Some, None, codes}
use Rattle.std.specs.Str.{bytes_eq}
use Rattle.cl_value.specs.Data.{Data}
use Rattle.cl_lattice.specs.Arguments.{number_in}
use Rattle.cl_lattice.specs.Members.{is_within}

-- a number from the first argument to the second; what is no number is no bound
abbrev pub is_between : Data → List Data → Bool
is_between d [] = false
is_between d (low ∷ []) = false
is_between d (low ∷ high ∷ []) = is_within (number_in (Some low)) (number_in (Some high)) d
is_between d (low ∷ high ∷ c ∷ ds) = false

-- whether the predicate of a name is true of a value and arguments
abbrev pub answer_named : List ℕ → Data → List Data → Bool
answer_named f d ds =
    if bytes_eq f (codes "positive") then is_within (Some (pos 1)) None d
    else (if bytes_eq f (codes "between") then is_between d ds
    else bytes_eq f (codes "anything"))
