-- The words of the command line, and the usage line.
use Rattle.std.specs.Prelude.{ℕ, List, [], ◌∷◌, ◌++◌, codes, Option, None}
use Rattle.cl_program.specs.Command.{IsRun}

-- the words behind the program's name as those of a run
abbrev pub as_run : List (List ℕ) → List (List ℕ)
as_run words = codes "run" ∷ words

-- words with `run` before them run this application without a wire, with this budget where they give one
abbrev pub IsRunHere : (words : List (List ℕ)) → (name : List ℕ) → (budget : Option ℕ) → Type 0
IsRunHere words name budget = IsRun words name None budget

-- they run none without a wire
abbrev pub IsNoRun : (words : List (List ℕ)) → Type 0
IsNoRun words = (name : List ℕ) (budget : Option ℕ) → IsRunHere words name budget → ⊥

-- the words ask for this application in the terminal, with this budget where they give one
abbrev pub IsLive : (words : List (List ℕ)) → (name : List ℕ) → (budget : Option ℕ) → Type 0
IsLive words name budget = IsRunHere (as_run words) name budget

-- they ask for none
abbrev pub IsNoLive : (words : List (List ℕ)) → Type 0
IsNoLive words = IsNoRun (as_run words)

-- the line of how the program is used
abbrev pub usage_line : List ℕ
usage_line = codes "usage: clim_term APP [--budget N]" ++ 10 ∷ []
