-- How `map` gathers its values: once their list is past the limit of size, it keeps none, and trap 7 comes in the end.
use Rattle.std.specs.Prelude.{ℕ, List, [], ◌∷◌}
use Rattle.cl_value.specs.Data.{Data, list, items_of}
use Rattle.cl_syntax.specs.ExprTree.{ExprTree}
use Rattle.cl_eval.specs.Outcome.{Run, trap, lift, ◌>>=◌}
use Rattle.cl_eval.specs.Slots.{Env}
use Rattle.cl_eval.specs.Operators.{within_limits}
use Rattle.cl_eval.specs.Meaning.{Go, map_each}

-- the list of the values of a body for each of these, behind those that are there
abbrev pub map_behind : Go → ℕ → Env → List ℕ → ExprTree → List Data → List Data → Run Data
map_behind go level env x body ds es = map_each go level env x body ds es >>= λ vs. lift (within_limits (list (items_of vs)))

-- the list of the values of a body for each of these
abbrev pub map_in : Go → ℕ → Env → List ℕ → ExprTree → List Data → Run Data
map_in go level env x body ds = map_behind go level env x body ds []

-- a body for each of these, whose values are not kept
abbrev pub past_limit : Go → ℕ → Env → List ℕ → ExprTree → List Data → Run Data
past_limit go level env x body [] = trap 7
past_limit go level env x body (d ∷ ds) = go level ((x, d) ∷ env) body >>= λ _. past_limit go level env x body ds
