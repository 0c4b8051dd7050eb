-- The numbers that expressions give, by which arithmetic and comparisons are evaluated.
use Rattle.std.specs.Prelude.{ℕ, ℤ, Bool, Result, Ok, Err, List, [], ◌∷◌, Option, Some, None}
use Rattle.cl_value.specs.Data.{Data, int}
use Rattle.cl_syntax.specs.ExprTree.{ExprTree, ExprTrees}
use Rattle.cl_application.specs.declared.applications.App.{App}
use Rattle.cl_eval.specs.Outcome.{Run, give, lift, ◌>>=◌}
use Rattle.cl_eval.specs.Slots.{Slots, Env}
use Rattle.cl_syntax.specs.declared.operators.Arithmetic.{Arithmetic}
use Rattle.cl_syntax.specs.declared.operators.Comparison.{Comparison}
use Rattle.cl_eval.specs.Operators.{Answer, calculate, compare_numbers, truth}
use Rattle.cl_eval.specs.Meaning.{Go, each, parts}

-- the number that a value is, where it is one
abbrev pub number_in : Data → Option ℤ
number_in (int z) = Some z
number_in d = None

-- the number that a value is that comes, where it is one
abbrev pub number_of : Answer → Result (Option ℤ) ℕ
number_of (Ok d) = Ok (number_in d)
number_of (Err kind) = Err kind

-- both of them, where each is there
abbrev pub both : Option ℤ → Option ℤ → Option (ℤ × ℤ)
both None y = None
both (Some x) None = None
both (Some x) (Some y) = Some (x, y)

-- the two numbers that values are, where they are two and each is one
abbrev pub pair_in : List Data → Option (ℤ × ℤ)
pair_in (d ∷ e ∷ []) = both (number_in d) (number_in e)
pair_in ds = None

-- the arithmetic of two numbers, where they are there
abbrev pub arithmetic_on : Arithmetic → Option (ℤ × ℤ) → Answer
arithmetic_on o None = Err 1
arithmetic_on o (Some p) = calculate o p.0 p.1

-- the comparison of two numbers, where they are there
abbrev pub comparison_on : Comparison → Option (ℤ × ℤ) → Result Bool ℕ
comparison_on o None = Err 1
comparison_on o (Some p) = Ok (compare_numbers o p.0 p.1)

-- the number that an expression gives, where it gives one
abbrev pub give_number : Go → ℕ → Env → ExprTree → Run (Option ℤ)
give_number go level env t = go level env t >>= λ d. give (number_in d)

-- the two numbers that parts give, where they are two and each gives one
abbrev pub give_pair : Go → ℕ → Env → ExprTrees → Run (Option (ℤ × ℤ))
give_pair go level env ts = each go level env ts [] >>= λ ds. give (pair_in ds)

-- the number that a form gives that was entered, where it gives one
abbrev pub number_parts : App → Slots → Go → ℕ → Env → ExprTree → Run (Option ℤ)
number_parts app slots go level env t = parts app slots go level env t >>= λ d. give (number_in d)

-- whether a form is true that was entered, where a Bool is asked for
abbrev pub truth_of_parts : App → Slots → Go → ℕ → Env → ExprTree → Run Bool
truth_of_parts app slots go level env t = parts app slots go level env t >>= λ d. lift (truth d)
