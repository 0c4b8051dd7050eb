-- `map` whose values are not kept once their list is past the limit of size.
use Rattle.std.proofs.Common.{◌≡◌, ℕ, ◌+◌, ◌≤◌, nat_le, false, List, [], ◌∷◌, ◌++◌, Err, refl, arith, rules, tests}
use Rattle.cl_value.specs.Data.{Data, list, items_of, size_of, size_of_items}
use Rattle.cl_syntax.specs.ExprTree.{ExprTree}
use Rattle.cl_eval.specs.declared.metering.Meter.{Meter}
use Rattle.cl_eval.specs.declared.metering.Stop.{Stop}
use Rattle.cl_eval.specs.Outcome.{Outcome, Gives, Traps, Run, after, lift, cost_of}
use Rattle.cl_eval.specs.Slots.{Env}
use Rattle.cl_eval.specs.Operators.{within_limits}
use Rattle.cl_eval.specs.Meaning.{Go, map_each}
use Rattle.cl_eval.specs.Mapping.{map_behind, past_limit}
use Rattle.cl_eval.specs.Agrees.{Agrees, itself}
use Rattle.cl_value.specs.Value.{data_of}
use Rattle.cl_eval.proofs.CostLemmas.{GoGrows, Grows, Agrees-stop, grows-then, grows-mapped, grows-limited}
use Rattle.cl_eval.proofs.StopLemmas.{stop-mapped}

pub more_size : (es : List Data) (d : Data) → size_of_items (items_of (es ++ d ∷ [])) ≡ size_of_items (items_of es) + size_of d
more_size [] d = omega arith
more_size (e ∷ es) d = omega (arith, more_size es d)

limited_past : (es : List Data) → 65536 ≤ size_of_items (items_of es) → within_limits (list (items_of es)) ≡ Err 7
limited_past es h =
    let past : nat_le (1 + size_of_items (items_of es)) 65536 ≡ false = search (rules, tests) in
    rw past refl

-- the same behind the first value
past_step : (o : Outcome Data) (k : Data → Run (List Data)) (f : List Data → Run Data) (r : Run Data)
    → ((v : Data) (n l : ℕ) → after (k v n l) f ≡ r n l) → after (after o k) f ≡ after o (λ _. r)
past_step (Gives v n l) k f r h = h v n l
past_step (Traps kind n l) k f r h = refl

pub past_is : (go : Go) (level : ℕ) (env : Env) (x : List ℕ) (t : ExprTree) (ds es : List Data) → 65536 ≤ size_of_items (items_of es)
    → (c d : ℕ) → map_behind go level env x t ds es c d ≡ past_limit go level env x t ds c d
past_is go level env x t [] es h c d = rw (limited_past es h) refl
past_is go level env x t (a ∷ ds) es h c d =
    past_step (go level ((x, a) ∷ env) t c d) (λ v. map_each go level env x t ds (es ++ v ∷ [])) (λ vs. lift (within_limits (list (items_of vs))))
    (past_limit go level env x t ds) (λ v n l. past_is go level env x t ds (es ++ v ∷ []) (omega (arith, more_size es v, h)) n l)

grows-map_behind : (go : Go) → GoGrows go → (level : ℕ) (env : Env) (x : List ℕ) (t : ExprTree) (ds es : List Data) → Grows (map_behind go level env x t ds es)
grows-map_behind go g level env x t ds es =
    grows-then (map_each go level env x t ds es) (λ vs. lift (within_limits (list (items_of vs)))) (grows-mapped go g level env x t ds es) grows-limited

pub stop-map_behind : (go : Go) → GoGrows go → (level : ℕ) (env : Env) (x : List ℕ) (t : ExprTree) (a : Data) (ds es : List Data) (e : Stop) (m : Meter) (c d : ℕ)
    → Agrees data_of (Err e) m (go level ((x, a) ∷ env) t c d) → Agrees data_of (Err e) m (map_behind go level env x t (a ∷ ds) es c d)
stop-map_behind go g level env x t a ds es e m c d p =
    Agrees-stop itself data_of e m (map_each go level env x t (a ∷ ds) es c d) (λ vs. lift (within_limits (list (items_of vs)))) grows-limited
    (stop-mapped go g level env x t a ds es e m c d p)

pub full-map_behind : (go : Go) → GoGrows go → (level : ℕ) (env : Env) (x : List ℕ) (t : ExprTree) (a : Data) (ds es : List Data) (v : Data) (c d n l : ℕ)
    → go level ((x, a) ∷ env) t c d ≡ Gives v n l → n ≤ cost_of (map_behind go level env x t (a ∷ ds) es c d)
full-map_behind go g level env x t a ds es v c d n l p = rw p (grows-map_behind go g level env x t ds (es ++ v ∷ []) n l)

-- a value that is kept
pub next-map_behind : (go : Go) (level : ℕ) (env : Env) (x : List ℕ) (t : ExprTree) (a : Data) (ds es : List Data) (v : Data) (c d n l : ℕ)
    → go level ((x, a) ∷ env) t c d ≡ Gives v n l → map_behind go level env x t (a ∷ ds) es c d ≡ map_behind go level env x t ds (es ++ v ∷ []) n l
next-map_behind go level env x t a ds es v c d n l p = rw p refl

-- the value that brings the list past the limit
pub pass-map_behind : (go : Go) (level : ℕ) (env : Env) (x : List ℕ) (t : ExprTree) (a : Data) (ds es : List Data) (v : Data) (c d n l : ℕ)
    → go level ((x, a) ∷ env) t c d ≡ Gives v n l → 65536 ≤ size_of_items (items_of es) + size_of v
    → map_behind go level env x t (a ∷ ds) es c d ≡ past_limit go level env x t ds n l
pass-map_behind go level env x t a ds es v c d n l p h =
    rw p (past_is go level env x t ds (es ++ v ∷ []) (omega (arith, more_size es v, h)) n l)

grows-past : (go : Go) → GoGrows go → (level : ℕ) (env : Env) (x : List ℕ) (t : ExprTree) (ds : List Data) → Grows (past_limit go level env x t ds)
grows-past go g level env x t [] = λ c d. omega arith
grows-past go g level env x t (a ∷ ds) =
    grows-then (go level ((x, a) ∷ env) t) (λ _. past_limit go level env x t ds) (g level ((x, a) ∷ env) t) (λ _. grows-past go g level env x t ds)

pub stop-past : (go : Go) → GoGrows go → (level : ℕ) (env : Env) (x : List ℕ) (t : ExprTree) (a : Data) (ds : List Data) (e : Stop) (m : Meter) (c d : ℕ)
    → Agrees data_of (Err e) m (go level ((x, a) ∷ env) t c d) → Agrees data_of (Err e) m (past_limit go level env x t (a ∷ ds) c d)
stop-past go g level env x t a ds e m c d =
    Agrees-stop data_of data_of e m (go level ((x, a) ∷ env) t c d) (λ _. past_limit go level env x t ds) (λ _. grows-past go g level env x t ds)
