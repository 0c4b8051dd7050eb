-- Arithmetic and comparisons of the numbers that parts give.
use Rattle.std.proofs.Common.{◌≡◌, ℕ, ℤ, Bool, List, [], ◌∷◌, Option, Result, Ok, Err, refl, arith}
use Rattle.cl_value.specs.Data.{Data, int, bool}
use Rattle.cl_value.specs.Value.{data_of}
use Rattle.cl_syntax.specs.ExprTree.{ExprTree, ExprTrees, none, part}
use Rattle.cl_syntax.specs.declared.operators.Arithmetic.{Arithmetic}
use Rattle.cl_syntax.specs.declared.operators.Comparison.{Comparison}
use Rattle.cl_eval.specs.declared.metering.Meter.{Meter}
use Rattle.cl_eval.specs.declared.metering.Stop.{Stop}
use Rattle.cl_eval.specs.declared.metering.Stop.TheVariants.{Trap, Memory}
use Rattle.cl_eval.specs.Outcome.{Outcome, Gives, Traps, after, give, lift}
use Rattle.cl_eval.specs.Slots.{Env}
use Rattle.cl_eval.specs.Operators.{Answer, truth, arithmetic_of, comparison_of}
use Rattle.cl_eval.specs.Meaning.{Go, each}
use Rattle.cl_eval.specs.Calculation.{number_in, number_of, both, pair_in, give_number, give_pair, arithmetic_on, comparison_on}
use Rattle.cl_eval.specs.Agrees.{Agrees, Comes, itself, items_are}
use Rattle.cl_eval.proofs.CostLemmas.{GoGrows, Agrees-stop, Agrees-lift, grows-give, grows-lift}
use Rattle.cl_eval.proofs.StopLemmas.{stop-each}

-- a value that was looked for
pub Agrees-number : (r : Result (Option ℤ) Stop) (m : Meter) (q : Answer) → Comes itself r (number_of q)
    → Agrees itself r m (after (lift q m.cost m.deepest) (λ d. give (number_in d)))
Agrees-number (Ok x) m (Ok d) p = cc
Agrees-number (Ok x) m (Err k) p = cc
Agrees-number (Err (Trap j)) m (Ok d) p = cc
Agrees-number (Err (Trap j)) m (Err k) p = cc
Agrees-number (Err Memory) m (Ok d) p = omega arith
Agrees-number (Err Memory) m (Err k) p = omega arith

-- a stop where a number was asked for is a stop of the expression
pub number-stop : (e : Stop) (m : Meter) (o : Outcome Data) → Agrees itself (Err e) m (after o (λ d. give (number_in d))) → Agrees data_of (Err e) m o
number-stop (Trap k) m (Gives d n l) p = cc
number-stop (Trap k) m (Traps j n l) p =
    let kind : j ≡ k = cc in
    let cost : n ≡ m.cost = cc in
    let deepest : l ≡ m.deepest = cc in
    rw (kind, cost, deepest) refl
number-stop Memory m (Gives d n l) p = p
number-stop Memory m (Traps j n l) p = p

-- what gave a number, or none
pub record Numbered (o : Outcome Data) (x : Option ℤ) (n l : ℕ) : Type 0 where
  pub value : Data
  pub gives : o ≡ Gives value n l
  pub is : number_in value ≡ x

pub number-gives : (o : Outcome Data) (x : Option ℤ) (n l : ℕ) → after o (λ d. give (number_in d)) ≡ Gives x n l → Numbered o x n l
number-gives (Gives d i j) x n l p = record { value = d; gives = cc; is = cc }
number-gives (Traps k i j) x n l p = cc

pub stop-first_number : (go : Go) → GoGrows go → (level : ℕ) (env : Env) (t : ExprTree) (ts : ExprTrees) (e : Stop) (m : Meter) (c d : ℕ)
    → Agrees itself (Err e) m (give_number go level env t c d) → Agrees itself (Err e) m (give_pair go level env (part t ts) c d)
stop-first_number go g level env t ts e m c d p =
    Agrees-stop items_are itself e m (each go level env (part t ts) [] c d) (λ ds. give (pair_in ds)) (λ ds. grows-give (pair_in ds))
    (stop-each go g level env t ts [] e m c d (number-stop e m (go level env t c d) p))

pub stop-second_number : (go : Go) → GoGrows go → (level : ℕ) (env : Env) (t u : ExprTree) (x : Option ℤ) (e : Stop) (m : Meter) (c d n l : ℕ)
    → give_number go level env t c d ≡ Gives x n l → Agrees itself (Err e) m (give_number go level env u n l)
    → Agrees itself (Err e) m (give_pair go level env (part t (part u none)) c d)
stop-second_number go g level env t u x e m c d n l p q =
    let first = number-gives (go level env t c d) x n l p in
    rw first.gives
    (Agrees-stop items_are itself e m (each go level env (part u none) (first.value ∷ []) n l) (λ ds. give (pair_in ds)) (λ ds. grows-give (pair_in ds))
    (stop-each go g level env u none (first.value ∷ []) e m n l (number-stop e m (go level env u n l) q)))

pub both-numbers : (go : Go) (level : ℕ) (env : Env) (t u : ExprTree) (x y : Option ℤ) (m : Meter) (c d n l : ℕ)
    → give_number go level env t c d ≡ Gives x n l → give_number go level env u n l ≡ Gives y m.cost m.deepest
    → give_pair go level env (part t (part u none)) c d ≡ Gives (both x y) m.cost m.deepest
both-numbers go level env t u x y m c d n l p q =
    let first = number-gives (go level env t c d) x n l p in
    let second = number-gives (go level env u n l) y m.cost m.deepest q in
    rw (first.gives, second.gives, first.is, second.is) refl

-- a comparison as an answer
abbrev pub as_answer : Result Bool ℕ → Answer
as_answer (Ok b) = Ok (bool b)
as_answer (Err k) = Err k

pub as_answer-comes : (r : Result Bool Stop) (q : Result Bool ℕ) → Comes itself r q → Comes bool r (as_answer q)
as_answer-comes (Ok b) q p = rw p refl
as_answer-comes (Err (Trap k)) q p = rw p refl
as_answer-comes (Err Memory) q p = p

-- an operator over the two numbers
pub arithmetic_pair : (o : Arithmetic) (ds : List Data) → arithmetic_of o ds ≡ arithmetic_on o (pair_in ds)
arithmetic_pair o [] = refl
arithmetic_pair o (int x ∷ []) = refl
arithmetic_pair o (d ∷ []) = refl
arithmetic_pair o (int x ∷ int y ∷ []) = refl
arithmetic_pair o (d ∷ e ∷ []) = refl
arithmetic_pair o (int x ∷ int y ∷ f ∷ ds) = refl
arithmetic_pair o (d ∷ e ∷ f ∷ ds) = refl

pub comparison_pair : (o : Comparison) (ds : List Data) → comparison_of o ds ≡ as_answer (comparison_on o (pair_in ds))
comparison_pair o [] = refl
comparison_pair o (int x ∷ []) = refl
comparison_pair o (d ∷ []) = refl
comparison_pair o (int x ∷ int y ∷ []) = refl
comparison_pair o (d ∷ e ∷ []) = refl
comparison_pair o (int x ∷ int y ∷ f ∷ ds) = refl
comparison_pair o (d ∷ e ∷ f ∷ ds) = refl

pub pair-stop : {A : Type 0} (f : A → Data) (e : Stop) (m : Meter) (o : Outcome (List Data)) (h : List Data → Answer)
    → Agrees itself (Err e) m (after o (λ ds. give (pair_in ds))) → Agrees f (Err e) m (after o (λ ds. lift (h ds)))
pair-stop f (Trap k) m (Gives ds n l) h p = cc
pair-stop f (Trap k) m (Traps j n l) h p =
    let kind : j ≡ k = cc in
    let cost : n ≡ m.cost = cc in
    let deepest : l ≡ m.deepest = cc in
    rw (kind, cost, deepest) refl
pair-stop f Memory m (Gives ds n l) h p = omega (arith, p, grows-lift (h ds) n l)
pair-stop f Memory m (Traps j n l) h p = p

pub pair-done : {A : Type 0} (f : A → Data) (r : Result A Stop) (m : Meter) (o : Outcome (List Data)) (x : Option (ℤ × ℤ)) (h : List Data → Answer)
    (k : Option (ℤ × ℤ) → Answer) → ((ds : List Data) → h ds ≡ k (pair_in ds)) → after o (λ ds. give (pair_in ds)) ≡ Gives x m.cost m.deepest
    → Comes f r (k x) → Agrees f r m (after o (λ ds. lift (h ds)))
pair-done f r m (Gives ds n l) x h k is p comes =
    let pairs : pair_in ds ≡ x = cc in
    let cost : n ≡ m.cost = cc in
    let deepest : l ≡ m.deepest = cc in
    rw (is ds, pairs, cost, deepest) (Agrees-lift f r m (k x) comes)
pair-done f r m (Traps j n l) x h k is p comes = cc

-- a comparison where a test is asked for
pub truth-done : (r : Result Bool Stop) (m : Meter) (o : Outcome Data) → Agrees bool r m o → Agrees itself r m (after o (λ d. lift (truth d)))
truth-done (Ok b) m o p = rw p refl
truth-done (Err (Trap k)) m o p = rw p refl
truth-done (Err Memory) m (Gives d n l) p = omega (arith, p, grows-lift (truth d) n l)
truth-done (Err Memory) m (Traps j n l) p = p
