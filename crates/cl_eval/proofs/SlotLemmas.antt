-- Putting a value into slots, by the place of its name.
use Rattle.std.proofs.Common.{◌≡◌, ℕ, suc, ◌+◌, ◌<◌, ◌≤◌, Bool, true, false, cond, not, List, [], ◌∷◌, ◌++◌, map, length, slice_set, Some, None, refl, arith, ap}
use Rattle.std.specs.Prelude.{position, nat_lt, if◌then◌else◌}
use Rattle.std.specs.List.{position_or_len}
use Rattle.std.proofs.lemmas.Bool.Decides.{nat_tests}
use Rattle.cl_value.specs.declared.Value.{Value}
use Rattle.cl_value.specs.Value.{data_of}
use Rattle.cl_eval.specs.Slots.{is_name, is_named, put, entry_of}

abbrev Entries : Type 0
Entries = List (List ℕ × Value)

abbrev place : List ℕ → Entries → ℕ
place x es = position_or_len (is_named x) es

put-here : (b : Bool) (x : List ℕ) (v : Value) (e : List ℕ × Value) (es : Entries) (k : ℕ)
    → cond (not b) (1 + k) 0 < length es + 1
    → (k < length es → put x (data_of v) (map entry_of es) ≡ map entry_of (slice_set es k (x, v)))
    → (if b then (x, data_of v) ∷ map entry_of es else entry_of e ∷ put x (data_of v) (map entry_of es))
    ≡ map entry_of (slice_set (e ∷ es) (cond (not b) (1 + k) 0) (x, v))
put-here true x v e es k h go = refl
put-here false x v e es k h go =
    let less : k < length es = omega arith in
    let one : 1 + k ≡ suc k = omega arith in
    rw one (ap (λ rest. entry_of e ∷ rest) (go less))

put-at : (x : List ℕ) (v : Value) (es : Entries) → place x es < length es
    → put x (data_of v) (map entry_of es) ≡ map entry_of (slice_set es (place x es) (x, v))
put-at x v [] h = absurd (omega arith)
put-at x v (e ∷ es) h =
    let less : place x (e ∷ es) < length es + 1 = omega arith in
    put-here (is_name e.0 x) x v e es (place x es) less (put-at x v es)

put-none : (b : Bool) (x : List ℕ) (v : Value) (e : List ℕ × Value) (es : Entries) (k : ℕ)
    → length es + 1 ≤ cond (not b) (1 + k) 0
    → (length es ≤ k → put x (data_of v) (map entry_of es) ≡ map entry_of (es ++ (x, v) ∷ []))
    → (if b then (x, data_of v) ∷ map entry_of es else entry_of e ∷ put x (data_of v) (map entry_of es))
    ≡ map entry_of (e ∷ es ++ (x, v) ∷ [])
put-none true x v e es k h go = absurd (omega arith)
put-none false x v e es k h go =
    let less : length es ≤ k = omega arith in
    ap (λ rest. entry_of e ∷ rest) (go less)

put-past : (x : List ℕ) (v : Value) (es : Entries) → length es ≤ place x es
    → put x (data_of v) (map entry_of es) ≡ map entry_of (es ++ (x, v) ∷ [])
put-past x v [] h = refl
put-past x v (e ∷ es) h =
    let less : length es + 1 ≤ place x (e ∷ es) = omega arith in
    put-none (is_name e.0 x) x v e es (place x es) less (put-past x v es)

chosen : (b : Bool) (k at : ℕ) → cond b (Some k) None ≡ Some at → (b ≡ true) × (k ≡ at)
chosen true k at p = (refl, cc)
chosen false k at p = cc

unchosen : (b : Bool) (k : ℕ) → cond b (Some k) None ≡ None → b ≡ false
unchosen true k p = cc
unchosen false k p = refl

pub put-found : (x : List ℕ) (v : Value) (es : Entries) (at : ℕ) → position (is_named x) es ≡ Some at
    → put x (data_of v) (map entry_of es) ≡ map entry_of (slice_set es at (x, v))
put-found x v es at p =
    let found = chosen (nat_lt (place x es) (length es)) (place x es) at p in
    let less : place x es < length es = grind (arith, nat_tests, found.0) in
    rw (← found.1) (put-at x v es less)

pub put-new : (x : List ℕ) (v : Value) (es : Entries) → position (is_named x) es ≡ None
    → put x (data_of v) (map entry_of es) ≡ map entry_of (es ++ (x, v) ∷ [])
put-new x v es p =
    let none = unchosen (nat_lt (place x es) (length es)) (place x es) p in
    let less : length es ≤ place x es = grind (arith, nat_tests, none) in
    put-past x v es less
