-- Rows by their places in a list.
use Rattle.std.proofs.Common.{◌≡◌, ℕ, zero, suc, ℤ, pos, ◌+ℤ◌, ◌-ℤ◌, ◌<◌, ◌≤◌, ◌≤ℤ◌, ◌<ℤ◌, true, false, List, [], ◌∷◌, length, get_or, refl, sym, ◌∙◌, ap, arith}
use Rattle.std.specs.Prelude.{int_lt, unsigned_abs}
use Rattle.std.specs.Global.{Vec}
use Rattle.std.proofs.lemmas.Int.{ints, by_lt_z}
use Rattle.std.proofs.lemmas.List.{get_or-map}
use Rattle.cl_spans.specs.declared.runs.Span.{Span}
use Rattle.cl_region.proofs.Corners.{false_holds}
use Rattle.cl_spans.specs.Runs.{AreRuns, row_holds}
use Rattle.cl_spans.specs.SpanRows.{AllAreRuns, SpanRows, row_of, spans_hold}
use Rattle.cl_spans.specs.Filling.{row_in}
use Rattle.cl_spans.proofs.RunLemmas.{some_held}

pub row_at : (vs : List (Vec Span)) (i : ℕ) (v : Vec Span) → i < length vs → v ≡ get_or vs i v → row_in vs i ≡ v.items
row_at vs i v h e = get_or-map (λ (u : Vec Span). u.items) vs i v [] h ∙ ap (λ (u : Vec Span). u.items) (sym e)

pub row_past : (vs : List (Vec Span)) (i : ℕ) → length vs ≤ i → row_in vs i ≡ []
row_past [] i h = refl
row_past (v ∷ vs) zero h = absurd (omega arith)
row_past (v ∷ vs) (suc i) h = row_past vs i (omega arith)

pub runs_at : (rows : List (List Span)) (i : ℕ) → AllAreRuns rows → AreRuns (get_or rows i [])
runs_at [] i h = tt
runs_at (row ∷ rows) zero h = h.0
runs_at (row ∷ rows) (suc i) h = runs_at rows i h.1

pub all_runs : (rows : List (List Span)) → ((i : ℕ) → AreRuns (get_or rows i [])) → AllAreRuns rows
all_runs [] f = tt
all_runs (row ∷ rows) f = (f 0, all_runs rows (λ i. f (suc i)))

pub no_spans : (xs : List Span) → length xs ≡ 0 → xs ≡ []
no_spans [] h = refl
no_spans (x ∷ xs) h = absurd (omega arith)

pub lt_true : (x y : ℤ) → x <ℤ y → int_lt x y ≡ true
lt_true x y h = grind (arith, ints)

pub lt_false : (x y : ℤ) → y ≤ℤ x → int_lt x y ≡ false
lt_false x y h = grind (arith, ints)

-- the row y of rows from a first row on
pub row_before : (s : SpanRows) (y : ℤ) → y <ℤ s.first → row_of s y ≡ []
row_before s y h = rw (lt_true y s.first h) refl

pub row_from : (s : SpanRows) (y : ℤ) → s.first ≤ℤ y → row_of s y ≡ get_or s.rows (unsigned_abs (y -ℤ s.first)) []
row_from s y h = rw (lt_false y s.first h) refl

pub by_lt : {P : Type 0} (a b : ℕ) → (a < b → P) → (b ≤ a → P) → P
by_lt a zero f g = g (omega arith)
by_lt zero (suc b) f g = f (omega arith)
by_lt (suc a) (suc b) f g = by_lt a b (λ h. f (omega arith)) (λ h. g (omega arith))

pub none_anywhere : (vs : List (Vec Span)) (n : ℕ) → length vs ≤ n → ((i : ℕ) → i < n → row_in vs i ≡ []) → (i : ℕ) → row_in vs i ≡ []
none_anywhere vs n h f i = by_lt {P = row_in vs i ≡ []} i n (f i) (λ k. row_past vs i (omega arith))

-- the row so many rows behind the first
pub row_behind : (s : SpanRows) (i : ℕ) → row_of s (s.first +ℤ pos i) ≡ get_or s.rows i []
row_behind s i =
    let there : unsigned_abs ((s.first +ℤ pos i) -ℤ s.first) ≡ i = omega (arith, ints) in
    row_from s (s.first +ℤ pos i) (omega (arith, ints)) ∙ ap (λ k. get_or s.rows k []) there

pub no_rows : (s : SpanRows) → ((i : ℕ) → get_or s.rows i [] ≡ []) → (y : ℤ) → row_of s y ≡ []
no_rows s f y =
    by_lt_z {P = row_of s y ≡ []} y s.first
    (λ before. row_before s y before)
    (λ from. row_from s y from ∙ f (unsigned_abs (y -ℤ s.first)))

pub none_held_in_none : (s : SpanRows) → ((i : ℕ) → get_or s.rows i [] ≡ []) → (x y : ℤ) → spans_hold s x y ≡ false
none_held_in_none s f x y = ap (λ row. row_holds row x) (no_rows s f y)

none_where_none_held : (row : List Span) → AreRuns row → ((x : ℤ) → row_holds row x ≡ false) → row ≡ []
none_where_none_held [] r f = refl
none_where_none_held (s ∷ rest) r f = absurd (false_holds (row_holds (s ∷ rest) s.x1) (f s.x1) (some_held s rest r))

pub none_in_none_held : (s : SpanRows) → AllAreRuns s.rows → ((x y : ℤ) → spans_hold s x y ≡ false) → (i : ℕ) → get_or s.rows i [] ≡ []
none_in_none_held s r f i =
    none_where_none_held (get_or s.rows i []) (runs_at s.rows i r)
    (λ x. ap (λ row. row_holds row x) (sym (row_behind s i)) ∙ f x (s.first +ℤ pos i))
