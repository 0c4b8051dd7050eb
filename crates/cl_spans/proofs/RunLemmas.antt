-- Rows of spans: what a row holds once a span is put behind it, and that a row of maximal runs is told by its columns.
use Rattle.std.proofs.Common.{◌≡◌, ℤ, ◌≤ℤ◌, ◌<ℤ◌, Bool, true, false, ◌||◌, if◌then◌else◌, List, [], ◌∷◌, refl, sym, ◌∙◌, ap, subst, arith}
use Rattle.std.specs.Prelude.{int_le}
use Rattle.std.specs.Int.{int_max}
use Rattle.std.proofs.lemmas.Int.{ints, clamps, by_lt_z}
use Rattle.cl_region.specs.Places.{is_between}
use Rattle.cl_region.proofs.Corners.{false_holds, from_between, none_held, same_bool, to_between, wrong}
use Rattle.cl_region.proofs.Cuts.{or_elim, or_left, or_right}
use Rattle.cl_spans.specs.declared.runs.Span.{Span}
use Rattle.cl_spans.specs.Runs.{AreRuns, BeginAfter, row_holds}
use Rattle.cl_spans.specs.Extending.{extended}

pub by_test : (P : List Span → Type 0) (b : Bool) (x y : List Span) → (b ≡ true → P x) → (b ≡ false → P y) → P (if b then x else y)
by_test P b x y =
    elim b as (λ v. (v ≡ true → P x) → (v ≡ false → P y) → P (if v then x else y)) [ true ↦ λ f g. f refl | false ↦ λ f g. g refl ]

is_le : (x y : ℤ) → int_le x y ≡ true → x ≤ℤ y
is_le x y h = grind (arith, ints, h)

is_more : (x y : ℤ) → int_le x y ≡ false → y <ℤ x
is_more x y h = grind (arith, ints, h)

-- each of the spans begins at this column or before it
abbrev pub BegunBy : ℤ → List Span → Type 0
BegunBy x [] = Unit {0}
BegunBy x (a ∷ rest) = (a.x1 ≤ℤ x) × BegunBy x rest

pub begun_further : (x z : ℤ) (xs : List Span) → x ≤ℤ z → BegunBy x xs → BegunBy z xs
begun_further x z [] h b = tt
begun_further x z (a ∷ rest) h b = (omega (arith, ints, b.0, h), begun_further x z rest h b.1)

pub begun-extended : (xs : List Span) (s : Span) → BegunBy s.x1 xs → BegunBy s.x1 (extended xs s)
begun-extended [] s b = (omega (arith, ints), tt)
begun-extended (a ∷ []) s b =
    by_test (BegunBy s.x1) (int_le s.x1 a.x2) _ (a ∷ s ∷ []) (λ h. (b.0, tt)) (λ h. (b.0, (omega (arith, ints), tt)))
begun-extended (a ∷ b ∷ rest) s h = (h.0, begun-extended (b ∷ rest) s h.1)

after-extended : (e : ℤ) (a : Span) (rest : List Span) (s : Span) → e <ℤ a.x1 → BeginAfter e (extended (a ∷ rest) s)
after-extended e a [] s h = by_test (BeginAfter e) (int_le s.x1 a.x2) _ (a ∷ s ∷ []) (λ k. h) (λ k. h)
after-extended e a (b ∷ rest) s h = h

pub runs-extended : (xs : List Span) (s : Span) → AreRuns xs → BegunBy s.x1 xs → s.x1 <ℤ s.x2 → AreRuns (extended xs s)
runs-extended [] s r b h = (h, tt, tt)
runs-extended (a ∷ []) s r b h =
    by_test AreRuns (int_le s.x1 a.x2) _ (a ∷ s ∷ [])
    (λ k. (omega (arith, ints, clamps, r.0), tt, tt))
    (λ k. (r.0, is_more s.x1 a.x2 k, (h, tt, tt)))
runs-extended (a ∷ b ∷ rest) s r g h = (r.0, after-extended a.x2 b rest s r.1, runs-extended (b ∷ rest) s r.2 g.1 h)

or_assoc : (p q r : Bool) → (p || q) || r ≡ p || (q || r)
or_assoc true q r = refl
or_assoc false q r = refl

or_false : (p : Bool) → p || false ≡ p
or_false true = refl
or_false false = refl

-- two spans of which the second begins within the first or right behind it hold what the one up to the further end holds
held-joined : (a s : Span) (x : ℤ) → a.x1 ≤ℤ s.x1 → s.x1 ≤ℤ a.x2 → is_between a.x1 x (int_max a.x2 s.x2) ≡ is_between a.x1 x a.x2 || is_between s.x1 x s.x2
held-joined a s x h k =
    same_bool (is_between a.x1 x (int_max a.x2 s.x2)) (is_between a.x1 x a.x2 || is_between s.x1 x s.x2)
    (λ m. let w = from_between a.x1 x (int_max a.x2 s.x2) m in
    by_lt_z {P = is_between a.x1 x a.x2 || is_between s.x1 x s.x2 ≡ true} x a.x2
    (λ less. or_left (is_between a.x1 x a.x2) (is_between s.x1 x s.x2) (to_between a.x1 x a.x2 w.0 less))
    (λ more. or_right (is_between a.x1 x a.x2) (is_between s.x1 x s.x2)
    (to_between s.x1 x s.x2 (omega (arith, ints, k, more)) (omega (arith, ints, clamps, w.1, more)))))
    (or_elim (is_between a.x1 x a.x2) (is_between s.x1 x s.x2)
    (λ m. let w = from_between a.x1 x a.x2 m in
    to_between a.x1 x (int_max a.x2 s.x2) w.0 (omega (arith, ints, clamps, w.1)))
    (λ m. let w = from_between s.x1 x s.x2 m in
    to_between a.x1 x (int_max a.x2 s.x2) (omega (arith, ints, h, w.0)) (omega (arith, ints, clamps, w.1))))

pub held-extended : (xs : List Span) (s : Span) (x : ℤ) → BegunBy s.x1 xs → row_holds (extended xs s) x ≡ row_holds xs x || is_between s.x1 x s.x2
held-extended [] s x b = or_false (is_between s.x1 x s.x2)
held-extended (a ∷ []) s x b =
    by_test (λ ys. row_holds ys x ≡ (is_between a.x1 x a.x2 || false) || is_between s.x1 x s.x2) (int_le s.x1 a.x2) _ (a ∷ s ∷ [])
    (λ k. or_false (is_between a.x1 x (int_max a.x2 s.x2)) ∙ (held-joined a s x b.0 (is_le s.x1 a.x2 k)
    ∙ sym (ap (λ p. p || is_between s.x1 x s.x2) (or_false (is_between a.x1 x a.x2)))))
    (λ k. ap (λ p. is_between a.x1 x a.x2 || p) (or_false (is_between s.x1 x s.x2)) ∙ sym (ap (λ p. p || is_between s.x1 x s.x2) (or_false (is_between a.x1 x a.x2))))
held-extended (a ∷ b ∷ rest) s x h =
    ap (λ p. is_between a.x1 x a.x2 || p) (held-extended (b ∷ rest) s x h.1)
    ∙ sym (or_assoc (is_between a.x1 x a.x2) (row_holds (b ∷ rest) x) (is_between s.x1 x s.x2))

outside_first : (s : Span) (x : ℤ) → (s.x1 ≤ℤ x → x <ℤ s.x2 → ⊥) → is_between s.x1 x s.x2 ≡ false
outside_first s x f = none_held (is_between s.x1 x s.x2) (λ h. let w = from_between s.x1 x s.x2 h in f w.0 w.1)

first_held : (s : Span) (x : ℤ) (rest : List Span) → s.x1 ≤ℤ x → x <ℤ s.x2 → row_holds (s ∷ rest) x ≡ true
first_held s x rest h k = or_left (is_between s.x1 x s.x2) (row_holds rest x) (to_between s.x1 x s.x2 h k)

-- runs that begin behind a column hold nothing up to it
none_up_to : (e : ℤ) (xs : List Span) (x : ℤ) → AreRuns xs → BeginAfter e xs → x ≤ℤ e → row_holds xs x ≡ false
none_up_to e [] x r b h = refl
none_up_to e (s ∷ rest) x r b h =
    rw (outside_first s x (λ k l. omega (arith, ints, b, h, k)), none_up_to s.x2 rest x r.2 r.1 (omega (arith, ints, b, h, r.0))) refl

-- and those with a first span none before it
none_before : (s : Span) (rest : List Span) (x : ℤ) → AreRuns (s ∷ rest) → x <ℤ s.x1 → row_holds (s ∷ rest) x ≡ false
none_before s rest x r h =
    rw (outside_first s x (λ k l. omega (arith, ints, h, k)), none_up_to s.x2 rest x r.2 r.1 (omega (arith, ints, h, r.0))) refl

-- nor at the end of the first
none_behind : (s : Span) (rest : List Span) → AreRuns (s ∷ rest) → row_holds (s ∷ rest) s.x2 ≡ false
none_behind s rest r =
    rw (outside_first s s.x2 (λ k l. omega (arith, ints, l)), none_up_to s.x2 rest s.x2 r.2 r.1 (omega (arith, ints))) refl

pub some_held : (s : Span) (rest : List Span) → AreRuns (s ∷ rest) → row_holds (s ∷ rest) s.x1 ≡ true
some_held s rest r = first_held s s.x1 rest (omega (arith, ints)) r.0

-- two rows hold the same columns
pub record HoldSame (a b : List Span) : Type 0 where
  pub held : (x : ℤ) → row_holds a x ≡ row_holds b x

flipped : {a b : List Span} → HoldSame a b → HoldSame b a
flipped h = record { held = λ x. sym (h.held x) }

begins_no_later : (s : Span) (ss : List Span) (t : Span) (ts : List Span) → AreRuns (s ∷ ss) → AreRuns (t ∷ ts) → HoldSame (s ∷ ss) (t ∷ ts) → s.x1 ≤ℤ t.x1
begins_no_later s ss t ts r q h =
    by_lt_z {P = s.x1 ≤ℤ t.x1} t.x1 s.x1
    (λ less. absurd (false_holds (row_holds (s ∷ ss) t.x1) (none_before s ss t.x1 r less) (h.held t.x1 ∙ some_held t ts q)))
    (λ more. more)

ends_no_later : (s : Span) (ss : List Span) (t : Span) (ts : List Span) → AreRuns (s ∷ ss) → AreRuns (t ∷ ts) → HoldSame (s ∷ ss) (t ∷ ts) → s.x1 ≤ℤ t.x1 → s.x2 ≤ℤ t.x2
ends_no_later s ss t ts r q h k =
    by_lt_z {P = s.x2 ≤ℤ t.x2} t.x2 s.x2
    (λ less. absurd (false_holds (row_holds (t ∷ ts) t.x2) (none_behind t ts q)
    (sym (h.held t.x2) ∙ first_held s t.x2 ss (omega (arith, ints, k, q.0)) less)))
    (λ more. more)

span_is : (t : Span) (a b : ℤ) → a ≡ t.x1 → b ≡ t.x2 → ◌≡◌ {A = Span} (record { x1 = a; x2 = b }) t
span_is t a b e f = rw (e, f) refl

same_ends : (s t : Span) → s.x1 ≤ℤ t.x1 → t.x1 ≤ℤ s.x1 → s.x2 ≤ℤ t.x2 → t.x2 ≤ℤ s.x2 → s ≡ t
same_ends s t h k l m =
    let a : s.x1 ≡ t.x1 = omega (arith, ints, h, k) in
    let b : s.x2 ≡ t.x2 = omega (arith, ints, l, m) in
    span_is t s.x1 s.x2 a b

rest_same : (s : Span) (ss ts : List Span) → AreRuns (s ∷ ss) → AreRuns (s ∷ ts) → HoldSame (s ∷ ss) (s ∷ ts) → HoldSame ss ts
rest_same s ss ts r q h = record {
  held = λ x.
      by_lt_z {P = row_holds ss x ≡ row_holds ts x} s.x2 x
      (λ past. let out = outside_first s x (λ k l. omega (arith, ints, past, l)) in
      sym (ap (λ p. p || row_holds ss x) out) ∙ (h.held x ∙ ap (λ p. p || row_holds ts x) out))
      (λ up_to. none_up_to s.x2 ss x r.2 r.1 up_to ∙ sym (none_up_to s.x2 ts x q.2 q.1 up_to));
}

pub rows_same : (a b : List Span) → AreRuns a → AreRuns b → HoldSame a b → a ≡ b
rows_same [] [] r q h = refl
rows_same [] (t ∷ ts) r q h = absurd (wrong (h.held t.x1 ∙ some_held t ts q))
rows_same (s ∷ ss) [] r q h = absurd (wrong (sym (h.held s.x1) ∙ some_held s ss r))
rows_same (s ∷ ss) (t ∷ ts) r q h =
    let k = begins_no_later s ss t ts r q h in
    let l = begins_no_later t ts s ss q r (flipped h) in
    let same = same_ends s t k l (ends_no_later s ss t ts r q h k) (ends_no_later t ts s ss q r (flipped h) l) in
    let q' = subst (λ u. AreRuns (u ∷ ts)) (sym same) q in
    let h' = subst (λ u. HoldSame (s ∷ ss) (u ∷ ts)) (sym same) h in
    ap (λ u. u ∷ ss) same ∙ ap (λ us. t ∷ us) (rows_same ss ts r.2 q.2 (rest_same s ss ts r q' h'))
