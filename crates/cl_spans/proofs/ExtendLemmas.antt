-- What a loop over the last span does is what `extended` says.
use Rattle.std.proofs.Common.{◌≡◌, ℕ, zero, suc, ℤ, ◌≤ℤ◌, ◌<ℤ◌, ◌<◌, true, false, List, [], ◌∷◌, ◌++◌, length, get_or, set, refl, sym, ◌∙◌, ap, arith}
use Rattle.std.specs.Prelude.{int_le}
use Rattle.std.specs.Int.{int_max}
use Rattle.std.proofs.lemmas.Int.{ints}
use Rattle.cl_spans.specs.declared.runs.Span.{Span}
use Rattle.cl_spans.specs.Extending.{extended}

le_true : (x y : ℤ) → x ≤ℤ y → int_le x y ≡ true
le_true x y h = grind (arith, ints)

le_false : (x y : ℤ) → y <ℤ x → int_le x y ≡ false
le_false x y h = grind (arith, ints)

-- what an index gives within a list is one value
pub same_item : (xs : List Span) (n : ℕ) (a b : Span) → n < length xs → a ≡ get_or xs n a → b ≡ get_or xs n b → a ≡ b
same_item [] n a b l e f = absurd (omega arith)
same_item (x ∷ xs) zero a b l e f = e ∙ sym f
same_item (x ∷ xs) (suc n) a b l e f = same_item xs n a b (omega arith) e f

joins_one : (b s a : Span) (e : ℤ) → a ≡ b → s.x1 ≤ℤ a.x2 → e ≡ int_max a.x2 s.x2 → ◌≡◌ {A = List Span} (record { x1 = a.x1; x2 = e } ∷ []) (extended (b ∷ []) s)
joins_one b s a e f h k = rw (← f, le_true s.x1 a.x2 h, k) refl

-- where a span begins no further than the last ends, the last gets the further end
pub joins : (xs : List Span) (s : Span) (n : ℕ) (a : Span) (e : ℤ) → length xs ≡ suc n → a ≡ get_or xs n a → s.x1 ≤ℤ a.x2 → e ≡ int_max a.x2 s.x2
    → set xs n (record { x1 = a.x1; x2 = e }) ≡ extended xs s
joins [] s n a e l f h k = absurd (omega arith)
joins (b ∷ []) s zero a e l f h k = joins_one b s a e f h k
joins (b ∷ []) s (suc n) a e l f h k = absurd (omega arith)
joins (b ∷ d ∷ rest) s zero a e l f h k = absurd (omega arith)
joins (b ∷ d ∷ rest) s (suc n) a e l f h k = ap (λ ys. b ∷ ys) (joins (d ∷ rest) s n a e (omega arith) f h k)

-- the first span of a row
pub adds_first : (xs : List Span) (s : Span) → length xs ≡ 0 → xs ++ s ∷ [] ≡ extended xs s
adds_first [] s l = refl
adds_first (b ∷ rest) s l = absurd (omega arith)

adds_one : (b s a : Span) → a ≡ b → a.x2 <ℤ s.x1 → ◌≡◌ {A = List Span} (b ∷ s ∷ []) (extended (b ∷ []) s)
adds_one b s a f h = rw (← f, le_false s.x1 a.x2 h) refl

-- where a span begins further than the last ends, it comes behind it
pub adds_more : (xs : List Span) (s : Span) (n : ℕ) (a : Span) → length xs ≡ suc n → a ≡ get_or xs n a → a.x2 <ℤ s.x1 → xs ++ s ∷ [] ≡ extended xs s
adds_more [] s n a l f h = absurd (omega arith)
adds_more (b ∷ []) s zero a l f h = adds_one b s a f h
adds_more (b ∷ []) s (suc n) a l f h = absurd (omega arith)
adds_more (b ∷ d ∷ rest) s zero a l f h = absurd (omega arith)
adds_more (b ∷ d ∷ rest) s (suc n) a l f h = ap (λ ys. b ∷ ys) (adds_more (d ∷ rest) s n a (omega arith) f h)
