-- A number that stands still at 2^64 - 1 has the value of its digits, as far as that fits.
use Rattle.std.proofs.Common.{◌≡◌, ℕ, suc, ◌+◌, ◌-◌, ◌*◌, ◌^◌, ◌<◌, ◌≤◌, List, [], ◌∷◌, length, get_or, drop, min, refl, inl, inr, arith, drop-cons, add-one}
use Rattle.std.proofs.lemmas.List.{drop_all}
use Rattle.std.proofs.lemmas.Bool.{cases_lt}
use Rattle.cl_sexp.specs.Numbers.{decimal_after}

pub decimal_grows : (v : ℕ) (ds : List ℕ) → v ≤ decimal_after v ds
decimal_grows v [] = omega arith
decimal_grows v (d ∷ ds) = omega (arith, decimal_grows (v * 10 + (d - 48)) ds)

small : (w v : ℕ) (ds : List ℕ) → w ≡ min v (2 ^ 64 - 1) → v ≤ 2 ^ 64 - 1 → min (decimal_after w ds) (2 ^ 64 - 1) ≡ min (decimal_after v ds) (2 ^ 64 - 1)
small w v ds e h = let same : w ≡ v = omega (arith, e, h) in rw same refl

large : (w v : ℕ) (ds : List ℕ) → w ≡ min v (2 ^ 64 - 1) → 2 ^ 64 - 1 < v → min (decimal_after w ds) (2 ^ 64 - 1) ≡ min (decimal_after v ds) (2 ^ 64 - 1)
large w v ds e h = omega (arith, e, h, decimal_grows w ds, decimal_grows v ds)

-- the number so far stands still, and the value of the digits goes on
stands_still : (w v : ℕ) (ds : List ℕ) → w ≡ min v (2 ^ 64 - 1) → min (decimal_after w ds) (2 ^ 64 - 1) ≡ min (decimal_after v ds) (2 ^ 64 - 1)
stands_still w v ds e = elim (cases_lt (2 ^ 64 - 1) v) [ inl h ↦ large w v ds e h | inr h ↦ small w v ds e h ]

pub magnitude_next : (value r i : ℕ) (ds : List ℕ) → i < length ds → r ≡ min (value * 10 + (get_or ds i 0 - 48)) (2 ^ 64 - 1)
    → min (decimal_after r (drop (i + 1) ds)) (2 ^ 64 - 1) ≡ min (decimal_after value (drop i ds)) (2 ^ 64 - 1)
magnitude_next value r i ds h e = rw (add-one, drop-cons ds i 0 h) (stands_still r (value * 10 + (get_or ds i 0 - 48)) (drop (suc i) ds) e)

pub magnitude_end : (value i : ℕ) (ds : List ℕ) → length ds ≤ i → decimal_after value (drop i ds) ≡ value
magnitude_end value i ds h = rw (drop_all i ds h) refl
