-- What the quotient that is rounded down leaves.
use Rattle.std.proofs.Common.{◌≡◌, ℕ, zero, suc, ◌-◌, ◌^◌, ℤ, pos, negsuc, neg_ℤ, ◌-ℤ◌, ◌+ℤ◌, ◌*ℤ◌, ◌<ℤ◌, ◌≤ℤ◌, ◌≢◌, false, refl, arith}
use lib.Signed.{lt_z}
use mir.Syntax.{w64, w128}
use mir.Val.{to_z, of_z}
use Rattle.std.proofs.Math.Nat.{div-add-mod}
use Rattle.std.proofs.lemmas.Int.{ints}
use Rattle.std.specs.Int.{int_rem_euclid}
use Rattle.cl_eval.specs.Operators.{quotient, remainder}

pub left_above : (x : ℤ) (n : ℕ) → remainder x (pos (suc n)) ≡ int_rem_euclid x (pos (suc n))
left_above (pos a) n = let e = div-add-mod a (suc n) in omega (arith, ints)
left_above (negsuc a) n = let e = div-add-mod a (suc n) in omega (arith, ints)

pub left_below : (x : ℤ) (n : ℕ) → remainder x (negsuc n) ≡ neg_ℤ (int_rem_euclid (neg_ℤ x) (pos (suc n)))
left_below (pos zero) n = let e = div-add-mod 0 (suc n) in omega (arith, ints)
left_below (pos (suc a)) n = let e = div-add-mod a (suc n) in omega (arith, ints)
left_below (negsuc a) n = let e = div-add-mod (suc a) (suc n) in omega (arith, ints)

between : (x : ℤ) (n : ℕ) → (pos 0 ≤ℤ int_rem_euclid x (pos (suc n))) × (int_rem_euclid x (pos (suc n)) <ℤ pos (suc n))
between (pos a) n = (omega (arith, ints), omega (arith, ints))
between (negsuc a) n = (omega (arith, ints), omega (arith, ints))

pub whole : (x y : ℤ) → x ≡ y *ℤ quotient x y +ℤ remainder x y
whole x y = omega (arith, ints)

pub within_above : (x y : ℤ) → pos 0 <ℤ y → (pos 0 ≤ℤ remainder x y) × (remainder x y <ℤ y)
within_above x (pos zero) h = absurd (omega (arith, ints))
within_above x (pos (suc n)) h = rw left_above (between x n)
within_above x (negsuc n) h = absurd (omega (arith, ints))

pub within_below : (x y : ℤ) → y <ℤ pos 0 → (y <ℤ remainder x y) × (remainder x y ≤ℤ pos 0)
within_below x (pos n) h = absurd (omega (arith, ints))
within_below x (negsuc n) h =
    let b = between (neg_ℤ x) n in
    rw left_below (omega (arith, ints, b.0, b.1), omega (arith, ints, b.0, b.1))

-- the same, as it is computed
pub left_negated : (x y r : ℤ) → lt_z (pos 0) y ≡ false → y ≢ pos 0 → r ≡ int_rem_euclid (pos 0 -ℤ x) (pos 0 -ℤ y) → (remainder x y ≡ pos 0 -ℤ r) × (pos 0 ≤ℤ r) × (r <ℤ (pos 0 -ℤ y))
left_negated x (pos zero) r h z e = absurd (z refl)
left_negated x (pos (suc n)) r h z e = absurd (omega (arith, ints))
left_negated x (negsuc n) r h z e =
    let turned : pos 0 -ℤ x ≡ neg_ℤ x = omega (arith, ints) in
    let turned' : pos 0 -ℤ negsuc n ≡ pos (suc n) = omega (arith, ints) in
    let f = rw (turned, turned') at e in
    let b = between (neg_ℤ x) n in
    rw (f, left_below, turned') (omega (arith, ints), b.0, b.1)

pub negated_fits : (r : ℤ) → pos 0 ≤ℤ r → r ≤ℤ pos (2 ^ 63 - 1) → to_z w64 (of_z w64 (pos 0 -ℤ to_z w64 (of_z w64 (to_z w128 (of_z w128 r))))) ≡ pos 0 -ℤ r
negated_fits r low high = omega (arith, ints)
