-- Parts of a level.
use Rattle.std.proofs.Common.{◌≡◌, ℕ, zero, suc, ◌-◌, ◌≤◌, List, [], ◌∷◌, length, map, drop, take, ◌∙◌, ap, sym, arith}
use Rattle.std.proofs.lemmas.List.{drop-map, length-drop, take-map}
use Rattle.std.proofs.Math.Seq.{take-length}
use Rattle.cl_damage.specs.Children.{Child}
use Rattle.cl_damage.specs.Steps.{sizes_of}

module _ {X : Type 0} where
  -- the slice of all from an index on
  pub rest_is : (n : ℕ) (xs : List X) → take (length xs - n) (drop n xs) ≡ drop n xs
  rest_is n xs = ap (λ (k : ℕ). take k (drop n xs)) (sym (length-drop n xs)) ∙ take-length (drop n xs)

module _ {A : Type 0} where
  drop-fewer : (n : ℕ) (ks : List (Child A)) → sizes_of (drop n ks) ≤ sizes_of ks
  drop-fewer zero ks = omega arith
  drop-fewer (suc n) [] = omega arith
  drop-fewer (suc n) (k ∷ ks) = omega (arith, drop-fewer n ks)

  take-fewer : (n : ℕ) (ks : List (Child A)) → sizes_of (take n ks) ≤ sizes_of ks
  take-fewer zero ks = omega arith
  take-fewer (suc n) [] = omega arith
  take-fewer (suc n) (k ∷ ks) = omega (arith, take-fewer n ks)

  module _ {X : Type 0} (see : X → Child A) where
    pub rest-seen : (n : ℕ) (xs : List X) → map see (take (length xs - n) (drop n xs)) ≡ drop n (map see xs)
    rest-seen n xs = ap (λ (ys : List X). map see ys) (rest_is n xs) ∙ sym (drop-map see n xs)

    pub rest-fewer : (n : ℕ) (xs : List X) → sizes_of (map see (take (length xs - n) (drop n xs))) ≤ sizes_of (map see xs)
    rest-fewer n xs = rw (rest-seen n xs) (drop-fewer n (map see xs))

    pub first-seen : (n : ℕ) (xs : List X) → map see (take n xs) ≡ take n (map see xs)
    first-seen n xs = sym (take-map see n xs)

    pub first-fewer : (n : ℕ) (xs : List X) → sizes_of (map see (take n xs)) ≤ sizes_of (map see xs)
    first-fewer n xs = rw (first-seen n xs) (take-fewer n (map see xs))
