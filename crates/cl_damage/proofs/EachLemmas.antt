-- What holds of each of a list.
use Rattle.std.proofs.Common.{ℕ, zero, suc, List, [], ◌∷◌, ◌++◌}
use Rattle.std.specs.Prelude.{take, drop}
use Rattle.cl_damage.specs.Agreement.{Each}

module _ {A : Type 0} where
  pub each_weaker : (P Q : A → Type 0) → ((a : A) → P a → Q a) → (xs : List A) → Each P xs → Each Q xs
  each_weaker P Q f [] h = h
  each_weaker P Q f (x ∷ xs) h = (f x h.0, each_weaker P Q f xs h.1)

  pub each_take : (P : A → Type 0) (n : ℕ) (xs : List A) → Each P xs → Each P (take n xs)
  each_take P zero xs h = tt
  each_take P (suc n) [] h = tt
  each_take P (suc n) (x ∷ xs) h = (h.0, each_take P n xs h.1)

  pub each_drop : (P : A → Type 0) (n : ℕ) (xs : List A) → Each P xs → Each P (drop n xs)
  each_drop P zero xs h = h
  each_drop P (suc n) [] h = tt
  each_drop P (suc n) (x ∷ xs) h = each_drop P n xs h.1

  pub each_right : (P : A → Type 0) (xs ys : List A) → Each P (xs ++ ys) → Each P ys
  each_right P [] ys h = h
  each_right P (x ∷ xs) ys h = each_right P xs ys h.1

  pub each_both : (P : A → Type 0) (xs ys : List A) → Each P xs → Each P ys → Each P (xs ++ ys)
  each_both P [] ys h k = k
  each_both P (x ∷ xs) ys h k = (h.0, each_both P xs ys h.1 k)
