-- Specifiers among others.
use Rattle.std.proofs.Common.{◌≡◌, ◌≤◌, ◌++◌, ℕ, zero, suc, length, List, [], ◌∷◌, refl, ap, arith}
use Rattle.std.specs.List.{insert}

-- what lies behind the end lies at it
pub inserted_behind : {A : Type 0} (xs : List A) (n : ℕ) (x : A) → length xs ≤ n → insert xs n x ≡ xs ++ x ∷ []
inserted_behind [] zero x h = refl
inserted_behind [] (suc n) x h = refl
inserted_behind (y ∷ xs) zero x h = absurd (omega (arith, h))
inserted_behind (y ∷ xs) (suc n) x h = ap (λ ys. y ∷ ys) (inserted_behind xs n x (omega (arith, h)))
