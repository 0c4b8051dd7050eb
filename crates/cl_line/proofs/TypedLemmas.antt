-- Characters as elements.
use Rattle.std.proofs.Common.{◌≡◌, ℕ, List, [], ◌∷◌, length, ap, refl, arith}
use Rattle.cl_line.specs.Elements.{characters, typed}

pub length-typed : (bytes : List ℕ) → length (typed bytes) ≡ length bytes
length-typed [] = refl
length-typed (b ∷ bs) = omega (arith, length-typed bs)

pub characters-typed : (bytes : List ℕ) → characters (typed bytes) ≡ bytes
characters-typed [] = refl
characters-typed (b ∷ bs) = ap (λ x. b ∷ x) (characters-typed bs)
