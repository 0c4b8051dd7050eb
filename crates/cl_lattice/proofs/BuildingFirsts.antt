-- The first of several, sought from left to right.
use Rattle.std.proofs.Common.{◌≡◌, ◌+◌, inl, inr, ℕ, List, ◌∷◌, Option, Some, None, drop, refl, sym, subst}
use Rattle.cl_lattice.specs.Firsts.{IsFirst}

-- what is first among those that are left is first among all
abbrev pub GoesOn : {A : Type 0} → (A → Type 0) → (A → ℕ) → List A → ℕ → Type 0
GoesOn P at all i = (r : Option ℕ) → IsFirst P at (drop i all) r → IsFirst P at all r

module _ {A : Type 0} where
  past_one : (P : A → Type 0) (at : A → ℕ) (a : A) (more : List A) (r : Option ℕ) → (P a → ⊥) → IsFirst P at more r → IsFirst P at (a ∷ more) r
  past_one P at a more None n h = (n, h)
  past_one P at a more (Some k) n h = inr (n, h)

  pub first_goes_on : (P : A → Type 0) (at : A → ℕ) (all : List A) (i : ℕ) (a : A) → drop i all ≡ a ∷ drop (i + 1) all → (P a → ⊥) → GoesOn P at all i → GoesOn P at all (i + 1)
  first_goes_on P at all i a e n on r h = on r (subst (λ (es : List A). IsFirst P at es r) (sym e) (past_one P at a (drop (i + 1) all) r n h))

  pub first_stops : (P : A → Type 0) (at : A → ℕ) (all : List A) (i : ℕ) (a : A) → drop i all ≡ a ∷ drop (i + 1) all → P a → GoesOn P at all i → IsFirst P at all (Some (at a))
  first_stops P at all i a e p on = on (Some (at a)) (subst (λ (es : List A). IsFirst P at es (Some (at a))) (sym e) (inl (p, refl)))
