-- A declaration of a table that has something, at a place or behind it.
use Rattle.std.proofs.Common.{◌≡◌, ◌+◌, inl, inr, ℕ, zero, suc, Bool, false, drop, List, [], ◌∷◌, Some, subst, arith}
use Rattle.std.specs.Prelude.{IsTrue}
use Rattle.cl_table.specs.Names.{declared_at}
use Rattle.cl_phases.specs.SlotReads.{OneHas}

module _ {D : Type 0} where
  -- what stands at a place is one of them
  pub here : (P : D → Type 0) (t : List (List ℕ × D)) (i : ℕ) (d : D) → Some d ≡ declared_at i t → P d → OneHas P t
  here P [] zero d h p = cc
  here P [] (suc i) d h p = cc
  here P (e ∷ t) zero d h p =
      let same : d ≡ e.1 = cc in
      inl (subst P same p)
  here P (e ∷ t) (suc i) d h p = inr (here P t i d h p)

  on : (P : D → Type 0) (t : List (List ℕ × D)) (i : ℕ) (d : D) → Some d ≡ declared_at i t → (P d → ⊥) → OneHas P (drop i t) → OneHas P (drop (suc i) t)
  on P [] zero d h n r = cc
  on P [] (suc i) d h n r = cc
  on P (e ∷ t) zero d h n (inl r) =
      let same : e.1 ≡ d = cc in
      absurd (n (subst P same r))
  on P (e ∷ t) zero d h n (inr r) = r
  on P (e ∷ t) (suc i) d h n r = on P t i d h n r

  -- what is left has one where the declaration at its head has it not
  pub next : (P : D → Type 0) (t : List (List ℕ × D)) (i : ℕ) (d : D) → Some d ≡ declared_at i t → (P d → ⊥) → OneHas P (drop i t) → OneHas P (drop (i + 1) t)
  next P t i d h n r =
      let one_more : i + 1 ≡ suc i = omega arith in
      rw one_more (on P t i d h n r)

pub not_both : (b : Bool) → b ≡ false → IsTrue b → ⊥
not_both b h t = cc
