-- Entries of a table one behind the other.
use Rattle.std.proofs.Common.{◌≡◌, ℕ, zero, suc, ◌+◌, ◌++◌, ◌==◌, Bool, true, false, List, [], ◌∷◌, Option, Some, None, map, drop, refl, sym, ap, ◌∙◌, arith}
use Rattle.std.specs.Prelude.{if◌then◌else◌}
use Rattle.std.specs.Cmp.Lexicographic.{pointwise}
use Rattle.cl_table.specs.Names.{declared_at, named, with_first}
use Rattle.cl_lattice.specs.World.{with_all}
use Rattle.cl_lattice.specs.declared.declared_types.DeclaredType.{DeclaredType}

-- a declaration that stands at a place, and what is left there
pub record Entry {D : Type 0} (t : List (List ℕ × D)) (i : ℕ) (d : D) : Type 0 where
  pub name : List ℕ
  pub is : drop i t ≡ (name, d) ∷ drop (suc i) t

module _ {D : Type 0} where
  entry_at : (t : List (List ℕ × D)) (i : ℕ) (d : D) → Some d ≡ declared_at i t → Entry t i d
  entry_at [] zero d h = cc
  entry_at [] (suc i) d h = cc
  entry_at (e ∷ t) zero d h =
      let same : d ≡ e.1 = cc in
      record { name = e.0; is = ap (λ (v : D). (e.0, v) ∷ t) (sym same) }
  entry_at (e ∷ t) (suc i) d h =
      let rest : Entry t i d = entry_at t i d h in
      record { name = rest.name; is = rest.is }

  pub next_entry : (t : List (List ℕ × D)) (i : ℕ) (d : D) → Some d ≡ declared_at i t → (x : List ℕ) × (drop i t ≡ (x, d) ∷ drop (i + 1) t)
  next_entry t i d h =
      let next : i + 1 ≡ suc i = omega arith in
      let e : Entry t i d = entry_at t i d h in
      (e.name, rw next e.is)

  -- one declared type more
  pub next_all : (f : List ℕ × D → DeclaredType) (t : List (List ℕ × D)) (i : ℕ) (d : D) (v : DeclaredType) (old new all : List (List ℕ × DeclaredType))
      → Some d ≡ declared_at i t → ((x : List ℕ) → f (x, d) ≡ v) → new ≡ with_first (λ t. t.name) old v
      → with_all (map f (drop i t)) old ≡ all → with_all (map f (drop (i + 1) t)) new ≡ all
  next_all f t i d v old new all h same is e =
      let one = next_entry t i d h in
      ap (λ (ts : List (List ℕ × DeclaredType)). with_all (map f (drop (i + 1) t)) ts) (is ∙ ap (λ (u : DeclaredType). with_first (λ t. t.name) old u) (sym (same one.0)))
      ∙ ap (λ (es : List (List ℕ × D)). with_all (map f es) old) (sym one.1) ∙ e

-- the first of two
abbrev pub either : {A : Type 0} → Option A → Option A → Option A
either None o = o
either (Some a) o = Some a

module _ {D : Type 0} where
  -- what stands under a name, where one is added behind the others
  pub named_last : (x y : List ℕ) (d : D) (t : List (List ℕ × D)) → named x (t ++ (y, d) ∷ []) ≡ either (named x t) (if pointwise ◌==◌ x y then Some d else None)
  named_last x y d [] = refl
  named_last x y d (e ∷ t) = by_name (pointwise ◌==◌ x e.0) (named_last x y d t)
    where
      by_name : (b : Bool) → named x (t ++ (y, d) ∷ []) ≡ either (named x t) (if pointwise ◌==◌ x y then Some d else None)
          → (if b then Some e.1 else named x (t ++ (y, d) ∷ [])) ≡ either (if b then Some e.1 else named x t) (if pointwise ◌==◌ x y then Some d else None)
      by_name true h = refl
      by_name false h = h
