-- The declaration in a place.
use Rattle.std.proofs.Common.{◌≡◌, ◌<◌, ◌+◌, ℕ, zero, suc, List, [], ◌∷◌, drop, length, map, refl, sym, ap, Option, Some, None, arith}
use Rattle.cl_application.specs.Panes.{declared_by}
use Rattle.cl_table.specs.Names.{declared_at}

some_is : {D : Type 0} (c d : D) → ◌≡◌ {A = Option D} (Some c) (Some d) → c ≡ d
some_is c d h = cc

before_rest : {D : Type 0} (table : List (List ℕ × D)) (place : ℕ) (d : D) → Some d ≡ declared_at place table
    → map declared_by (drop place table) ≡ d ∷ map declared_by (drop (suc place) table)
before_rest [] place d h = cc
before_rest (e ∷ table) zero d h = ap (λ c. c ∷ map declared_by table) (sym (some_is d e.1 h))
before_rest (e ∷ table) (suc place) d h = before_rest table place d h

-- it stands before those behind it
pub declared_here : {D : Type 0} (table : List (List ℕ × D)) (place : ℕ) (d : D) → Some d ≡ declared_at place table
    → map declared_by (drop place table) ≡ d ∷ map declared_by (drop (place + 1) table)
declared_here table place d h =
    let next : place + 1 ≡ suc place = omega arith in
    rw next (before_rest table place d h)

-- there is one in each place within the table
pub declared_there : {D : Type 0} (table : List (List ℕ × D)) (place : ℕ) → place < length table → None ≡ declared_at place table → ⊥
declared_there [] place l h = omega (arith, l)
declared_there (e ∷ table) zero l h = cc
declared_there (e ∷ table) (suc place) l h = declared_there table place (omega (arith, l)) h
