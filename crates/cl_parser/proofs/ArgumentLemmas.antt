-- The argument in a place.
use Rattle.std.proofs.Common.{◌≡◌, ◌<◌, ◌+◌, ℕ, zero, suc, List, [], ◌∷◌, drop, length, refl, sym, ap, Option, Some, None, arith}
use Rattle.cl_application.specs.declared.declarations.ArgumentDecl.{ArgumentDecl}
use Rattle.cl_parser.specs.Parses.{decls_of}
use Rattle.cl_table.specs.Names.{declared_at}

some_is : (c d : ArgumentDecl) → ◌≡◌ {A = Option ArgumentDecl} (Some c) (Some d) → c ≡ d
some_is c d h = cc

before_rest : (table : List (List ℕ × ArgumentDecl)) (place : ℕ) (d : ArgumentDecl) → Some d ≡ declared_at place table
    → decls_of (drop place table) ≡ d ∷ decls_of (drop (suc place) table)
before_rest [] place d h = cc
before_rest (e ∷ table) zero d h = ap (λ (c : ArgumentDecl). c ∷ decls_of table) (sym (some_is d e.1 h))
before_rest (e ∷ table) (suc place) d h = before_rest table place d h

-- it stands before the arguments behind it
pub argument_here : (table : List (List ℕ × ArgumentDecl)) (place : ℕ) (d : ArgumentDecl) → Some d ≡ declared_at place table
    → decls_of (drop place table) ≡ d ∷ decls_of (drop (place + 1) table)
argument_here table place d h =
    let next : place + 1 ≡ suc place = omega arith in
    rw next (before_rest table place d h)

-- there is one in each place within the table
pub argument_there : (table : List (List ℕ × ArgumentDecl)) (place : ℕ) → place < length table → None ≡ declared_at place table → ⊥
argument_there [] place l h = omega (arith, l)
argument_there (e ∷ table) zero l h = cc
argument_there (e ∷ table) (suc place) l h = argument_there table place (omega (arith, l)) h
