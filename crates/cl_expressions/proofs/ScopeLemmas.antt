-- Variables in front of others.
use Rattle.std.proofs.Common.{◌≡◌, ◌<◌, ℕ, zero, suc, Bool, true, ◌||◌, ◌++◌, List, [], ◌∷◌, length, get_or, refl, sym, arith}
use Rattle.std.specs.Str.{bytes_eq}
use Rattle.cl_expressions.specs.Scopes.{Names, among, in_sight}

among_swap : (a b c : Bool) → (a || (b || c)) ≡ ((b || a) || c)
among_swap a b c = grind arith

or_true : (a : Bool) → (a || true) ≡ true
or_true a = grind arith

-- a name is seen where it is one of the names or was seen before
pub among_sight : (x : List ℕ) (xs others : Names) → among x (in_sight xs others) ≡ (among x xs || among x others)
among_sight x [] others = refl
among_sight x (y ∷ ys) others = rw (among_sight x ys (y ∷ others)) (among_swap (among x ys) (bytes_eq y x) (among x others))

-- a name that stands at some place is among them
pub among_there : (x : List ℕ) (xs : Names) (i : ℕ) (y : List ℕ) → i < length xs → y ≡ get_or xs i y → bytes_eq y x ≡ true → among x xs ≡ true
among_there x [] i y l e h = absurd (omega (arith, l))
among_there x (z ∷ zs) zero y l e h = rw (sym e, h) refl
among_there x (z ∷ zs) (suc i) y l e h = rw (among_there x zs i y (omega (arith, l)) e h) (or_true (bytes_eq z x))

-- one more name is the newest
pub sight_more : (xs : Names) (x : List ℕ) (others : Names) → in_sight (xs ++ x ∷ []) others ≡ x ∷ in_sight xs others
sight_more [] x others = refl
sight_more (y ∷ ys) x others = sight_more ys x (y ∷ others)
