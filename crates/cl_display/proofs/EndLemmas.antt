-- The lowest of several ends.
use Rattle.std.proofs.Common.{◌≡◌, ap, ℤ, List, [], ◌∷◌, ◌++◌, Option, Some, None, arith, refl, sym, ◌∙◌}
use Rattle.std.proofs.lemmas.Int.{ints, clamps}
use Rattle.std.specs.Int.{int_max}
use Rattle.cl_medium.specs.Items.{item_bounds, Item}
use Rattle.cl_display.specs.Drawings.{lower_end}
use Rattle.cl_display.specs.Sums.{lowest_of}

pub lower_end-none : (a : Option ℤ) → lower_end a None ≡ a
lower_end-none None = refl
lower_end-none (Some x) = refl

pub lower_end-assoc : (a b c : Option ℤ) → lower_end (lower_end a b) c ≡ lower_end a (lower_end b c)
lower_end-assoc None b c = refl
lower_end-assoc (Some x) None c = refl
lower_end-assoc (Some x) (Some y) None = refl
lower_end-assoc (Some x) (Some y) (Some z) = ap (λ (n : ℤ). Some n) (max-assoc x y z)
  where
    max-assoc : (x y z : ℤ) → int_max (int_max x y) z ≡ int_max x (int_max y z)
    max-assoc x y z = omega (arith, ints, clamps)

pub lowest_of-behind : (xs ys : List Item) → lowest_of (xs ++ ys) ≡ lower_end (lowest_of xs) (lowest_of ys)
lowest_of-behind [] ys = refl
lowest_of-behind (x ∷ xs) ys =
    ap (λ (e : Option ℤ). lower_end (Some (item_bounds x).y2) e) (lowest_of-behind xs ys)
    ∙ sym (lower_end-assoc (Some (item_bounds x).y2) (lowest_of xs) (lowest_of ys))
