-- The steps in which a level is compared.
use Rattle.std.specs.Prelude.{◌≡◌, ℕ, ◌+◌, ◌≤◌, Bool, List, [], ◌∷◌, ◌++◌, length, map, drop}
use Rattle.cl_region.specs.declared.rects.Rect.{Rect}
use Rattle.cl_damage.specs.Children.{Child, Children, child, item, name_of, none, updated}
use Rattle.cl_damage.specs.Touched.{Compared, compared, partner, step}

module _ {A : Type 0} where
  -- how much a child holds: one for an item, two for an update and what is inside it
  abbrev mutual
    pub size_of : Child A → ℕ
    size_of (item a) = 1
    size_of (updated name kept ks) = 2 + size_of_all ks

    -- the sizes of children together
    pub size_of_all : Children A → ℕ
    size_of_all none = 0
    size_of_all (child k ks) = size_of k + size_of_all ks

  -- of children in a list
  abbrev pub sizes_of : List (Child A) → ℕ
  sizes_of [] = 0
  sizes_of (k ∷ ks) = size_of k + sizes_of ks

module _ {A : Type 0} (bounds : A → Rect) (same : A → A → Bool) where
  -- children, to be compared
  abbrev pub compared_each : List (Child A) → List (Compared A)
  compared_each ks = map (compared bounds same) ks

  -- a new child, compared with the old ones from the next one on, gives what was put behind the first bounds, and leaves the old ones after it
  pub record Steps (k : Child A) (os : List (Child A)) (next after : ℕ) (first now : List Rect) : Type 0 where
    pub within : after ≤ length os
    pub rects : (rest : List (Child A) → List Rect)
        → first ++ step bounds (partner (name_of k) (drop next os)) (compared bounds same k) (drop next os) rest ≡ now ++ rest (drop after os)
