-- How private functions go: boxes of boxes over a list of rectangles, and the places from one on and before one.
use Rattle.std.specs.Prelude.{◌≡◌, ℕ, ◌+◌, ◌<◌, ◌≤◌, ◌/◌, ◌^◌, Bool, nat_le, nat_lt, if◌then◌else◌, List, [], ◌∷◌, ◌++◌, length, filter, reverse, Option, Some, None}
use Rattle.cl_region.specs.declared.rects.Rect.{Rect}
use Rattle.cl_index.specs.declared.trees.Tree.{Tree}
use Rattle.cl_index.specs.declared.trees.Tree.TheVariants.{Few, Many'}
use Rattle.cl_index.specs.declared.trees.TheConstants.{FEW}
use Rattle.cl_index.specs.Found.{overlaps, places_from}
use Rattle.cl_index.specs.Looks.{box_in}

-- the rectangles under the boxes, in their order
abbrev pub rects_in : Tree → List Rect
rects_in (Few around rects) = rects.items
rects_in (Many' around count p first q second) = rects_in first ++ rects_in second

-- the box of the whole tree
abbrev pub box_of : Tree → Rect
box_of (Few around rects) = around
box_of (Many' around count p first q second) = around

-- the box is that of the rectangles, and these are few
pub record IsLeaf (around : Rect) (rects : List Rect) : Type 0 where
  pub box_is : around ≡ box_in rects
  pub few : length rects ≤ FEW

-- the box is that of both halves, which together are more than few, and the first half has `count` rectangles
pub record IsFork (around : Rect) (count : ℕ) (first second : List Rect) : Type 0 where
  pub box_is : around ≡ box_in (first ++ second)
  pub count_is : count ≡ length first
  pub half : count ≡ length (first ++ second) / 2
  pub many : FEW < length (first ++ second)

-- each box is that of all under it, at any depth
abbrev pub IsSound : Tree → Type 0
IsSound (Few around rects) = IsLeaf around rects.items
IsSound (Many' around count p first q second) = IsFork around count (rects_in first) (rects_in second) × IsSound first × IsSound second

-- boxes over a list of so many rectangles, each of whose places can be told
pub record IsIndexed (count : ℕ) (t : Tree) : Type 0 where
  pub sound : IsSound t
  pub count_is : count ≡ length (rects_in t)
  pub fits : length (rects_in t) < 2 ^ 64

-- how many rectangles are looked at for all that share a place with this one: those under a box that is not cut further, where each box over them does too
abbrev pub looked_at : Rect → Tree → ℕ
looked_at p (Few around rects) = if overlaps p around then length rects.items else 0
looked_at p (Many' around count q first s second) = if overlaps p around then looked_at p first + looked_at p second else 0

-- the first of a list, if there is one
abbrev pub head_of : List ℕ → Option ℕ
head_of [] = None
head_of (n ∷ ns) = Some n

-- the places from k on, ascending, where the first of the list has the place n
abbrev pub after : ℕ → (Rect → Bool) → ℕ → List Rect → List ℕ
after k passes n rs = filter (nat_le k) (places_from passes n rs)

-- the places before k, descending, where the first of the list has the place n
abbrev pub before : ℕ → (Rect → Bool) → ℕ → List Rect → List ℕ
before k passes n rs = reverse (filter (λ i. nat_lt i k) (places_from passes n rs))
