-- How a rectangle is cut by another one, and which two make one. So the private functions of a region go; no public call promises it.
use Rattle.std.specs.Prelude.{◌≡◌, ◌⊎◌, if◌then◌else◌, List, [], ◌∷◌, ◌++◌}
use Rattle.cl_region.specs.declared.rects.Rect.{Rect}
use Rattle.cl_region.specs.Places.{intersection, is_thin}

-- the rectangle, unless it is empty
abbrev pub unless_thin : Rect → List Rect
unless_thin r = if is_thin r then [] else r ∷ []

-- what is above, to the left, to the right and below of a part of a rectangle
abbrev pub parts_around : Rect → Rect → List Rect
parts_around r part =
    unless_thin (record r { y2 = part.y1 })
    ++ unless_thin (record r { y1 = part.y1; y2 = part.y2; x2 = part.x1 })
    ++ unless_thin (record r { y1 = part.y1; y2 = part.y2; x1 = part.x2 })
    ++ unless_thin (record r { y1 = part.y2 })

-- what a rectangle has outside of another one
abbrev pub cut_rect : Rect → Rect → List Rect
cut_rect hole r = if is_thin (intersection r hole) then unless_thin r else parts_around r (intersection r hole)

-- what rectangles have outside of another one
abbrev pub cut_all : Rect → List Rect → List Rect
cut_all hole [] = []
cut_all hole (r ∷ rs) = cut_rect hole r ++ cut_all hole rs

-- the next one stands to the right of the first, side by side and in the same rows
pub record IsBeside (first next : Rect) : Type 0 where
  pub top : next.y1 ≡ first.y1
  pub bottom : next.y2 ≡ first.y2
  pub side : next.x1 ≡ first.x2

-- the next one stands right below the first, in the same columns
pub record IsBelow (first next : Rect) : Type 0 where
  pub left : next.x1 ≡ first.x1
  pub right : next.x2 ≡ first.x2
  pub side : next.y1 ≡ first.y2

-- the two make one rectangle
abbrev pub Continues : (first next : Rect) → Type 0
Continues first next = IsBeside first next ⊎ IsBelow first next
