-- Places, rectangles and regions. A place is a pair of whole numbers: a column x and a row y.
use Rattle.std.specs.Prelude.{◌≡◌, ℤ, neg_ℤ, ◌+ℤ◌, ◌≤ℤ◌, int_le, int_lt, Bool, true, false, ◌&&◌, ◌||◌, List, [], ◌∷◌}
use Rattle.std.specs.Int.{int_min, int_max}
use Rattle.cl_region.specs.declared.rects.TheConstants.{MAX_COORDINATE}
use Rattle.cl_region.specs.declared.rects.Rect.{Rect}
use Rattle.cl_region.specs.declared.rects.Shift.{Shift}

-- a number is at least the first and below the last
abbrev pub is_between : (first z last : ℤ) → Bool
is_between first z last = int_le first z && int_lt z last

-- the rectangle holds the place
abbrev pub holds : Rect → ℤ → ℤ → Bool
holds r x y = is_between r.x1 x r.x2 && is_between r.y1 y r.y2

-- a rectangle of the list holds the place
abbrev pub one_holds : List Rect → ℤ → ℤ → Bool
one_holds [] x y = false
one_holds (r ∷ rs) x y = holds r x y || one_holds rs x y

-- a side is not positive
abbrev pub is_thin : Rect → Bool
is_thin r = int_le r.x2 r.x1 || int_le r.y2 r.y1

-- the rectangle holds no place
pub record IsEmpty (r : Rect) : Type 0 where
  pub holds_none : (x y : ℤ) → holds r x y ≡ false

-- a holds each place that b holds
pub record Covers (a b : Rect) : Type 0 where
  pub holds_each : (x y : ℤ) → holds b x y ≡ true → holds a x y ≡ true

-- the rectangle of the places that both hold
abbrev pub intersection : Rect → Rect → Rect
intersection a b = record { x1 = int_max a.x1 b.x1; y1 = int_max a.y1 b.y1; x2 = int_min a.x2 b.x2; y2 = int_min a.y2 b.y2 }

-- the least box of the corners of both
abbrev pub box : Rect → Rect → Rect
box a b = record { x1 = int_min a.x1 b.x1; y1 = int_min a.y1 b.y1; x2 = int_max a.x2 b.x2; y2 = int_max a.y2 b.y2 }

-- moved to the right and down
abbrev pub move_rect : Shift → Rect → Rect
move_rect v r = record { x1 = r.x1 +ℤ v.dx; y1 = r.y1 +ℤ v.dy; x2 = r.x2 +ℤ v.dx; y2 = r.y2 +ℤ v.dy }

-- a number that is no further from 0 than the greatest coordinate
pub record IsNear (z : ℤ) : Type 0 where
  pub low : neg_ℤ MAX_COORDINATE ≤ℤ z
  pub high : z ≤ℤ MAX_COORDINATE

-- all four numbers are near
pub record IsInRange (r : Rect) : Type 0 where
  pub x1 : IsNear r.x1
  pub y1 : IsNear r.y1
  pub x2 : IsNear r.x2
  pub y2 : IsNear r.y2

-- the rectangle, moved so far, is in the range
abbrev pub FitsMoved : Rect → Shift → Type 0
FitsMoved r v = IsInRange (move_rect v r)
