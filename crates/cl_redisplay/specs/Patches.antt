-- The places of an area that spans of its rows hold, and rectangles that have none of them.
use Rattle.std.specs.Prelude.{◌≡◌, ℕ, ◌+◌, ◌<◌, ℤ, pos, Bool, true, false, ◌&&◌, List, Option, Some, None, ⊤}
use Rattle.cl_medium.specs.Items.{Painted}
use Rattle.cl_region.specs.Places.{holds, is_between}
use Rattle.cl_region.specs.declared.rects.Rect.{Rect}
use Rattle.cl_spans.specs.Runs.{row_holds}
use Rattle.cl_spans.specs.declared.runs.Span.{Span}
use Rattle.cl_redisplay.specs.Paint.{blank_cell}

-- the columns of a span in one row
abbrev pub strip : Span → ℕ → Rect
strip s row = record { x1 = s.x1; y1 = pos row; x2 = s.x2; y2 = pos (row + 1) }

-- the places that spans of one row hold
abbrev pub row_places : List Span → ℕ → ℤ → ℤ → Bool
row_places spans row x y = row_holds spans x && is_between (pos row) y (pos (row + 1))

-- those of the places that lie in the rows from one on and before another one
abbrev pub places_between : (ℤ → ℤ → Bool) → (first last : ℕ) → ℤ → ℤ → Bool
places_between touched first last x y = touched x y && is_between (pos first) y (pos last)

-- an item that is a blank cell everywhere
abbrev pub blank_everywhere : Unit {0} → ℤ → ℤ → Option Painted
blank_everywhere item x y = Some blank_cell

-- no place that the rectangle holds in so many rows is one
abbrev pub AreApartFrom : (touched : ℤ → ℤ → Bool) → (height : ℕ) → Rect → Type 0
AreApartFrom touched height rect = (x : ℤ) (row : ℕ) → row < height → holds rect x (pos row) ≡ true → touched x (pos row) ≡ false

-- no place of a box, if there is one, is one in so many rows
abbrev pub BoxIsApart : (touched : ℤ → ℤ → Bool) → (height : ℕ) → Option Rect → Type 0
BoxIsApart touched height None = ⊤
BoxIsApart touched height (Some rect) = AreApartFrom touched height rect
