-- What items paint in an area, and what one of them paints in a part of it.
use Rattle.std.specs.Prelude.{◌≡◌, ℕ, ◌+◌, ◌-◌, ◌<◌, ◌≤◌, ℤ, pos, negsuc, ◌&&◌, if◌then◌else◌, List, Option, Some, None, option_map, slice_get, unwrap_or}
use Rattle.cl_medium.specs.Items.{Painted, painted_of}
use Rattle.cl_outside.specs.declared.cells.Cell.{Cell}
use Rattle.cl_raster.specs.Raster.{Picture, SameSize}
use Rattle.cl_record.specs.Replays.{cell_after}
use Rattle.cl_region.specs.Places.{holds}
use Rattle.cl_region.specs.declared.rects.Rect.{Rect}
use Rattle.cl_redisplay.specs.Paint.{blank_cell, cell_at, covers, own_rect}
use Rattle.cl_redisplay.specs.declared.areas.Area.{Area}

-- a part of an area, as an area of the same screen
pub record IsIn (part area : Area) : Type 0 where
  pub left : area.x ≤ part.x
  pub right : part.x + part.width ≤ area.x + area.width
  pub top : area.y ≤ part.y
  pub bottom : part.y + part.height ≤ area.y + area.height

-- the part has those places of the area that the rectangle holds, whose coordinates are counted in the area
pub record IsPart (part area : Area) (rect : Rect) : Type 0 where
  pub inside : IsIn part area
  pub places : (x y : ℕ) → covers part x y ≡ covers area x y && holds rect (pos (x - area.x)) (pos (y - area.y))

-- the cell in a column and a row of an area; a blank one beside it
abbrev pub window_place : Picture → Area → ℤ → ℤ → Painted
window_place p area (pos x) (pos y) = cell_at p (area.x + x) (area.y + y)
window_place p area x y = blank_cell

-- the cell of a window in a column and a row; a blank one where it shows none
abbrev pub window_cell : Picture → Area → ℤ → ℤ → Painted
window_cell p area x y = if holds (own_rect area) x y then window_place p area x y else blank_cell

-- what stands in a column among cells in a row, if anything does
abbrev pub painted_in : Option (Option Cell) → Option Painted
painted_in None = None
painted_in (Some found) = option_map painted_of found

-- what cells in a row paint, in the row from the first of them on
abbrev pub row_cell : List (Option Cell) → ℤ → ℤ → Option Painted
row_cell cells (pos n) y = painted_in (slice_get cells n)
row_cell cells (negsuc n) y = None

module _ {A : Type 0} where
  -- the item's cell at a place of the screen, where it paints it, else the one that was there
  abbrev pub over : (A → ℤ → ℤ → Option Painted) → Area → A → (x y : ℕ) → Painted → Painted
  over cell area item x y under = unwrap_or (cell item (pos (x - area.x)) (pos (y - area.y))) under

  -- the item is painted at the places of the part, and every other place is what it was
  pub record PaintsPart (cell : A → ℤ → ℤ → Option Painted) (old new : Picture) (area part : Area) (item : A) : Type 0 where
    pub size : SameSize old new
    pub cells : (x y : ℕ) → x < old.width → y < old.height
        → cell_at new x y ≡ (if covers part x y then over cell area item x y (cell_at old x y) else cell_at old x y)

  -- the items are painted in the area, in order, and every other place of the screen is what it was
  pub record PaintsAll (cell : A → ℤ → ℤ → Option Painted) (old new : Picture) (area : Area) (items : List A) : Type 0 where
    pub size : SameSize old new
    pub cells : (x y : ℕ) → x < old.width → y < old.height
        → cell_at new x y ≡ (if covers area x y then cell_after cell items (pos (x - area.x)) (pos (y - area.y)) (cell_at old x y) else cell_at old x y)
