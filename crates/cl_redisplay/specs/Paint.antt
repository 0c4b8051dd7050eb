-- Painting in an area of a screen: each of its places has the cell of the last item that paints it, else a space with ink 0.
use Rattle.std.specs.Prelude.{◌≡◌, ℕ, ◌+◌, ◌-◌, ◌<◌, ◌≤◌, pos, Bool, true, false, ◌&&◌, nat_le, nat_lt, List}
use Rattle.cl_outside.specs.Sizes.{MAX_COLUMNS, MAX_ROWS}
use Rattle.cl_medium.specs.Items.{Painted, item_cell, Item}
use Rattle.cl_raster.specs.Raster.{Picture, SameSize, glyph_at, ink_at}
use Rattle.cl_region.specs.declared.rects.Rect.{Rect}
use Rattle.cl_record.specs.Marks.{Mark}
use Rattle.cl_record.specs.Replays.{items_drawn, cell_after}
use Rattle.cl_redisplay.specs.declared.areas.Area.{Area}

-- a space with ink 0
abbrev pub blank_cell : Painted
blank_cell = record { glyph = 32; ink = 0 }

-- the cell in column x of row y
abbrev pub cell_at : Picture → (x y : ℕ) → Painted
cell_at p x y = record { glyph = glyph_at p x y; ink = ink_at p x y }

-- so many numbers from one on have this one among them
abbrev pub is_among : (from count n : ℕ) → Bool
is_among from count n = nat_le from n && nat_lt n (from + count)

-- the place of the screen lies in the area
abbrev pub covers : Area → (x y : ℕ) → Bool
covers area x y = is_among area.x area.width x && is_among area.y area.height y

-- the area's cells, counted from its left column and its top row on
abbrev pub own_rect : Area → Rect
own_rect area = record { x1 = pos 0; y1 = pos 0; x2 = pos area.width; y2 = pos area.height }

-- the area lies in the picture, which has at most 512 columns and 256 rows
pub record LiesIn (area : Area) (p : Picture) : Type 0 where
  pub columns : area.x + area.width ≤ p.width
  pub rows : area.y + area.height ≤ p.height
  pub most_columns : p.width ≤ MAX_COLUMNS
  pub most_rows : p.height ≤ MAX_ROWS

-- what the marks of a pane paint at a place of the screen, where this area shows the pane and the place was blank
abbrev pub pane_cell : Area → List (Mark Item) → (x y : ℕ) → Painted
pane_cell area marks x y = cell_after item_cell (items_drawn marks) (pos (x - area.x)) (pos (y - area.y)) blank_cell

-- ---- what painting changes

-- the places outside the area are what they were
pub record KeepsOthers (old new : Picture) (area : Area) : Type 0 where
  pub size : SameSize old new
  pub cells : (x y : ℕ) → x < old.width → y < old.height → covers area x y ≡ false → cell_at new x y ≡ cell_at old x y

-- the area shows these marks, and every other place is what it was
pub record Repaints (old new : Picture) (area : Area) (marks : List (Mark Item)) : Type 0 where
  pub others : KeepsOthers old new area
  pub cells : (x y : ℕ) → x < old.width → y < old.height → covers area x y ≡ true → cell_at new x y ≡ pane_cell area marks x y
