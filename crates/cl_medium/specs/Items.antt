-- Items: an area, and what is painted in it.
use Rattle.std.specs.Prelude.{◌≡◌, ℕ, ◌≤◌, ℤ, pos, negsuc, ◌+ℤ◌, ◌-ℤ◌, ◌≤ℤ◌, ◌<ℤ◌, int_le, Bool, true, false, ◌&&◌, ◌||◌, nat_le, if◌then◌else◌, List, length, Option, Some, None, option_map, slice_get}
use Rattle.cl_outside.specs.declared.cells.Cell.{Cell}
use Rattle.cl_outside.specs.Sizes.{MAX_INK}
use Rattle.cl_region.specs.Places.{IsInRange, holds}
use Rattle.cl_region.specs.declared.rects.Rect.{Rect}
use Rattle.cl_region.specs.declared.rects.Shift.{Shift}
use Rattle.cl_medium.specs.declared.areas.Area.{Area}
use Rattle.cl_medium.specs.declared.shapes.Direction.{Direction}
use Rattle.cl_medium.specs.declared.shapes.Direction.TheVariants.{Horizontal, Vertical}
use Rattle.cl_medium.specs.declared.shapes.LeafShape.{LeafShape}
use Rattle.cl_medium.specs.declared.shapes.LeafShape.TheVariants.{Fill, Line, Outline, Point, Text}

-- the rectangle of an area
abbrev pub bounds_of : Area → Rect
bounds_of a = record { x1 = a.x; y1 = a.y; x2 = a.x +ℤ a.width; y2 = a.y +ℤ a.height }

-- the same area elsewhere
abbrev pub move_area : Shift → Area → Area
move_area v a = record { x = a.x +ℤ v.dx; y = a.y +ℤ v.dy; width = a.width; height = a.height; ink = a.ink }

-- no size is negative, the ink is one of eight, and no corner lies too far out
pub record IsArea (a : Area) : Type 0 where
  pub range : IsInRange (bounds_of a)
  pub width : pos 0 ≤ℤ a.width
  pub height : pos 0 ≤ℤ a.height
  pub ink : a.ink ≤ MAX_INK

-- how far from the corner a place of the area lies
abbrev pub IsDistance : Area → ℤ → ℤ → Option (ℤ × ℤ) → Type 0
IsDistance a x y None = holds (bounds_of a) x y ≡ false
IsDistance a x y (Some d) =
    (holds (bounds_of a) x y ≡ true) × (d.0 ≡ x -ℤ a.x) × (d.1 ≡ y -ℤ a.y) × (d.0 <ℤ a.width) × (d.1 <ℤ a.height)

-- both sizes are positive
pub record HasSize (a : Area) : Type 0 where
  pub width : pos 0 <ℤ a.width
  pub height : pos 0 <ℤ a.height

-- how many columns the bytes of a text take: one each
abbrev pub columns_of : List ℕ → ℕ
columns_of text = length text

-- the sizes that a shape asks for: a text its columns in one row, a point one cell, and a line one row or one column
abbrev pub Fits : LeafShape → Area → Type 0
Fits (Text text) a = (a.width ≡ pos (columns_of text)) × (a.height ≡ pos 1)
Fits (Point byte) a = (a.width ≡ pos 1) × (a.height ≡ pos 1)
Fits (Line Horizontal) a = a.height ≡ pos 1
Fits (Line Vertical) a = a.width ≡ pos 1
Fits Outline a = Unit {0}
Fits (Fill byte) a = Unit {0}

-- a shape in an area
pub record Item : Type 0 where
  pub area : Area
  pub shape : LeafShape

-- an area with cells, as large as the shape asks for
pub record IsItem (i : Item) : Type 0 where
  pub area : IsArea i.area
  pub size : HasSize i.area
  pub shape : Fits i.shape i.area

-- a cell as two numbers
pub record Painted : Type 0 where
  pub glyph : ℕ
  pub ink : ℕ

-- the numbers of a cell
abbrev pub painted_of : Cell → Painted
painted_of c = record { glyph = c.glyph; ink = c.ink }

-- the glyph of a byte; what is outside 32 to 126 is drawn as `#`
abbrev pub glyph_of : ℕ → ℕ
glyph_of byte = if nat_le 32 byte && nat_le byte 126 then byte else 35

-- the glyph of the byte at a distance
abbrev pub byte_at : List ℕ → ℤ → Option ℕ
byte_at bs (pos n) = option_map glyph_of (slice_get bs n)
byte_at bs (negsuc n) = None

-- the glyph of a line
abbrev pub line_byte : Direction → ℕ
line_byte Horizontal = 45
line_byte Vertical = 124

-- the first or the last place of a side
abbrev pub is_end : ℤ → ℤ → Bool
is_end distance size = int_le distance (pos 0) || int_le size (distance +ℤ pos 1)

-- a corner `+`, a side `|` or `-`, and nothing inside, by whether the place is at an end across and down
abbrev pub outline : Bool → Bool → Option ℕ
outline true true = Some 43
outline true false = Some 124
outline false true = Some 45
outline false false = None

-- the glyph in an area of these sizes, so many columns to the right of the corner and rows below it
abbrev pub shape_glyph : LeafShape → (width height across down : ℤ) → Option ℕ
shape_glyph (Text text) width height across down = byte_at text across
shape_glyph (Point byte) width height across down = Some (glyph_of byte)
shape_glyph (Line direction) width height across down = Some (line_byte direction)
shape_glyph Outline width height across down = outline (is_end across width) (is_end down height)
shape_glyph (Fill byte) width height across down = Some (glyph_of byte)

-- a glyph in an ink, where there is one
abbrev pub with_ink : ℕ → Option ℕ → Option Painted
with_ink ink None = None
with_ink ink (Some glyph) = Some (record { glyph = glyph; ink = ink })

-- what an item paints in column x of row y
abbrev pub item_cell : Item → ℤ → ℤ → Option Painted
item_cell i x y =
    if holds (bounds_of i.area) x y
    then with_ink i.area.ink (shape_glyph i.shape i.area.width i.area.height (x -ℤ i.area.x) (y -ℤ i.area.y))
    else None

-- the rectangle of an item
abbrev pub item_bounds : Item → Rect
item_bounds i = bounds_of i.area

-- the same item elsewhere
abbrev pub move_item : Shift → Item → Item
move_item v i = record { area = move_area v i.area; shape = i.shape }

-- each place of a stretch of row y, from column x on, has what is painted there
pub record AreCells (cell : ℤ → ℤ → Option Painted) (x y : ℤ) (old new : List (Option Cell)) : Type 0 where
  pub count : length new ≡ length old
  pub cells : (n : ℕ) (found : Option Cell) → slice_get new n ≡ Some found → option_map painted_of found ≡ cell (x +ℤ pos n) y
