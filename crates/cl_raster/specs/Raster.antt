-- Cells in rows: the glyphs of all rows one after another, and their inks.
use Rattle.std.specs.Prelude.{◌≡◌, ℕ, ◌+◌, ◌*◌, ◌<◌, ◌≤◌, ◌⊎◌, ◌==◌, ◌&&◌, if◌then◌else◌, ℤ, pos, negsuc, min, List, All, length, slice_index, slice_range, replicate}
use Rattle.cl_outside.specs.Device.{IsGlyph}
use Rattle.cl_outside.specs.Sizes.{MAX_COLUMNS, MAX_INK, MAX_ROWS}
use Rattle.cl_region.specs.Places.{holds}
use Rattle.cl_region.specs.declared.rects.Rect.{Rect}

-- the sizes of a screen, and its glyphs and inks row by row
pub record Picture : Type 0 where
  pub width : ℕ
  pub height : ℕ
  pub glyphs : List ℕ
  pub inks : List ℕ

-- a number from 0 to 7
abbrev pub IsInk : ℕ → Type 0
IsInk n = n ≤ MAX_INK

-- 1 to 512 columns and 1 to 256 rows, and as many cells as these have, each a glyph and an ink
pub record AreCells (width height : ℕ) (glyphs inks : List ℕ) : Type 0 where
  pub columns : (1 ≤ width) × (width ≤ MAX_COLUMNS)
  pub rows : (1 ≤ height) × (height ≤ MAX_ROWS)
  pub glyph_places : length glyphs ≡ width * height
  pub ink_places : length inks ≡ width * height
  pub are_glyphs : All IsGlyph glyphs
  pub are_inks : All IsInk inks

-- a picture of spaces with ink 0
abbrev pub blank_picture : ℕ → ℕ → Picture
blank_picture width height =
    record { width = width; height = height; glyphs = replicate (width * height) 32; inks = replicate (width * height) 0 }

-- what stands in column x of row y
abbrev pub at_place : List ℕ → ℕ → ℕ → ℕ → ℕ
at_place cells width x y = slice_index cells (y * width + x)

-- the glyph in column x of row y
abbrev pub glyph_at : Picture → ℕ → ℕ → ℕ
glyph_at p x y = at_place p.glyphs p.width x y

-- the ink in column x of row y
abbrev pub ink_at : Picture → ℕ → ℕ → ℕ
ink_at p x y = at_place p.inks p.width x y

-- two pictures have the same sizes
pub record SameSize (old new : Picture) : Type 0 where
  pub width : new.width ≡ old.width
  pub height : new.height ≡ old.height

-- one place has this glyph and ink, and every other place what it had
pub record Sets (old new : Picture) (x y glyph ink : ℕ) : Type 0 where
  pub size : SameSize old new
  pub glyphs : (i j : ℕ) → i < old.width → glyph_at new i j ≡ (if (i == x) && (j == y) then glyph else glyph_at old i j)
  pub inks : (i j : ℕ) → i < old.width → ink_at new i j ≡ (if (i == x) && (j == y) then ink else ink_at old i j)

-- the places that the rectangle holds are spaces with ink 0, and every other place has what it had
pub record Blanks (old new : Picture) (rect : Rect) : Type 0 where
  pub size : SameSize old new
  pub glyphs : (i j : ℕ) → i < old.width → j < old.height → glyph_at new i j ≡ (if holds rect (pos i) (pos j) then 32 else glyph_at old i j)
  pub inks : (i j : ℕ) → i < old.width → j < old.height → ink_at new i j ≡ (if holds rect (pos i) (pos j) then 0 else ink_at old i j)

-- a number, or the end of 0 to a size that is nearest to it
abbrev pub clip_to : ℤ → ℕ → ℕ
clip_to (pos n) size = min n size
clip_to (negsuc n) size = 0

-- columns x1 to x2 of rows y1 to y2, the ends left out, have this value, and every other place what it had
pub record FillsBox (old new : List ℕ) (width x1 x2 y1 y2 value : ℕ) : Type 0 where
  pub same_length : length new ≡ length old
  pub inside : (i j : ℕ) → x1 ≤ i → i < x2 → y1 ≤ j → j < y2 → at_place new width i j ≡ value
  pub outside : (i j : ℕ) → i < width → (x1 ≤ i → i < x2 → y1 ≤ j → j < y2 → ⊥) → at_place new width i j ≡ at_place old width i j

-- so many places from one on have this value, and every other place what it had
pub record Fills (old new : List ℕ) (at count value : ℕ) : Type 0 where
  pub same_length : length new ≡ length old
  pub inside : (k : ℕ) → k < count → slice_index new (at + k) ≡ value
  pub outside : (k : ℕ) → (k < at) ⊎ (at + count ≤ k) → slice_index new k ≡ slice_index old k

-- the cells of a row, from the first column on
abbrev pub row_of : List ℕ → ℕ → ℕ → List ℕ
row_of cells width y = slice_range cells (y * width) (y * width + width)
