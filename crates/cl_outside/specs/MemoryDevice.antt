-- What callers see of a device in memory: its rows lie one behind the other, 512 cells each.
use Rattle.std.specs.Prelude.{◌≡◌, ℕ, ◌+◌, ◌*◌, ◌≤◌, ◌<◌, ◌⊎◌, Bool, true, false, List, Option, None, Some, length, slice_index}
use Rattle.cl_outside.specs.Device.{Picture, IsGlyph}
use Rattle.cl_outside.specs.Memory.{Plan, one_more}
use Rattle.cl_outside.specs.declared.answers.Sent.{Sent}
use Rattle.cl_outside.specs.declared.answers.Sent.TheVariants.{Done, Failed}
use Rattle.cl_outside.specs.Sizes.{CELL_COUNT, MAX_COLUMNS, MAX_INK}

-- the glyphs of all cells, and their inks
pub record Cells : Type 0 where
  pub glyphs : List ℕ
  pub inks : List ℕ

-- the cells with the size that is shown of them, whether the device is broken and was cleared, and its faults
pub record MemoryDevice : Type 0 where
  pub cells : Cells
  pub width : ℕ
  pub height : ℕ
  pub broken : Bool
  pub cleared : Bool
  pub plan : Plan
  pub faults : ℕ

-- the place of a cell
abbrev pub place_of : ℕ → ℕ → ℕ
place_of x y = y * MAX_COLUMNS + x

-- the glyph at column x of row y
abbrev pub glyph_in : Cells → ℕ → ℕ → ℕ
glyph_in cells x y = slice_index cells.glyphs (place_of x y)

-- the ink at column x of row y
abbrev pub ink_in : Cells → ℕ → ℕ → ℕ
ink_in cells x y = slice_index cells.inks (place_of x y)

-- the cells as a picture of this size
abbrev pub picture_in : Cells → ℕ → ℕ → Picture
picture_in cells width height = record {
  width = width;
  height = height;
  glyph_at = glyph_in cells;
  ink_at = ink_in cells;
}

-- the picture that a device shows
abbrev pub picture_of : MemoryDevice → Picture
picture_of device = picture_in device.cells device.width device.height

-- the picture, where the device is not broken
abbrev pub told_picture : Bool → Picture → Option Picture
told_picture true picture = None
told_picture false picture = Some picture

-- each cell may stand in a picture
pub record IsCells (glyphs inks : List ℕ) : Type 0 where
  pub glyph_places : length glyphs ≡ CELL_COUNT
  pub ink_places : length inks ≡ CELL_COUNT
  pub glyph_range : (k : ℕ) → k < CELL_COUNT → IsGlyph (slice_index glyphs k)
  pub ink_range : (k : ℕ) → k < CELL_COUNT → slice_index inks k ≤ MAX_INK

-- the values stand from a place on, and all else is as it was
pub record IsPut (old new : List ℕ) (at : ℕ) (values : List ℕ) : Type 0 where
  pub same_length : length new ≡ length old
  pub inside : (k : ℕ) → k < length values → slice_index new (at + k) ≡ slice_index values k
  pub outside : (k : ℕ) → (k < at) ⊎ (at + length values ≤ k) → slice_index new k ≡ slice_index old k

-- one value stands at so many places from a place on, and all else is as it was
pub record IsFilled (old new : List ℕ) (at count value : ℕ) : Type 0 where
  pub same_length : length new ≡ length old
  pub inside : (k : ℕ) → k < count → slice_index new (at + k) ≡ value
  pub outside : (k : ℕ) → (k < at) ⊎ (at + count ≤ k) → slice_index new k ≡ slice_index old k

-- each glyph is a space and each ink 0
pub record AllBlank (cells : Cells) : Type 0 where
  pub glyphs_are : (k : ℕ) → k < CELL_COUNT → slice_index cells.glyphs k ≡ 32
  pub inks_are : (k : ℕ) → k < CELL_COUNT → slice_index cells.inks k ≡ 0

-- a count of faults rises by one where the operation failed
abbrev pub CountsFailure : ℕ → ℕ → Sent → Type 0
CountsFailure before now Done = now ≡ before
CountsFailure before now Failed = now ≡ one_more before
