-- Areas of a screen of which some places are touched: what is painted of them, and what is sent, the runs of adjacent touched cells of one ink.
use Rattle.std.specs.Prelude.{◌≡◌, ℕ, zero, suc, ◌+◌, ◌-◌, ◌<◌, ◌==◌, ℤ, pos, Bool, true, false, ◌&&◌, if◌then◌else◌, List, [], ◌∷◌, ◌++◌, Option, map}
use Rattle.cl_medium.specs.Items.{Painted, Item}
use Rattle.cl_outside.specs.Operations.{Op}
use Rattle.cl_raster.specs.Raster.{Picture, SameSize}
use Rattle.cl_record.specs.Marks.{Mark}
use Rattle.cl_record.specs.Replays.{cell_after}
use Rattle.cl_region.specs.Places.{holds}
use Rattle.cl_redisplay.specs.Operations.{Run, one_cell, row_cells, run_op}
use Rattle.cl_redisplay.specs.Paint.{cell_at, covers, own_rect, pane_cell}
use Rattle.cl_redisplay.specs.declared.areas.Area.{Area}

-- ---- places

-- places of an area, counted from its left column and its top row on, as places of the screen
abbrev pub on_screen : (ℤ → ℤ → Bool) → Area → (x y : ℕ) → Bool
on_screen touched area x y = touched (pos (x - area.x)) (pos (y - area.y))

-- each place is one
abbrev pub everywhere : ℤ → ℤ → Bool
everywhere x y = true

-- no place outside of the area is one
pub record LieIn (touched : ℤ → ℤ → Bool) (area : Area) : Type 0 where
  pub within : (x y : ℤ) → touched x y ≡ true → holds (own_rect area) x y ≡ true

-- ---- what is sent

-- the runs of a cell in column x and of those behind it, whose runs are known: where the first of them begins in the next column and has the
-- cell's ink, the cell makes it longer
abbrev pub before_run : ℕ → Painted → List Run → List Run
before_run x cell [] = one_cell x cell ∷ []
before_run x cell (r ∷ rs) =
    if (r.x == x + 1) && (r.ink == cell.ink) then record { x = x; ink = cell.ink; glyphs = cell.glyph ∷ r.glyphs } ∷ rs else one_cell x cell ∷ r ∷ rs

-- the runs of those that are touched of so many cells of a row, from column x on
abbrev pub touched_runs : (cell : ℕ → Painted) → (touched : ℕ → Bool) → (x count : ℕ) → List Run
touched_runs cell touched x zero = []
touched_runs cell touched x (suc more) =
    if touched x then before_run x (cell x) (touched_runs cell touched (x + 1) more) else touched_runs cell touched (x + 1) more

-- whether a column of row y is touched
abbrev pub touched_columns : (touched : (x y : ℕ) → Bool) → (y x : ℕ) → Bool
touched_columns touched y x = touched x y

-- the operations that show what is touched of so many cells of row y, from column x on
abbrev pub touched_row_ops : (cell : (x y : ℕ) → Painted) → (touched : (x y : ℕ) → Bool) → (y x count : ℕ) → List Op
touched_row_ops cell touched y x count = map (run_op y) (touched_runs (row_cells cell y) (touched_columns touched y) x count)

-- of so many rows, from row y on
abbrev pub touched_rows_ops : (cell : (x y : ℕ) → Painted) → (touched : (x y : ℕ) → Bool) → (x width y count : ℕ) → List Op
touched_rows_ops cell touched x width y zero = []
touched_rows_ops cell touched x width y (suc more) = touched_row_ops cell touched y x width ++ touched_rows_ops cell touched x width (y + 1) more

-- of an area of the screen
abbrev pub touched_ops : (cell : (x y : ℕ) → Painted) → (touched : (x y : ℕ) → Bool) → Area → List Op
touched_ops cell touched area = touched_rows_ops cell touched area.x area.width area.y area.height

-- of a pane with these marks in its area, of which these places are touched
abbrev pub touched_pane_ops : Area → List (Mark Item) → (touched : ℤ → ℤ → Bool) → List Op
touched_pane_ops area marks touched = touched_ops (pane_cell area marks) (on_screen touched area) area

-- ---- what is painted

-- those places of the area that are not touched have the cells that these marks paint
pub record ShowsOthers (p : Picture) (area : Area) (marks : List (Mark Item)) (touched : ℤ → ℤ → Bool) : Type 0 where
  pub cells : (x y : ℕ) → x < p.width → y < p.height → covers area x y ≡ true → on_screen touched area x y ≡ false
      → cell_at p x y ≡ pane_cell area marks x y

-- the touched places of the area have the cells that these marks paint, and every other place of the screen is what it was
pub record PaintsTouched (old new : Picture) (area : Area) (marks : List (Mark Item)) (touched : ℤ → ℤ → Bool) : Type 0 where
  pub size : SameSize old new
  pub cells : (x y : ℕ) → x < old.width → y < old.height
      → cell_at new x y ≡ (if covers area x y && on_screen touched area x y then pane_cell area marks x y else cell_at old x y)

module _ {A : Type 0} where
  -- the items are painted at the touched places of the area, in order, and every other place of the screen is what it was
  pub record PaintsThose (cell : A → ℤ → ℤ → Option Painted) (old new : Picture) (area : Area) (touched : ℤ → ℤ → Bool) (items : List A) : Type 0 where
    pub size : SameSize old new
    pub cells : (x y : ℕ) → x < old.width → y < old.height
        → cell_at new x y ≡ (if covers area x y && on_screen touched area x y
        then cell_after cell items (pos (x - area.x)) (pos (y - area.y)) (cell_at old x y) else cell_at old x y)
