-- A screen of several panes: each place has the cell of the first pane whose area covers it, else a space with ink 0.
use Rattle.std.specs.Prelude.{◌≡◌, ℕ, zero, suc, ◌+◌, ◌<◌, true, false, if◌then◌else◌, List, [], ◌∷◌, All, map, ⊤}
use Rattle.cl_medium.specs.Items.{Painted, Item}
use Rattle.cl_raster.specs.Raster.{Picture}
use Rattle.cl_record.specs.Marks.{Mark}
use Rattle.cl_redisplay.specs.Paint.{blank_cell, cell_at, covers, pane_cell}
use Rattle.cl_redisplay.specs.declared.areas.Area.{Area}

-- an area of the screen, and the marks that it shows
pub record Shown : Type 0 where
  pub area : Area
  pub marks : List (Mark Item)

-- the cell at a place of a screen whose areas show these
abbrev pub shown_at : List Shown → (x y : ℕ) → Painted
shown_at [] x y = blank_cell
shown_at (p ∷ ps) x y = if covers p.area x y then pane_cell p.area p.marks x y else shown_at ps x y

-- the areas of the picture show these, and all is blank elsewhere
pub record Shows (p : Picture) (panes : List Shown) : Type 0 where
  pub cells : (x y : ℕ) → x < p.width → y < p.height → cell_at p x y ≡ shown_at panes x y

-- ---- areas that lie apart

-- no place lies in both areas
abbrev pub Apart : Area → Area → Type 0
Apart a b = (x y : ℕ) → covers a x y ≡ true → covers b x y ≡ false

-- each of the areas lies apart from all behind it
abbrev pub AreApart : List Area → Type 0
AreApart [] = ⊤
AreApart (a ∷ areas) = All (Apart a) areas × AreApart areas

-- the area of one that is shown
abbrev pub area_in : Shown → Area
area_in p = p.area

-- the areas of all that are shown, in order
abbrev pub areas_of : List Shown → List Area
areas_of panes = map area_in panes

-- ---- the rows of a screen

-- the glyph of a cell
abbrev pub glyph_in : Painted → ℕ
glyph_in cell = cell.glyph

-- the ink as a digit
abbrev pub ink_digit : ℕ → ℕ
ink_digit ink = 48 + ink

-- the digit of a cell's ink
abbrev pub digit_in : Painted → ℕ
digit_in cell = ink_digit cell.ink

module _ (tell : Painted → ℕ) (panes : List Shown) where
  -- what is told of so many cells of a row, from a column on
  abbrev pub row_from : (y x count : ℕ) → List ℕ
  row_from y x zero = []
  row_from y x (suc more) = tell (shown_at panes x y) ∷ row_from y (x + 1) more

  -- what is told of a row, from its first column on
  abbrev pub told_row : (width y : ℕ) → List ℕ
  told_row width y = row_from y 0 width

  -- so many rows, from a row on
  abbrev pub rows_from : (width y count : ℕ) → List (List ℕ)
  rows_from width y zero = []
  rows_from width y (suc more) = told_row width y ∷ rows_from width (y + 1) more

-- the glyphs of a row
abbrev pub shown_row : List Shown → (width y : ℕ) → List ℕ
shown_row panes width y = told_row glyph_in panes width y

-- the digits of a row's inks
abbrev pub shown_ink_row : List Shown → (width y : ℕ) → List ℕ
shown_ink_row panes width y = told_row digit_in panes width y

-- the rows of a screen of this width and height
abbrev pub shown_rows : List Shown → (width height : ℕ) → List (List ℕ)
shown_rows panes width height = rows_from glyph_in panes width 0 height

-- the rows of the digits of inks
abbrev pub shown_ink_rows : List Shown → (width height : ℕ) → List (List ℕ)
shown_ink_rows panes width height = rows_from digit_in panes width 0 height
