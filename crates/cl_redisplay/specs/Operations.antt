-- What is sent to a device that shows a screen: its rows from the top, each as spans of cells of one ink that are as long as can be.
use Rattle.std.specs.Prelude.{ℕ, zero, suc, ◌+◌, ◌-◌, ◌==◌, if◌then◌else◌, List, [], ◌∷◌, ◌++◌, map, length, slice_index}
use Rattle.cl_medium.specs.Items.{Painted, Item}
use Rattle.cl_outside.specs.Device.{in_span}
use Rattle.cl_outside.specs.Operations.{Op, clears, shows}
use Rattle.cl_record.specs.Marks.{Mark}
use Rattle.cl_redisplay.specs.Paint.{blank_cell, pane_cell}
use Rattle.cl_redisplay.specs.declared.areas.Area.{Area}

-- ---- the operations that send the cells of a screen

-- cells of one ink that stand side by side, from column x of a row on
pub record Run : Type 0 where
  pub x : ℕ
  pub ink : ℕ
  pub glyphs : List ℕ

-- a run of one cell
abbrev pub one_cell : ℕ → Painted → Run
one_cell x cell = record { x = x; ink = cell.ink; glyphs = cell.glyph ∷ [] }

-- the runs of a cell in column x and of those behind it, whose runs are known: a cell of the first run's ink makes that longer
abbrev pub before : ℕ → Painted → List Run → List Run
before x cell [] = one_cell x cell ∷ []
before x cell (r ∷ rs) =
    if r.ink == cell.ink then record { x = x; ink = cell.ink; glyphs = cell.glyph ∷ r.glyphs } ∷ rs else one_cell x cell ∷ r ∷ rs

-- the runs of so many cells of a row, from column x on; no two that are side by side have the same ink
abbrev pub runs_from : (cell : ℕ → Painted) → (x count : ℕ) → List Run
runs_from cell x zero = []
runs_from cell x (suc more) = before x (cell x) (runs_from cell (x + 1) more)

-- the operation that shows a run in row y
abbrev pub run_op : ℕ → Run → Op
run_op y r = shows r.x y r.ink r.glyphs

-- the cells of row y
abbrev pub row_cells : (cell : (x y : ℕ) → Painted) → (y x : ℕ) → Painted
row_cells cell y x = cell x y

-- the operations that show so many cells of row y, from column x on
abbrev pub row_ops : (cell : (x y : ℕ) → Painted) → (y x count : ℕ) → List Op
row_ops cell y x count = map (run_op y) (runs_from (row_cells cell y) x count)

-- the operations that show so many rows, from row y on
abbrev pub rows_ops : (cell : (x y : ℕ) → Painted) → (x width y count : ℕ) → List Op
rows_ops cell x width y zero = []
rows_ops cell x width y (suc more) = row_ops cell y x width ++ rows_ops cell x width (y + 1) more

-- the operations that show an area of the screen
abbrev pub area_ops : (cell : (x y : ℕ) → Painted) → Area → List Op
area_ops cell area = rows_ops cell area.x area.width area.y area.height

-- all places of a screen
abbrev pub whole_area : (width height : ℕ) → Area
whole_area width height = record { x = 0; y = 0; width = width; height = height }

-- the operations that show the whole screen, whatever was shown before
abbrev pub redraw_ops : (cell : (x y : ℕ) → Painted) → (width height : ℕ) → List Op
redraw_ops cell width height = clears width height ∷ area_ops cell (whole_area width height)

-- the operations that show a pane with these marks in its area
abbrev pub pane_ops : Area → List (Mark Item) → List Op
pane_ops area marks = area_ops (pane_cell area marks) area

-- ---- what operations make of one cell

-- the cell in column u of row v after an operation, where this one was shown
abbrev pub cell_after : Op → (u v : ℕ) → Painted → Painted
cell_after (clears width height) u v under = blank_cell
cell_after (shows x y ink glyphs) u v under =
    if in_span x y (length glyphs) u v then record { glyph = slice_index glyphs (u - x); ink = ink } else under

-- the same after all of them, in order
abbrev pub cell_after_all : List Op → (u v : ℕ) → Painted → Painted
cell_after_all [] u v under = under
cell_after_all (op ∷ ops) u v under = cell_after_all ops u v (cell_after op u v under)
