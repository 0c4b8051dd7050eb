-- A screen of cells and the device that shows it: when the two agree, and what sending to the device leaves of that.
use Rattle.std.specs.Prelude.{◌≡◌, ℕ, ◌<◌, ◌≤◌, Bool, true, false, Option, Some, None, List, [], ⊤}
use Rattle.cl_medium.specs.Items.{Item, Painted, move_item}
use Rattle.cl_outside.specs.Causes.{Rose}
use Rattle.cl_outside.specs.Device as device
use Rattle.cl_raster.specs.Raster.{Picture}
use Rattle.cl_record.specs.Marks.{Mark, history_marks}
use Rattle.cl_record.specs.Trees.{Tree}
use Rattle.cl_redisplay.specs.Paint.{cell_at}
use Rattle.cl_redisplay.specs.declared.screens.Painted as answer
use Rattle.cl_redisplay.specs.declared.screens.Painted.TheVariants.{Done, DeviceFault}

-- the cells of a screen, and whether it is stale: what the device shows is not known to be these cells
pub record Screen : Type 0 where
  pub raster : Picture
  pub stale : Bool

-- what a history draws; None: a blank pane
abbrev pub pane_marks : Option (List (Tree Item)) → List (Mark Item)
pane_marks None = []
pane_marks (Some history) = history_marks move_item history

-- ---- screen and device

-- the cell in column x of row y of what a device shows
abbrev pub device_cell : device.Picture → (x y : ℕ) → Painted
device_cell d x y = record { glyph = d.glyph_at x y; ink = d.ink_at x y }

-- the device's picture is as large as this one, and has its cells
pub record HasCells (p : Picture) (d : device.Picture) : Type 0 where
  pub width : d.width ≡ p.width
  pub height : d.height ≡ p.height
  pub cells : (x y : ℕ) → x < p.width → y < p.height → device_cell d x y ≡ cell_at p x y

-- the same of a device's picture that may not be told
abbrev pub Mirrors : Picture → Option device.Picture → Type 0
Mirrors p None = ⊤
Mirrors p (Some d) = HasCells p d

-- the device is whole, was cleared once, and shows these cells
pub record Follows (p : Picture) (broken cleared : Bool) (shown : Option device.Picture) : Type 0 where
  pub whole : broken ≡ false
  pub begun : cleared ≡ true
  pub mirrors : Mirrors p shown

-- the device shows the cells of the screen, unless that is stale
abbrev pub Agree : (stale : Bool) → Picture → (broken cleared : Bool) → Option device.Picture → Type 0
Agree true p broken cleared shown = ⊤
Agree false p broken cleared shown = Follows p broken cleared shown

-- ---- what a paint leaves, by what it answers

-- a fault makes the screen stale; without one it is as stale as it was
abbrev pub StaleAfter : (old new : Bool) → answer.Painted → Type 0
StaleAfter old new Done = new ≡ old
StaleAfter old new DeviceFault = new ≡ true

-- it answers that the device failed
abbrev pub is_fault : answer.Painted → Bool
is_fault Done = false
is_fault DeviceFault = true

-- a device that failed is broken
abbrev pub BreaksAt : answer.Painted → (broken : Bool) → Type 0
BreaksAt Done broken = ⊤
BreaksAt DeviceFault broken = broken ≡ true

-- no count falls, and one rose where the device failed
abbrev pub PaintedRose : ℕ → ℕ → answer.Painted → Type 0
PaintedRose before now Done = before ≤ now
PaintedRose before now DeviceFault = (before ≤ now) × Rose before now
