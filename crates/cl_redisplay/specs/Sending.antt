-- Sending of the cells of a screen: where a run ends in a row, and what operations leave of a device's picture.
use Rattle.std.specs.Prelude.{◌≡◌, ◌≢◌, ℕ, length, ◌+◌, ◌<◌, ◌≤◌, Bool, true, false, List, [], map, slice_index, Option, Some, None, ⊤}
use Rattle.cl_medium.specs.Items.{Painted}
use Rattle.cl_outside.specs.Device as device
use Rattle.cl_outside.specs.Operations.{Op}
use Rattle.cl_outside.specs.declared.answers.Sent.{Sent}
use Rattle.cl_outside.specs.declared.answers.Sent.TheVariants.{Done, Failed}
use Rattle.cl_raster.specs.Raster.{Picture}
use Rattle.cl_redisplay.specs.Operations.{cell_after_all, run_op, runs_from}
use Rattle.cl_redisplay.specs.Screens.{Follows, device_cell}

-- the cell in a column of a row with these glyphs and inks
abbrev pub list_cell : (glyphs inks : List ℕ) → ℕ → Painted
list_cell glyphs inks x = record { glyph = slice_index glyphs x; ink = slice_index inks x }

-- the operations that show so many cells of such a row, from column x on
abbrev pub list_ops : (glyphs inks : List ℕ) → (y x count : ℕ) → List Op
list_ops glyphs inks y x count = map (run_op y) (runs_from (list_cell glyphs inks) x count)

-- each of these inks is that of its neighbour
abbrev pub IsEven : List ℕ → Type 0
IsEven inks = (k : ℕ) → k + 1 < length inks → slice_index inks (k + 1) ≡ slice_index inks k

-- of the columns before `right`, those from one on have its ink up to `end`, and no further
pub record IsRunEnd (inks : List ℕ) (from right end : ℕ) : Type 0 where
  pub some : from < end
  pub most : end ≤ right
  pub same : (k : ℕ) → from ≤ k → k < end → slice_index inks k ≡ slice_index inks from
  pub ends : end < right → slice_index inks end ≢ slice_index inks from

-- operations were played on a device's picture, but for the last ones, which are left
pub record PlaysTo (old new : device.Picture) (ops left : List Op) : Type 0 where
  pub width : new.width ≡ old.width
  pub height : new.height ≡ old.height
  pub cells : (x y : ℕ) → x < old.width → y < old.height
      → cell_after_all left x y (device_cell new x y) ≡ cell_after_all ops x y (device_cell old x y)

-- the same where the picture may not be told
abbrev pub Plays : (old new : Option device.Picture) → (ops left : List Op) → Type 0
Plays None None ops left = ⊤
Plays None (Some q) ops left = ⊥
Plays (Some p) None ops left = ⊥
Plays (Some p) (Some q) ops left = PlaysTo p q ops left

-- the operations were played; of a device that failed, which is broken, nothing is said
abbrev pub OpsSent : (old new : Option device.Picture) → List Op → (broken : Bool) → Sent → Type 0
OpsSent old new ops broken Done = Plays old new ops [] × (broken ≡ false)
OpsSent old new ops broken Failed = broken ≡ true

-- the device shows this picture, unless it failed
abbrev pub AllSent : Picture → (broken cleared : Bool) → (shown : Option device.Picture) → Sent → Type 0
AllSent p broken cleared shown Done = Follows p broken cleared shown
AllSent p broken cleared shown Failed = broken ≡ true
