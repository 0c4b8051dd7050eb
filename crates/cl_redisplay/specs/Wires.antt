-- The bytes that a paint sends, and when playback of a wire's bytes shows the cells of a screen.
use Rattle.std.specs.Prelude.{◌≡◌, ℕ, ◌<◌, Bool, true, false, not, Option, Some, List}
use Rattle.cl_medium.specs.Items.{Painted}
use Rattle.cl_outside.specs.Device as device
use Rattle.cl_outside.specs.Play.{play}
use Rattle.cl_outside.specs.Writing.{Says}
use Rattle.cl_redisplay.specs.Screens.{device_cell, is_fault}
use Rattle.cl_redisplay.specs.declared.screens.Painted as answer

-- what a device shows of its wire has this size and these cells
pub record ShowsCells (width height : ℕ) (cell : (x y : ℕ) → Painted) (d : device.Picture) : Type 0 where
  pub width_is : d.width ≡ width
  pub height_is : d.height ≡ height
  pub cells : (x y : ℕ) → x < width → y < height → device_cell d x y ≡ cell x y

-- playback of the wire's bytes has these cells, where the bytes are told at all times
abbrev pub WireShows : (told : Bool) → (wire : Option (List ℕ)) → (width height : ℕ) → (cell : (x y : ℕ) → Painted) → Type 0
WireShows told wire width height cell = told ≡ true → (bytes : List ℕ) → wire ≡ Some bytes → ShowsCells width height cell (play bytes)

-- all was sent, or the device failed behind the first bytes
abbrev pub PaintSends : answer.Painted → (old new : Option (List ℕ)) → (bytes : List ℕ) → (faults_old faults_new : ℕ) → Type 0
PaintSends painted old new bytes faults_old faults_new = Says (not (is_fault painted)) old new bytes faults_old faults_new

-- nothing is sent of a stale screen
abbrev pub SendsUnless : (stale : Bool) → answer.Painted → (old new : Option (List ℕ)) → (bytes : List ℕ) → (faults_old faults_new : ℕ) → Type 0
SendsUnless true painted old new bytes faults_old faults_new = new ≡ old
SendsUnless false painted old new bytes faults_old faults_new = PaintSends painted old new bytes faults_old faults_new
