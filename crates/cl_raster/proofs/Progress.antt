-- How far the loops of a playback have come.
use Rattle.std.specs.Prelude.{◌≡◌, ℕ, ◌-◌, ◌<◌, if◌then◌else◌, List, [], slice_index, Option}
use Rattle.cl_outside.specs.Device as device
use Rattle.cl_outside.specs.Play.{at_start, played}
use Rattle.cl_raster.specs.Playback.{IsShown}
use Rattle.cl_raster.specs.Raster.{Picture}

-- so many glyphs are painted, from a place on
pub record PaintsFirst (old new : device.Picture) (from_x from_y ink : ℕ) (glyphs : List ℕ) (count : ℕ) : Type 0 where
  pub width : new.width ≡ old.width
  pub height : new.height ≡ old.height
  pub glyph_is : (x y : ℕ) → x < old.width → y < old.height
      → new.glyph_at x y ≡ (if device.in_span from_x from_y count x y then slice_index glyphs (x - from_x) else old.glyph_at x y)
  pub ink_is : (x y : ℕ) → x < old.width → y < old.height
      → new.ink_at x y ≡ (if device.in_span from_x from_y count x y then ink else old.ink_at x y)

-- what is shown is what the bytes make of nothing, but for the last of them, which are left
pub record IsPlayed (shown : Option Picture) (bytes left : List ℕ) : Type 0 where
  pub before : Option device.Picture
  pub is_shown : IsShown shown before
  pub same : (played (record { shown = before; line = [] }) left).shown ≡ (played at_start bytes).shown
