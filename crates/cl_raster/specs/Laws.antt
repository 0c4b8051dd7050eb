-- What playback makes of the bytes of operations.
use Rattle.std.specs.Prelude.{◌≡◌, ℕ, ◌<◌, ◌^◌, Some, true, List, [], ◌++◌}
use Rattle.cl_outside.specs.Device.{IsSpan}
use Rattle.cl_outside.specs.Operations.{clears, shows, mended, op_bytes}
use Rattle.cl_outside.specs.Play.{Playing, acted, blank_picture, played}
use Rattle.cl_raster.specs.Playback.{IsSize}

-- Behind whole lines, the bytes of an operation act as that operation: a `clear` shows a blank picture, and a `span` paints the picture that is
-- shown. Bytes one behind the other are played so.
pub record ArePlayed : Type 0 where
  pub clears_blank : (s : Playing) (width height : ℕ) → s.line ≡ [] → IsSize width height
      → played s (op_bytes (clears width height)) ≡ record { shown = Some (blank_picture width height); line = [] }
  pub spans_paint : (s : Playing) (x y ink : ℕ) (glyphs : List ℕ) → s.line ≡ [] → x < 2 ^ 64 → y < 2 ^ 64 → IsSpan ink glyphs
      → played s (op_bytes (shows x y ink glyphs)) ≡ record { shown = acted s.shown (Some (shows x y ink glyphs)); line = [] }
  pub in_order : (s : Playing) (first more : List ℕ) → played s (first ++ more) ≡ played (played s first) more

-- a `clear` behind a line feed shows a blank picture, whatever broke off before it
abbrev pub ClearsMend : Type 0
ClearsMend = (s : Playing) (width height : ℕ) → IsSize width height
    → played s (mended true (op_bytes (clears width height))) ≡ record { shown = Some (blank_picture width height); line = [] }
