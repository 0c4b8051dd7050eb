-- What a terminal shows of the operations of the device.
use Rattle.std.specs.Prelude.{◌≡◌, ℕ, ◌^◌, ◌<◌, ◌≤◌, ◌⊎◌, true, List, ◌++◌, None}
use Rattle.cl_outside.specs.Device.{IsBlank, IsPainted, IsSpan}
use Rattle.cl_ansi.specs.Screen.{Screen, part_of, shown}
use Rattle.cl_ansi.specs.Sequences.{clear_bytes, enter_bytes}
use Rattle.cl_ansi.specs.Terminal.{Terminal, is_inside, shown_bytes}

-- what is sent next is shown in the terminal's own ink
pub record IsAtRest (s : Screen) : Type 0 where
  pub own_ink : s.ink ≡ 0
  pub no_sequence : s.sequence ≡ None

-- a `clear` makes the whole screen blank, whatever broke off before it, and leaves nothing of what was shown; and what takes the terminal over makes it
-- blank too
pub record ClearsBlank : Type 0 where
  pub blank : (s : Screen) (width height : ℕ) → IsBlank width height (part_of (shown s clear_bytes) width height)
  pub rests : (s : Screen) → IsAtRest (shown s clear_bytes)
  pub forgets : (s t : Screen) (bytes : List ℕ) → shown s (clear_bytes ++ bytes) ≡ shown t (clear_bytes ++ bytes)
  pub entered : (s : Screen) (width height : ℕ) → IsBlank width height (part_of (shown s enter_bytes) width height)

-- a span paints the part of the screen that is the device's picture, and nothing beside it: no glyph is put behind the last column of the picture
pub record SpansPaint (t : Terminal) (s : Screen) (x y ink : ℕ) (glyphs : List ℕ) : Type 0 where
  pub painted : t.cleared ≡ true
      → IsPainted (part_of s t.width t.height) (part_of (shown s (shown_bytes t x y ink glyphs)) t.width t.height) x y ink glyphs
  pub beside : (u v : ℕ) → (t.width ≤ u) ⊎ (t.height ≤ v)
      → ((shown s (shown_bytes t x y ink glyphs)).glyph_at u v ≡ s.glyph_at u v) × ((shown s (shown_bytes t x y ink glyphs)).ink_at u v ≡ s.ink_at u v)
  pub within : is_inside t x y ≡ true → (shown s (shown_bytes t x y ink glyphs)).column ≤ t.width
  pub rests : IsAtRest s → IsAtRest (shown s (shown_bytes t x y ink glyphs))

-- for the arguments that a span may have
abbrev pub AllSpansPaint : Type 0
AllSpansPaint = (t : Terminal) (s : Screen) (x y ink : ℕ) (glyphs : List ℕ) → x < 2 ^ 16 → y < 2 ^ 16 → IsSpan ink glyphs → SpansPaint t s x y ink glyphs
