-- The picture of a device, and what its operations do, by what they answer.
use Rattle.std.specs.Prelude.{◌≡◌, ℕ, ◌+◌, ◌-◌, ◌≤◌, ◌<◌, ◌≤◌, Bool, true, false, ◌&&◌, ◌==◌, nat_lt, nat_le, if◌then◌else◌, List, Option, length, slice_index, All, ⊤, None, Some}
use Rattle.cl_outside.specs.Causes.{Rose}
use Rattle.cl_outside.specs.declared.answers.Sent.{Sent}
use Rattle.cl_outside.specs.declared.answers.Sent.TheVariants.{Done, Failed}
use Rattle.cl_outside.specs.Sizes.{MAX_INK}

-- columns, rows, and the glyph and the ink at column x of row y, where x is below the width and y below the height
pub record Picture : Type 0 where
  pub width : ℕ
  pub height : ℕ
  pub glyph_at : ℕ → ℕ → ℕ
  pub ink_at : ℕ → ℕ → ℕ

-- a byte that may stand in a cell
abbrev pub IsGlyph : ℕ → Type 0
IsGlyph byte = (32 ≤ byte) × (byte ≤ 126)

-- what a span may hold: at least one glyph, and one of the eight inks
abbrev pub IsSpan : ℕ → List ℕ → Type 0
IsSpan ink glyphs = (ink ≤ MAX_INK) × (0 < length glyphs) × All IsGlyph glyphs

-- a picture of this size, each of its cells a space with ink 0
pub record IsBlank (width height : ℕ) (picture : Picture) : Type 0 where
  pub width_is : picture.width ≡ width
  pub height_is : picture.height ≡ height
  pub glyph_is : (x y : ℕ) → x < width → y < height → picture.glyph_at x y ≡ 32
  pub ink_is : (x y : ℕ) → x < width → y < height → picture.ink_at x y ≡ 0

-- whether column x of row y is in a span of this length from (from_x, from_y)
abbrev pub in_span : ℕ → ℕ → ℕ → ℕ → ℕ → Bool
in_span from_x from_y count x y = (y == from_y) && nat_le from_x x && nat_lt x (from_x + count)

-- the picture has the span's glyphs where they lie inside it, and all its other cells as before
pub record IsPainted (old new : Picture) (from_x from_y ink : ℕ) (glyphs : List ℕ) : Type 0 where
  pub width_is : new.width ≡ old.width
  pub height_is : new.height ≡ old.height
  pub glyph_is : (x y : ℕ) → x < old.width → y < old.height
      → new.glyph_at x y ≡ (if in_span from_x from_y (length glyphs) x y then slice_index glyphs (x - from_x) else old.glyph_at x y)
  pub ink_is : (x y : ℕ) → x < old.width → y < old.height
      → new.ink_at x y ≡ (if in_span from_x from_y (length glyphs) x y then ink else old.ink_at x y)

-- a picture that is told is blank, of this size
abbrev pub Blanks : ℕ → ℕ → Option Picture → Type 0
Blanks width height None = ⊤
Blanks width height (Some p) = IsBlank width height p

-- a picture that is not told stays untold
abbrev pub Paints : Option Picture → Option Picture → ℕ → ℕ → ℕ → List ℕ → Type 0
Paints None None x y ink glyphs = ⊤
Paints None (Some q) x y ink glyphs = ⊥
Paints (Some p) None x y ink glyphs = ⊥
Paints (Some p) (Some q) x y ink glyphs = IsPainted p q x y ink glyphs

-- a device that was not yet cleared shows no span
abbrev pub PaintsWhereCleared : Bool → Option Picture → Option Picture → ℕ → ℕ → ℕ → List ℕ → Type 0
PaintsWhereCleared true old new x y ink glyphs = Paints old new x y ink glyphs
PaintsWhereCleared false old new x y ink glyphs = new ≡ old

-- a device that failed is broken, and nothing is said of its picture
abbrev pub ClearSent : ℕ → ℕ → Option Picture → Bool → Bool → Sent → Type 0
ClearSent width height new broken cleared Done = Blanks width height new × (broken ≡ false) × (cleared ≡ true)
ClearSent width height new broken cleared Failed = broken ≡ true

-- a device that sent a span shows it where it was cleared, and is not broken; nothing is said of one that failed
abbrev pub SpanSent : Bool → Option Picture → Option Picture → ℕ → ℕ → ℕ → List ℕ → Bool → Sent → Type 0
SpanSent cleared old new x y ink glyphs broken Done = PaintsWhereCleared cleared old new x y ink glyphs × (broken ≡ false)
SpanSent cleared old new x y ink glyphs broken Failed = broken ≡ true

-- no count falls, and one rose where the operation failed
abbrev pub SentRose : ℕ → ℕ → Sent → Type 0
SentRose before now Done = before ≤ now
SentRose before now Failed = (before ≤ now) × Rose before now
