-- The bytes of a wire, played on a raster: what stands in its cells, and what the parts of a line are.
use Rattle.std.specs.Prelude.{◌≡◌, ◌≢◌, ◌⊎◌, ℕ, ◌<◌, ◌≤◌, ◌^◌, List, ◌∷◌, ◌++◌, All, Option, None, Some, ⊤}
use Rattle.std.specs.Fmt.{decimal}
use Rattle.cl_outside.specs.Device as device
use Rattle.cl_outside.specs.Operations.{Op, clears, shows}
use Rattle.cl_outside.specs.Play.{acted}
use Rattle.cl_outside.specs.Sizes.{MAX_COLUMNS, MAX_ROWS}
use Rattle.cl_raster.specs.Raster.{Picture, glyph_at, ink_at}

-- ---- the cells of a raster

-- a raster as the picture of a device
abbrev pub cells_of : Picture → device.Picture
cells_of r = record { width = r.width; height = r.height; glyph_at = λ x y. glyph_at r x y; ink_at = λ x y. ink_at r x y }

-- a raster has the sizes of a device's picture and, at each place inside, its glyph and its ink
pub record HasCellsOf (r : Picture) (p : device.Picture) : Type 0 where
  pub width : r.width ≡ p.width
  pub height : r.height ≡ p.height
  pub glyphs : (x y : ℕ) → x < p.width → y < p.height → glyph_at r x y ≡ p.glyph_at x y
  pub inks : (x y : ℕ) → x < p.width → y < p.height → ink_at r x y ≡ p.ink_at x y

-- 1 to 512 columns and 1 to 256 rows
abbrev pub IsSize : (width height : ℕ) → Type 0
IsSize width height = ((1 ≤ width) × (width ≤ MAX_COLUMNS)) × ((1 ≤ height) × (height ≤ MAX_ROWS))

-- a raster shows a picture; or none is shown yet
abbrev pub IsShown : Option Picture → Option device.Picture → Type 0
IsShown None None = ⊤
IsShown None (Some p) = ⊥
IsShown (Some r) None = ⊥
IsShown (Some r) (Some p) = HasCellsOf r p × IsSize p.width p.height

-- what is shown becomes what an operation makes of it
abbrev pub Acts : (old new : Option Picture) → Option Op → Type 0
Acts old new op = (shown : Option device.Picture) → IsShown old shown → IsShown new (acted shown op)

-- ---- the parts of a line

-- the bytes before the first mark, and those behind it
pub record IsCut (mark : ℕ) (bytes front rest : List ℕ) : Type 0 where
  pub same : bytes ≡ front ++ (mark ∷ rest)
  pub first : All (λ b. b ≢ mark) front

-- the bytes are no number below 2^16
abbrev pub IsNoNumber : List ℕ → Type 0
IsNoNumber bytes = (n : ℕ) → n < 2 ^ 16 → bytes ≡ decimal n → ⊥

-- the bytes do not begin with a number below 2^16 and a space
abbrev pub BeginsNoNumber : List ℕ → Type 0
BeginsNoNumber bytes = (n : ℕ) → n < 2 ^ 16 → (rest : List ℕ) → bytes ≡ decimal n ++ (32 ∷ rest) → ⊥

-- no operation, or a span that lies outside of every picture
abbrev pub ShowsNothing : Option Op → Type 0
ShowsNothing None = ⊤
ShowsNothing (Some (clears width height)) = ⊥
ShowsNothing (Some (shows x y ink glyphs)) = (MAX_COLUMNS ≤ x) ⊎ (MAX_ROWS ≤ y)
