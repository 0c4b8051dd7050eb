-- The operations of a device, and how they are spelled on a wire: one line each, with numbers in decimal.
use Rattle.std.specs.Prelude.{ℕ, Bool, true, false, ◌&&◌, nat_le, List, [], ◌∷◌, ◌++◌, length, map}
use Rattle.std.specs.Fmt.{decimal}
use Rattle.cl_outside.specs.Writing.{joined}
use Rattle.cl_outside.specs.Sizes.{MAX_COLUMNS, MAX_INK, MAX_ROWS}

-- an operation of a device: a blank picture of a width and a height; glyphs of one ink, from column x of row y on
pub data Op : Type 0 where
  clears : (width height : ℕ) → Op
  shows : (x y ink : ℕ) → List ℕ → Op

-- the line of an operation: `C W H`, and `S X Y I TEXT`
abbrev pub op_line : Op → List ℕ
op_line (clears width height) = 67 ∷ 32 ∷ (decimal width ++ (32 ∷ decimal height))
op_line (shows x y ink glyphs) = 83 ∷ 32 ∷ (decimal x ++ (32 ∷ (decimal y ++ (32 ∷ (decimal ink ++ (32 ∷ glyphs))))))

-- each of these bytes may stand in a cell
abbrev pub all_glyphs : List ℕ → Bool
all_glyphs [] = true
all_glyphs (byte ∷ bytes) = nat_le 32 byte && nat_le byte 126 && all_glyphs bytes

-- a picture of 1 to 512 columns and 1 to 256 rows; at least one glyph, in one of eight inks
abbrev pub may_stand : Op → Bool
may_stand (clears width height) = nat_le 1 width && nat_le width MAX_COLUMNS && nat_le 1 height && nat_le height MAX_ROWS
may_stand (shows x y ink glyphs) = nat_le ink MAX_INK && nat_le 1 (length glyphs) && all_glyphs glyphs

-- the line with the line feed that ends it
abbrev pub op_bytes : Op → List ℕ
op_bytes op = op_line op ++ 10 ∷ []

-- the lines of operations, one after another
abbrev pub ops_bytes : List Op → List ℕ
ops_bytes ops = joined (map op_bytes ops)

-- bytes behind an operation that broke off: a line feed comes first, so that they begin a line
abbrev pub mended : (broken : Bool) → List ℕ → List ℕ
mended true bytes = 10 ∷ bytes
mended false bytes = bytes
