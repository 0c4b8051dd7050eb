-- The rows below a screen, as they are sent to a terminal. Rows are counted from 0.
use Rattle.std.specs.Prelude.{ℕ, zero, suc, ◌+◌, ◌-◌, ◌&&◌, Bool, nat_eq, nat_le, if◌then◌else◌, List, [], ◌++◌, codes, drop, length, map, take}
use Rattle.std.specs.Fmt.{decimal}
use Rattle.std.specs.List.{after_first, before_first}
use Rattle.cl_ansi.specs.Sequences.{csi}

-- a byte as it is shown: one that is no glyph is shown as `?`
abbrev pub shown_byte : ℕ → ℕ
shown_byte byte = if nat_le 32 byte && nat_le byte 126 then byte else 63

-- the cursor goes to the first column of row y
abbrev pub begin_row : (y : ℕ) → List ℕ
begin_row y = csi (decimal (y + 1) ++ codes ";1H")

-- row y shows this text, cut to 78 bytes, and nothing behind it
abbrev pub row_bytes : (y : ℕ) → (text : List ℕ) → List ℕ
row_bytes y text = begin_row y ++ (map shown_byte (take 78 text) ++ csi (codes "K"))

-- a byte that is a line feed
abbrev pub is_feed : ℕ → Bool
is_feed byte = nat_eq byte 10

-- so many rows, from row y on, show the first lines
abbrev pub reply_rows : (y rows : ℕ) → (lines : List ℕ) → List ℕ
reply_rows y zero lines = []
reply_rows y (suc rows) lines = row_bytes y (before_first is_feed lines) ++ reply_rows (y + 1) rows (after_first is_feed lines)

-- the last bytes of these, at most 76
abbrev pub last_bytes : List ℕ → List ℕ
last_bytes bytes = drop (length bytes - 76) bytes

-- The rows below a screen of this height: the line that is typed, the end of it where it is long, then what is expected, then four rows of
-- replies. The first one is sent last, so that the cursor stands behind what was typed.
abbrev pub interactor_bytes : (height : ℕ) → (typed expected replies : List ℕ) → List ℕ
interactor_bytes height typed expected replies =
    row_bytes (height + 1) expected ++ (reply_rows (height + 2) 4 replies ++ row_bytes height (codes "> " ++ last_bytes typed))
