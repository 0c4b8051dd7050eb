-- How large a screen may be, and how many inks there are.
use Rattle.std.specs.Prelude.{ℕ}

-- the most columns of a screen
abbrev pub MAX_COLUMNS : ℕ
MAX_COLUMNS = 512

-- the most rows of a screen
abbrev pub MAX_ROWS : ℕ
MAX_ROWS = 256

-- the last of the eight inks
abbrev pub MAX_INK : ℕ
MAX_INK = 7

-- the cells of the largest screen
abbrev pub CELL_COUNT : ℕ
CELL_COUNT = 131072
