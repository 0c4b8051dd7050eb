-- The control sequences that are sent to a terminal, with numbers in decimal. Columns and rows are counted from 1 there.
use Rattle.std.specs.Prelude.{ℕ, ◌+◌, ◌==◌, if◌then◌else◌, List, ◌∷◌, ◌++◌, codes, decimal}

-- what comes behind the introducer of a control sequence, with it
abbrev pub csi : List ℕ → List ℕ
csi bytes = 27 ∷ 91 ∷ bytes

-- the glyphs that follow have the terminal's own colour
abbrev pub reset_bytes : List ℕ
reset_bytes = csi (codes "0m")

-- the whole display is erased
abbrev pub erase_bytes : List ℕ
erase_bytes = csi (codes "2J")

-- the cursor goes to the first column of the first row
abbrev pub home_bytes : List ℕ
home_bytes = csi (codes "H")

-- the cursor goes to column x of row y
abbrev pub move_bytes : (x y : ℕ) → List ℕ
move_bytes x y = csi (decimal (y + 1) ++ (codes ";" ++ (decimal (x + 1) ++ codes "H")))

-- the number of an ink: 39 is the terminal's own colour, and 31 to 37 are its colours 1 to 7
abbrev pub colour : (ink : ℕ) → ℕ
colour ink = if ink == 0 then 39 else 30 + ink

-- the glyphs that follow have this ink
abbrev pub ink_bytes : (ink : ℕ) → List ℕ
ink_bytes ink = csi (decimal (colour ink) ++ codes "m")

-- the display is blank, and the ink is the terminal's own
abbrev pub clear_bytes : List ℕ
clear_bytes = reset_bytes ++ (erase_bytes ++ home_bytes)

-- the glyphs in their ink from column x of row y on, and the terminal's own ink behind them
abbrev pub span_bytes : (x y ink : ℕ) → (glyphs : List ℕ) → List ℕ
span_bytes x y ink glyphs = move_bytes x y ++ (ink_bytes ink ++ (glyphs ++ reset_bytes))

-- the terminal is taken over: its other screen, reports of the pointer's buttons, those reports as decimal numbers, and a blank display
abbrev pub enter_bytes : List ℕ
enter_bytes = csi (codes "?1049h") ++ (csi (codes "?1000h") ++ (csi (codes "?1006h") ++ (erase_bytes ++ home_bytes)))

-- and given back, in the other order
abbrev pub leave_bytes : List ℕ
leave_bytes = reset_bytes ++ (csi (codes "?1006l") ++ (csi (codes "?1000l") ++ csi (codes "?1049l")))
