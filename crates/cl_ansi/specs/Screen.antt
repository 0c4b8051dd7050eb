-- What a terminal shows of the bytes that it is sent, as far as the device's sequences go.
use Rattle.std.specs.Prelude.{ℕ, ◌+◌, ◌-◌, ◌&&◌, ◌==◌, nat_le, if◌then◌else◌, List, [], ◌∷◌, ◌++◌, Option, None, Some}
use Rattle.std.specs.Str.Parse.{digits_value}
use Rattle.cl_outside.specs.Device.{Picture}

-- the glyph and the ink at column x of row y, the place of the cursor, the ink of the next glyph, and the bytes behind an escape, whose sequence
-- is not ended
pub record Screen : Type 0 where
  pub glyph_at : ℕ → ℕ → ℕ
  pub ink_at : ℕ → ℕ → ℕ
  pub column : ℕ
  pub row : ℕ
  pub ink : ℕ
  pub sequence : Option (List ℕ)

-- a screen that shows nothing yet
abbrev pub blank_screen : Screen
blank_screen = record { glyph_at = λ x y. 32; ink_at = λ x y. 0; column = 0; row = 0; ink = 0; sequence = None }

-- its first columns and rows
abbrev pub part_of : Screen → (width height : ℕ) → Picture
part_of s width height = record { width = width; height = height; glyph_at = s.glyph_at; ink_at = s.ink_at }

-- the value at one place is changed
abbrev pub changed_at : (x y value : ℕ) → (ℕ → ℕ → ℕ) → ℕ → ℕ → ℕ
changed_at x y value values u v = if v == y && u == x then value else values u v

-- from column x of row y to the end of the row, all have this value
abbrev pub erased_from : (x y value : ℕ) → (ℕ → ℕ → ℕ) → ℕ → ℕ → ℕ
erased_from x y value values u v = if v == y && nat_le x u then value else values u v

-- a glyph stands where the cursor is, which then goes on by one column; of what lies behind the last column nothing is said
abbrev pub put : Screen → (glyph : ℕ) → Screen
put s glyph =
    record s { glyph_at = changed_at s.column s.row glyph s.glyph_at; ink_at = changed_at s.column s.row s.ink s.ink_at; column = s.column + 1 }

-- ---- control sequences

-- the first of two parameters, and the second
abbrev pub first : List ℕ → List ℕ
first [] = []
first (b ∷ bs) = if b == 59 then [] else b ∷ first bs

-- the second of two parameters
abbrev pub second : List ℕ → List ℕ
second [] = []
second (b ∷ bs) = if b == 59 then bs else second bs

-- a column or a row, which are counted from 1; the first one where none is named
abbrev pub place_in : List ℕ → ℕ
place_in digits = digits_value 10 digits - 1

-- the ink of a number: 31 to 37 are the terminal's colours 1 to 7, and any other number is its own
abbrev pub ink_in : (number : ℕ) → ℕ
ink_in number = if nat_le 31 number && nat_le number 37 then number - 30 else 0

-- `2 J` erases the whole display and `K` the row of the cursor from there on, `H` moves the cursor, and `m` chooses the ink; no other sequence that is
-- sent changes what is shown
abbrev pub acted : Screen → (parameters : List ℕ) → (final : ℕ) → Screen
acted s parameters final =
    if final == 74 && digits_value 10 parameters == 2 then record s { glyph_at = λ x y. 32; ink_at = λ x y. 0; sequence = None }
    else (if final == 72 then record s { column = place_in (second parameters); row = place_in (first parameters); sequence = None }
    else (if final == 109 then record s { ink = ink_in (digits_value 10 parameters); sequence = None }
    else (if final == 75 && digits_value 10 parameters == 0
    then record s { glyph_at = erased_from s.column s.row 32 s.glyph_at; ink_at = erased_from s.column s.row 0 s.ink_at; sequence = None }
    else record s { sequence = None })))

-- ---- bytes one after another

-- A byte that is no escape is a glyph where no sequence is begun. In a sequence it is the introducer or a parameter, and one of 64 or more behind
-- the introducer ends it.
abbrev pub continued : Screen → Option (List ℕ) → ℕ → Screen
continued s None b = if nat_le 32 b then put s b else s
continued s (Some []) b = record s { sequence = Some (b ∷ []) }
continued s (Some (introducer ∷ parameters)) b =
    if nat_le 64 b then acted s parameters b else record s { sequence = Some (introducer ∷ (parameters ++ b ∷ [])) }

-- an escape begins a sequence, also inside of another one, which is given up
abbrev pub with_byte : Screen → ℕ → Screen
with_byte s b = if b == 27 then record s { sequence = Some [] } else continued s s.sequence b

-- the screen after these bytes
abbrev pub shown : Screen → List ℕ → Screen
shown s [] = s
shown s (b ∷ bs) = shown (with_byte s b) bs
