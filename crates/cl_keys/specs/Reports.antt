-- What a terminal reports of its pointer: `<B;X;Y` before an `M`, with a button and a place counted from 1.
use Rattle.std.specs.Prelude.{ℕ, ◌+◌, ◌-◌, Bool, ◌==◌, ◌&&◌, nat_le, if◌then◌else◌, Option, Some, None, option_and_then, List, ◌∷◌, length, take, drop, position}
use Rattle.std.specs.Char.{is_ascii_digit}
use Rattle.std.specs.List.{list_all}
use Rattle.std.specs.Str.Parse.{digits_value}
use Rattle.cl_keys.specs.declared.keys.Button.{Button}
use Rattle.cl_keys.specs.declared.keys.Button.TheVariants as button
use Rattle.cl_keys.specs.declared.keys.Press.{Press}

-- the next step, where there is a value
infixl 10 ◌>>=◌
abbrev pub ◌>>=◌ : {A B : Type 0} → Option A → (A → Option B) → Option B
o >>= f = option_and_then f o

-- the button of a code
abbrev pub button_of : ℕ → Option Button
button_of code =
    if code == 48 then Some button.Left else
    (if code == 49 then Some button.Middle else
    (if code == 50 then Some button.Right else None))

-- 1 to 5 decimal digits, of which the first may be 0
abbrev pub is_number : List ℕ → Bool
is_number digits = nat_le 1 (length digits) && nat_le (length digits) 5 && list_all is_ascii_digit digits

-- a number from 1 to 65,535, counted from 0
abbrev pub from_zero : ℕ → Option ℕ
from_zero n = if nat_le 1 n && nat_le n 65535 then Some (n - 1) else None

-- the column or the row that 1 to 5 decimal digits write
abbrev pub coordinate_of : List ℕ → Option ℕ
coordinate_of digits = if is_number digits then from_zero (digits_value 10 digits) else None

-- a byte is `;`
abbrev pub is_semicolon : ℕ → Bool
is_semicolon byte = byte == 59

-- the press of the button of this code at a place that is written as its column, `;` and its row
abbrev pub press_of : ℕ → List ℕ → Option Press
press_of code place = do
  pressed ← button_of code
  at ← position is_semicolon place
  column ← coordinate_of (take at place)
  row ← coordinate_of (drop (at + 1) place)
  Some (record { button = pressed; column = column; row = row })

-- the press that a sequence with these bytes before its `M` reports
abbrev pub press_in : List ℕ → Option Press
press_in (a ∷ code ∷ b ∷ place) = if (a == 60) && (b == 59) then press_of code place else None
press_in bytes = None
