-- What a terminal sends for each key.
use Rattle.std.specs.Prelude.{◌≡◌, ◌≢◌, ◌⊎◌, ◌+◌, ◌<◌, ◌≤◌, All, ℕ, List, [], ◌∷◌, ◌++◌, length, codes}
use Rattle.std.specs.Str.Parse.{digits_value}
use Rattle.cl_keys.specs.declared.keys.Button.{Button}
use Rattle.cl_keys.specs.declared.keys.Button.TheVariants as button
use Rattle.cl_keys.specs.declared.keys.Key.{Key}
use Rattle.cl_keys.specs.declared.keys.Key.TheVariants as key
use Rattle.cl_keys.specs.declared.keys.Press.{Press}

-- a decimal digit
abbrev pub IsDigit : ℕ → Type 0
IsDigit byte = (48 ≤ byte) × (byte ≤ 57)

-- 1 to 5 decimal digits, and the number that they write
pub record WritesNumber (digits : List ℕ) (number : ℕ) : Type 0 where
  pub some : 0 < length digits
  pub few : length digits ≤ 5
  pub decimal : All IsDigit digits
  pub value : number ≡ digits_value 10 digits

-- the letter that follows an escape is this one or its capital
abbrev pub IsLetter : (letter sent : ℕ) → Type 0
IsLetter letter sent = (97 ≤ letter) × (letter ≤ 122) × ((sent ≡ letter) ⊎ ((sent + 32 ≡ letter) × (sent ≢ 79)))

-- the digit of a button
abbrev pub digit_of : Button → ℕ
digit_of button.Left = 48
digit_of button.Middle = 49
digit_of button.Right = 50

-- an escape, `[<`, the button, the column and the row, counted from 1, with a `;` between each two, and `M`
pub record SpellsPress (press : Press) (bytes : List ℕ) : Type 0 where
  pub x : List ℕ
  pub y : List ℕ
  pub spelled : bytes ≡ 27 ∷ codes "[<" ++ (digit_of press.button ∷ 59 ∷ (x ++ 59 ∷ (y ++ codes "M")))
  pub column : WritesNumber x (press.column + 1)
  pub row : WritesNumber y (press.row + 1)
  pub within : (press.column < 65535) × (press.row < 65535)

-- these bytes are sent for the key
abbrev pub IsSpelledBy : Key → List ℕ → Type 0
IsSpelledBy (key.Typed b) bytes = (bytes ≡ b ∷ []) × (32 ≤ b) × (b ≤ 126)
IsSpelledBy key.Return bytes = (bytes ≡ 13 ∷ []) ⊎ (bytes ≡ 10 ∷ [])
IsSpelledBy key.Rubout bytes = (bytes ≡ 127 ∷ []) ⊎ (bytes ≡ 8 ∷ [])
IsSpelledBy key.Clear bytes = bytes ≡ 21 ∷ []
IsSpelledBy key.Force bytes = bytes ≡ 12 ∷ []
IsSpelledBy (key.Stroke letter) bytes = (sent : ℕ) × (bytes ≡ 27 ∷ sent ∷ []) × IsLetter letter sent
IsSpelledBy (key.Press press) bytes = SpellsPress press bytes
IsSpelledBy key.End bytes = bytes ≡ 4 ∷ []

-- these bytes are sent for the keys, one behind the other
pub data AreSpelledBy : List Key → List ℕ → Type 0 where
  none : AreSpelledBy [] []
  more : (k : Key) (keys : List Key) (bytes rest : List ℕ) → IsSpelledBy k bytes → AreSpelledBy keys rest → AreSpelledBy (k ∷ keys) (bytes ++ rest)

-- the bytes end with what is sent for the key
pub record EndWith (k : Key) (bytes : List ℕ) : Type 0 where
  pub before : List ℕ
  pub sent : List ℕ
  pub whole : bytes ≡ before ++ sent
  pub spelled : IsSpelledBy k sent

-- ---- sequences

-- a byte within a control sequence
abbrev pub IsPart : ℕ → Type 0
IsPart byte = (32 ≤ byte) × (byte ≤ 63)

-- a byte that ends a control sequence; an escape does not, since it begins anew
abbrev pub IsLast : ℕ → Type 0
IsLast byte = ((byte < 32) ⊎ (63 < byte)) × (byte ≢ 27)

-- an escape, `[`, zero or more bytes within a control sequence, and one that ends it; or an escape, `O` and one byte
pub data IsSequence : List ℕ → Type 0 where
  control : (parts : List ℕ) (last : ℕ) → All IsPart parts → IsLast last → IsSequence (27 ∷ codes "[" ++ (parts ++ last ∷ []))
  shift : (byte : ℕ) → IsSequence (27 ∷ codes "O" ++ byte ∷ [])
