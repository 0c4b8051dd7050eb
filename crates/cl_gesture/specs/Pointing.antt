-- The words behind `point`: a gesture of the pointer, and the numbers of a place.
use Rattle.std.specs.Prelude.{◌≡◌, ◌&&◌, ◌⊎◌, ◌<◌, ◌≤◌, All, ℕ, ℤ, pos, neg_ℤ, Bool, nat_le, if◌then◌else◌, Option, Some, None, option_map, option_and_then, List, ◌∷◌, length, drop, codes}
use Rattle.std.specs.Char.{is_ascii_digit}
use Rattle.std.specs.List.{list_all}
use Rattle.std.specs.Str.{str_eq_ignore_ascii_case, str_to_ascii_lowercase}
use Rattle.std.specs.Str.Parse.{digits_value, starts_with_minus}
use Rattle.cl_translators.specs.declared.declarations.GestureName.{GestureName}
use Rattle.cl_translators.specs.declared.declarations.GestureName.TheVariants as name

-- the next step, where there is a value
infixl 10 ◌>>=◌
abbrev pub ◌>>=◌ : {A B : Type 0} → Option A → (A → Option B) → Option B
o >>= f = option_and_then f o

-- the gesture of the pointer that a word names, in any case of its letters
abbrev pub gesture_named : List ℕ → Option GestureName
gesture_named word =
    if str_eq_ignore_ascii_case word (codes "select") then Some name.Select else
    (if str_eq_ignore_ascii_case word (codes "describe") then Some name.Describe else
    (if str_eq_ignore_ascii_case word (codes "menu") then Some name.Menu else
    (if str_eq_ignore_ascii_case word (codes "edit") then Some name.Edit else
    (if str_eq_ignore_ascii_case word (codes "delete") then Some name.Delete else None))))

-- 1 to 6 decimal digits
abbrev pub is_number : List ℕ → Bool
is_number digits = nat_le 1 (length digits) && nat_le (length digits) 6 && list_all is_ascii_digit digits

-- the number that 1 to 6 decimal digits write
abbrev pub number_of : List ℕ → Option ℕ
number_of digits = if is_number digits then Some (digits_value 10 digits) else None

-- a number, or a `-` and then a number, of which it is the negative
abbrev pub coordinate_of : List ℕ → Option ℤ
coordinate_of word =
    if starts_with_minus word then option_map (λ n. neg_ℤ (pos n)) (number_of (drop 1 word)) else option_map pos (number_of word)

-- ---- law of the grammar

-- the name of a gesture of the pointer
abbrev pub name_of : GestureName → List ℕ
name_of name.Select = codes "select"
name_of name.Describe = codes "describe"
name_of name.Menu = codes "menu"
name_of name.Edit = codes "edit"
name_of name.Delete = codes "delete"

-- the word is the gesture's name but for the case of its letters
abbrev pub IsNameOf : GestureName → List ℕ → Type 0
IsNameOf gesture word = str_to_ascii_lowercase word ≡ name_of gesture

-- a byte is a decimal digit
abbrev pub IsDigit : ℕ → Type 0
IsDigit byte = (48 ≤ byte) × (byte ≤ 57)

-- 1 to 6 decimal digits, and the number that they write
pub record WritesNumber (digits : List ℕ) (number : ℕ) : Type 0 where
  pub some : 0 < length digits
  pub few : length digits ≤ 6
  pub decimal : All IsDigit digits
  pub value : number ≡ digits_value 10 digits

-- a number, or a `-` and then a number, of which it writes the negative
abbrev pub WritesCoordinate : List ℕ → ℤ → Type 0
WritesCoordinate word coordinate = (digits : List ℕ) × (number : ℕ) × WritesNumber digits number
    × (((word ≡ digits) × (coordinate ≡ pos number)) ⊎ ((word ≡ 45 ∷ digits) × (coordinate ≡ neg_ℤ (pos number))))
