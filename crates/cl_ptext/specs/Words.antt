-- Words in the texts of values: they are compared without regard to ASCII case.
use Rattle.std.specs.Prelude.{ℕ, Bool, true, false, not, ◌&&◌, List, [], ◌∷◌, Option, Some, None, if◌then◌else◌, map}
use Rattle.std.specs.Char.{to_ascii_lowercase}
use Rattle.std.specs.List.{list_all}
use Rattle.std.specs.Str.{str_eq_ignore_ascii_case}
use Rattle.cl_forms.specs.Words.{is_constant}
use Rattle.cl_print.specs.Plain.{plain_of}
use Rattle.cl_sexp.specs.Bytes.{is_word}
use Rattle.cl_sexp.specs.Numbers.{is_number, number_of, fits_i64}
use Rattle.cl_value.specs.Data.{Data, int, symbol}

-- the same word
abbrev pub same_word : List ℕ → List ℕ → Bool
same_word x y = str_eq_ignore_ascii_case x y

-- there are no bytes
abbrev pub is_empty : List ℕ → Bool
is_empty [] = true
is_empty (b ∷ bs) = false

-- the bytes with A to Z as a to z
abbrev pub small : List ℕ → List ℕ
small x = map to_ascii_lowercase x

-- a word of the language that is no number
abbrev pub is_symbol_word : List ℕ → Bool
is_symbol_word x = not (is_empty x) && list_all is_word x && not (is_number x)

-- the symbol that a text is: such a word in small letters, but none of `true`, `false`, `null` and `*`
abbrev pub symbol_in : List ℕ → Option Data
symbol_in x = if is_symbol_word x && not (is_constant (small x)) then Some (symbol (small x)) else None

-- the number that an optional `-` and digits write, where it fits in 64 bits
abbrev pub number_in : List ℕ → Option Data
number_in x = if is_number x && fits_i64 (number_of x) then Some (int (number_of x)) else None

-- the first of the constants with this plain form
abbrev pub constant_in : List Data → List ℕ → Option Data
constant_in [] x = None
constant_in (d ∷ ds) x = if same_word (plain_of d) x then Some d else constant_in ds x

-- the symbol of the first of the tokens that is this word
abbrev pub token_in : List (List ℕ) → List ℕ → Option Data
token_in [] x = None
token_in (t ∷ ts) x = if same_word t x then Some (symbol t) else token_in ts x
