-- The words that are numbers, and their values.
use Rattle.std.specs.Prelude.{ℕ, ◌+◌, ◌-◌, ◌*◌, ◌^◌, ℤ, pos, negsuc, neg_ℤ, int_le, Bool, false, not, ◌&&◌, ◌==◌, List, [], ◌∷◌, length, if◌then◌else◌}
use Rattle.std.specs.Char.{is_ascii_digit}
use Rattle.std.specs.List.{list_all}

-- a word that begins with `-`
abbrev pub is_negative : List ℕ → Bool
is_negative [] = false
is_negative (b ∷ bs) = b == 45

-- a word without the `-` that it may begin with
abbrev pub digits_of : List ℕ → List ℕ
digits_of [] = []
digits_of (b ∷ bs) = if b == 45 then bs else b ∷ bs

-- one digit or more, and nothing else
abbrev pub are_digits : List ℕ → Bool
are_digits bs = not (length bs == 0) && list_all is_ascii_digit bs

-- an optional `-`, then digits
abbrev pub is_number : List ℕ → Bool
is_number word = are_digits (digits_of word)

-- the number that digits write behind those of v
abbrev pub decimal_after : ℕ → List ℕ → ℕ
decimal_after v [] = v
decimal_after v (b ∷ bs) = decimal_after (v * 10 + (b - 48)) bs

-- the number that a sign and digits write
abbrev pub number_of : List ℕ → ℤ
number_of word = if is_negative word then neg_ℤ (pos (decimal_after 0 (digits_of word))) else pos (decimal_after 0 (digits_of word))

-- from -2^63 to 2^63 - 1
abbrev pub fits_i64 : ℤ → Bool
fits_i64 z = int_le (negsuc (2 ^ 63 - 1)) z && int_le z (pos (2 ^ 63 - 1))
