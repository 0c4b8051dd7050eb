-- The value of 1 to 5 decimal digits.
use Rattle.std.proofs.Common.{◌≡◌, ◌<◌, ◌≤◌, ◌+◌, ◌-◌, ◌*◌, ◌^◌, ◌&&◌, ◌∙◌, ap, refl, ℕ, true, nat_le, List, [], ◌∷◌, zero, suc, length, take, get_or, All, arith}
use Rattle.std.specs.Char.{is_ascii_digit, digit_value}
use Rattle.std.specs.List.{list_all}
use Rattle.std.specs.Str.Parse.{AllDigits, digits_value}
use Rattle.std.proofs.Math.Nat.{pow-le-pow_right}
use Rattle.std.proofs.lemmas.Bool.{and_parts, and_from, leb-true, le-leb}
use Rattle.std.proofs.lemmas.Bool.Decides.{nat_tests}
use Rattle.std.proofs.lemmas.Grind.{common_steps}
use Rattle.std.proofs.lemmas.Int.Digits.{digits_value-lt, digits_value_more}
use Rattle.std.proofs.lemmas.List.{length-take}
use Rattle.std.proofs.lemmas.List.Elements.{All-nil, All-cons, All-head, All-tail, All-get_or}
use Rattle.cl_keys.specs.Reports.{is_number}
use Rattle.cl_keys.specs.Spelling.{IsDigit}

pub is_digit-true : (byte : ℕ) → is_ascii_digit byte ≡ true → IsDigit byte
is_digit-true byte h = grind (arith, nat_tests, common_steps)

pub is_digit-yes : (byte : ℕ) → IsDigit byte → is_ascii_digit byte ≡ true
is_digit-yes byte h = grind (arith, nat_tests, common_steps)

below_ten : (byte : ℕ) → IsDigit byte → digit_value byte < 10
below_ten byte h = grind (arith, nat_tests, common_steps)

pub digit-value : (byte : ℕ) → IsDigit byte → digit_value byte ≡ byte - 48
digit-value byte h = grind (arith, nat_tests, common_steps)

all_digits : (ds : List ℕ) → list_all is_ascii_digit ds ≡ true → AllDigits 10 ds
all_digits [] h = tt
all_digits (d ∷ ds) h =
    let parts = and_parts (is_ascii_digit d) (list_all is_ascii_digit ds) h in
    (below_ten d (is_digit-true d parts.0), all_digits ds parts.1)

first_digits : (n : ℕ) (ds : List ℕ) → AllDigits 10 ds → AllDigits 10 (take n ds)
first_digits zero ds h = tt
first_digits (suc n) [] h = tt
first_digits (suc n) (d ∷ ds) h = (h.0, first_digits n ds h.1)

pub are_digits : (ds : List ℕ) → list_all is_ascii_digit ds ≡ true → All IsDigit ds
are_digits [] h = All-nil IsDigit
are_digits (d ∷ ds) h =
    let parts = and_parts (is_ascii_digit d) (list_all is_ascii_digit ds) h in
    All-cons IsDigit d ds (is_digit-true d parts.0) (are_digits ds parts.1)

pub digits_all : (ds : List ℕ) → All IsDigit ds → list_all is_ascii_digit ds ≡ true
digits_all [] h = refl
digits_all (d ∷ ds) h =
    and_from (is_ascii_digit d) (list_all is_ascii_digit ds) (is_digit-yes d (All-head IsDigit d ds h)) (digits_all ds (All-tail IsDigit d ds h))

-- the parts of the test
pub number_parts : (ds : List ℕ) → is_number ds ≡ true → (0 < length ds) × (length ds ≤ 5) × (list_all is_ascii_digit ds ≡ true)
number_parts ds h =
    let both = and_parts (nat_le 1 (length ds) && nat_le (length ds) 5) (list_all is_ascii_digit ds) h in
    let lengths = and_parts (nat_le 1 (length ds)) (nat_le (length ds) 5) both.0 in
    (leb-true 1 (length ds) lengths.0, leb-true (length ds) 5 lengths.1, both.1)

pub is_number-yes : (ds : List ℕ) → 0 < length ds → length ds ≤ 5 → All IsDigit ds → is_number ds ≡ true
is_number-yes ds some few h =
    and_from (nat_le 1 (length ds) && nat_le (length ds) 5) (list_all is_ascii_digit ds)
    (and_from (nat_le 1 (length ds)) (nat_le (length ds) 5) (le-leb 1 (length ds) some) (le-leb (length ds) 5 few)) (digits_all ds h)

-- where a further digit follows, the digits so far write less than 10,000
pub value_below : (ds : List ℕ) (n : ℕ) → is_number ds ≡ true → n < length ds → digits_value 10 (take n ds) < 10000
value_below ds n h more =
    let parts = number_parts ds h in
    let below = digits_value-lt 10 (take n ds) (first_digits n ds (all_digits ds parts.2)) in
    let short : length (take n ds) ≤ 4 = omega (arith, length-take n ds, parts.1) in
    let power : 10 ^ length (take n ds) ≤ 10000 = pow-le-pow_right (omega arith) short in
    omega (arith, below, power)

pub digit_at : (ds : List ℕ) (n : ℕ) → is_number ds ≡ true → n < length ds → IsDigit (get_or ds n 0)
digit_at ds n h more = All-get_or IsDigit ds n 0 more (are_digits ds (number_parts ds h).2)

-- the value with one more digit
pub value_more : (ds : List ℕ) (n : ℕ) → is_number ds ≡ true → n < length ds
    → digits_value 10 (take (n + 1) ds) ≡ digits_value 10 (take n ds) * 10 + (get_or ds n 0 - 48)
value_more ds n h more = digits_value_more 10 ds n more ∙ ap (λ d. digits_value 10 (take n ds) * 10 + d) (digit-value (get_or ds n 0) (digit_at ds n h more))
