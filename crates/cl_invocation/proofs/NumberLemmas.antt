-- What `parse` gives at a text of at most nine digits.
use Rattle.std.proofs.Common.{◌≡◌, ℕ, zero, suc, ◌<◌, ◌≤◌, ◌^◌, None, List, [], ◌∷◌, length, true, arith, rules, refl}
use Rattle.std.specs.Prelude.{Result, Ok, Err}
use Rattle.std.specs.Char.{is_ascii_digit}
use Rattle.std.specs.List.{list_all}
use Rattle.std.specs.Str.Parse.{ParsesUnsigned, digits_value}
use Rattle.cl_invocation.specs.Words.{number_in}
use Rattle.std.proofs.lemmas.Str.Parse.{IsNumeralModel, numerals_by_value, parse_digits, digits_value_short}

own : IsNumeralModel (λ ds. list_all is_ascii_digit ds ≡ true) (digits_value 10)
own = numerals_by_value _ (search rules)

-- their number is below 2^32
pub fits : (text : List ℕ) → list_all is_ascii_digit text ≡ true → length text ≤ 9 → digits_value 10 text < 2 ^ 32
fits text digits short = omega (arith, digits_value_short own text 9 digits short)

-- an `Ok` is their number, and there is one
pub parsed : (E : Type 0) (text : List ℕ) (number : ℕ) → ParsesUnsigned {E = E} 32 10 text (Ok number)
    → list_all is_ascii_digit text ≡ true
    → (number ≡ digits_value 10 text) × (0 < length text)
parsed E text number h digits = let r : Result ℕ E = Ok number in let p = parse_digits own 32 text r h digits in (p.1, p.0.0)

-- an `Err` comes only of the empty text
pub unparsed : (E : Type 0) (text : List ℕ) (error : E) → ParsesUnsigned 32 10 text (Err error) → list_all is_ascii_digit text ≡ true
    → length text ≤ 9 → length text ≡ 0
unparsed E text error h digits short = go (length text) refl
  where
    go : (n : ℕ) → length text ≡ n → length text ≡ 0
    go zero e = e
    go (suc n) e =
        let some : 0 < length text = omega arith in
        absurd (parse_digits own 32 text (Err error) h digits (some, fits text digits short))

-- the empty text is no number
pub no_number : (least most : ℕ) (text : List ℕ) → length text ≡ 0 → None ≡ number_in least most text
no_number least most [] e = refl
no_number least most (x ∷ xs) e = absurd (omega arith)
