-- The number of items that the words of a bench may give.
use Rattle.std.proofs.Common.{◌≡◌, ◌≤◌, ℕ, Bool, true, false, if◌then◌else◌, nat_le, nat_lt, List, [], ◌∷◌, length, refl, sym, ◌∙◌, ap, subst, Some, None, Option}
use Rattle.std.specs.Prelude.{◌&&◌, codes, option_and_then, option_map}
use Rattle.std.specs.Char.{is_ascii_digit}
use Rattle.std.specs.List.{list_all}
use Rattle.std.specs.Str.{bytes_eq}
use Rattle.std.specs.Str.Parse.{digits_value}
use Rattle.std.proofs.lemmas.Bool.{and_parts, leb-true}
use Rattle.cl_invocation.specs.Words.{Invocation, Parts, Text, any, at_most_one, bench, bench_of, budget_given, check, check_of, commanded, is_number, parts_from, run, run_of}
use Rattle.cl_program.specs.Command.{IsBench}

abbrev is_bench : Invocation → ℕ
is_bench (run name wire budget) = 0
is_bench (check name) = 0
is_bench (bench items) = 1

abbrev items_of : Invocation → ℕ
items_of (run name wire budget) = 0
items_of (check name) = 0
items_of (bench items) = items

apart : (i : Invocation) (n : ℕ) → is_bench i ≡ 0 → ◌≡◌ {A = Option Invocation} (Some i) (Some (bench n)) → ⊥
apart i n zero_is e =
    let both : ◌≡◌ {A = Option ℕ} (Some (is_bench i)) (Some 1) = ap (option_map is_bench) e in
    let none : ◌≡◌ {A = Option ℕ} (Some 0) (Some 1) = ap (λ (k : ℕ). Some k) (sym zero_is) ∙ both in
    cc

run_is : (name : Text) (n : ℕ) (file : Option (Option Text)) (budget : Option (Option ℕ))
    → option_and_then (λ wire. option_map (λ forms. run name wire forms) budget) file ≡ Some (bench n) → ⊥
run_is name n None budget e = cc
run_is name n (Some wire) None e = cc
run_is name n (Some wire) (Some forms) e = apart (run name wire forms) n refl e

check_is : (name : Text) (n : ℕ) (wires budgets : List Text) → check_of name wires budgets ≡ Some (bench n) → ⊥
check_is name n [] [] e = apart (check name) n refl e
check_is name n [] (b ∷ budgets) e = cc
check_is name n (w ∷ wires) budgets e = cc

-- from 1 to 1,000
abbrev IsWithin : ℕ → Type 0
IsWithin n = (1 ≤ n) × (n ≤ 1000)

number_within : (text : Text) → is_number 1 1000 text ≡ true → IsWithin (digits_value 10 text)
number_within text h =
    let ends = and_parts (list_all is_ascii_digit text && nat_lt 0 (length text) && nat_le (length text) 9 && nat_le 1 (digits_value 10 text))
    (nat_le (digits_value 10 text) 1000) h in
    let least = and_parts (list_all is_ascii_digit text && nat_lt 0 (length text) && nat_le (length text) 9) (nat_le 1 (digits_value 10 text)) ends.0 in
    (leb-true 1 (digits_value 10 text) least.1, leb-true (digits_value 10 text) 1000 ends.1)

tested : (b : Bool) (v n : ℕ) → (b ≡ true → IsWithin v) → option_map (λ items. bench items) (if b then Some v else None) ≡ Some (bench n) → IsWithin n
tested true v n within e =
    let same : Some v ≡ Some n = ap (option_map items_of) e in
    let number : v ≡ n = cc in
    subst IsWithin number (within refl)
tested false v n within e = cc

bench_is : (text : Text) (n : ℕ) (wires budgets : List Text) → bench_of text wires budgets ≡ Some (bench n) → IsWithin n
bench_is text n [] [] e = tested (is_number 1 1000 text) (digits_value 10 text) n (number_within text) e
bench_is text n [] (b ∷ budgets) e = cc
bench_is text n (w ∷ wires) budgets e = cc

by_command : (a b c : Bool) (operand : Text) (n : ℕ) (wires budgets : List Text)
    → (if a then run_of operand wires budgets else (if b then check_of operand wires budgets else (if c then bench_of operand wires budgets else None))) ≡ Some (bench n)
    → IsWithin n
by_command true b c operand n wires budgets e = absurd (run_is operand n (at_most_one wires) (option_and_then budget_given (at_most_one budgets)) e)
by_command false true c operand n wires budgets e = absurd (check_is operand n wires budgets e)
by_command false false true operand n wires budgets e = bench_is operand n wires budgets e
by_command false false false operand n wires budgets e = cc

by_words : (positional : List Text) (n : ℕ) (wires budgets : List Text) → commanded positional wires budgets ≡ Some (bench n) → IsWithin n
by_words [] n wires budgets e = cc
by_words (c ∷ []) n wires budgets e = cc
by_words (c ∷ operand ∷ []) n wires budgets e =
    by_command (bytes_eq c (codes "run")) (bytes_eq c (codes "check")) (bytes_eq c (codes "bench")) operand n wires budgets e
by_words (c ∷ operand ∷ x ∷ xs) n wires budgets e = cc

by_parts : (parts : Option Parts) (n : ℕ) → option_and_then (λ ps. commanded ps.positional ps.wires ps.budgets) parts ≡ Some (bench n) → IsWithin n
by_parts None n e = cc
by_parts (Some ps) n e = by_words ps.positional n ps.wires ps.budgets e

-- the words of a bench give from 1 to 1,000 items
pub bench_within : (words : List (List ℕ)) (items : ℕ) → IsBench words items → (1 ≤ items) × (items ≤ 1000)
bench_within words items is = by_parts (parts_from any words) items is
