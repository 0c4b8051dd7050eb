-- A press that is read is what was sent.
use Rattle.std.proofs.Common.{◌≡◌, ℕ, ◌+◌, ◌-◌, ◌<◌, ◌≤◌, ◌==◌, ◌&&◌, Bool, true, false, cond, nat_le, List, [], ◌∷◌, ◌++◌, get_or, take, drop, Some, None, refl, sym, ap, subst, ◌∙◌, arith, append_assoc}
use Rattle.std.specs.Prelude.{position}
use Rattle.std.specs.Str.Parse.{digits_value}
use Rattle.std.proofs.lemmas.Bool.{and_parts, eqb-true, leb-true}
use Rattle.std.proofs.lemmas.List.{take_more, take-append-drop}
use Rattle.std.proofs.lemmas.List.Quantifiers.{position-Some}
use Rattle.std.proofs.lemmas.Option.{option_and_then_some, same_Some}
use Rattle.cl_keys.specs.declared.keys.Button.{Button}
use Rattle.cl_keys.specs.declared.keys.Button.TheVariants as button
use Rattle.cl_keys.specs.declared.keys.Press.{Press}
use Rattle.cl_keys.specs.Reports.{button_of, coordinate_of, from_zero, is_number, is_semicolon, press_in, press_of}
use Rattle.cl_keys.specs.Spelling.{SpellsPress, WritesNumber, digit_of}
use Rattle.cl_keys.proofs.Numbers.{are_digits, number_parts}

-- ---- the parts of a report

button-by : (code : ℕ) (b : Button) (l m r : Bool) → (code == 48) ≡ l → (code == 49) ≡ m → (code == 50) ≡ r
    → cond l (Some button.Left) (cond m (Some button.Middle) (cond r (Some button.Right) None)) ≡ Some b → code ≡ digit_of b
button-by code b true m r left middle right h = eqb-true code 48 left ∙ ap digit_of (same_Some button.Left b h)
button-by code b false true r left middle right h = eqb-true code 49 middle ∙ ap digit_of (same_Some button.Middle b h)
button-by code b false false true left middle right h = eqb-true code 50 right ∙ ap digit_of (same_Some button.Right b h)
button-by code b false false false left middle right h = absurd (cc)

button-sent : (code : ℕ) (b : Button) → button_of code ≡ Some b → code ≡ digit_of b
button-sent code b h = button-by code b (code == 48) (code == 49) (code == 50) refl refl refl h

-- digits that write a place, counted from 1
abbrev pub Writes : List ℕ → ℕ → Type 0
Writes digits n = WritesNumber digits (n + 1) × (n < 65535)

from-zero-by : (v n : ℕ) (within : Bool) → (nat_le 1 v && nat_le v 65535) ≡ within
    → cond within (Some (v - 1)) None ≡ Some n → (n + 1 ≡ v) × (n < 65535)
from-zero-by v n true within h =
    let parts = and_parts (nat_le 1 v) (nat_le v 65535) within in
    let low : 1 ≤ v = leb-true 1 v parts.0 in let high : v ≤ 65535 = leb-true v 65535 parts.1 in
    let same : v - 1 ≡ n = same_Some (v - 1) n h in
    (omega (arith, low, same), omega (arith, low, high, same))
from-zero-by v n false within h = absurd (cc)

coordinate-by : (digits : List ℕ) (n : ℕ) (number : Bool) → is_number digits ≡ number
    → cond number (from_zero (digits_value 10 digits)) None ≡ Some n → Writes digits n
coordinate-by digits n true number h =
    let v = digits_value 10 digits in let parts = number_parts digits number in
    let value = from-zero-by v n (nat_le 1 v && nat_le v 65535) refl h in
    (record { some = parts.0; few = parts.1; decimal = are_digits digits parts.2; value = value.0 }, value.1)
coordinate-by digits n false number h = absurd (cc)

coordinate-sent : (digits : List ℕ) (n : ℕ) → coordinate_of digits ≡ Some n → Writes digits n
coordinate-sent digits n h = coordinate-by digits n (is_number digits) refl h

semicolon-sent : (place : List ℕ) (at : ℕ) → position is_semicolon place ≡ Some at → place ≡ take at place ++ 59 ∷ drop (at + 1) place
semicolon-sent place at h =
    let found = position-Some is_semicolon place at 0 h in
    let semicolon : get_or place at 0 ≡ 59 = eqb-true (get_or place at 0) 59 found.1 in
    let front : take (at + 1) place ≡ take at place ++ 59 ∷ [] = take_more place at 0 found.0 ∙ ap (λ b. take at place ++ b ∷ []) semicolon in
    sym (take-append-drop (at + 1) place) ∙ ap (λ l. l ++ drop (at + 1) place) front ∙ append_assoc (take at place) (59 ∷ []) (drop (at + 1) place)

-- ---- the whole report

-- how a press was written
pub record Written (p : Press) (code : ℕ) (place : List ℕ) : Type 0 where
  pub x : List ℕ
  pub y : List ℕ
  pub pressed : code ≡ digit_of p.button
  pub spot : place ≡ x ++ 59 ∷ y
  pub column : Writes x p.column
  pub row : Writes y p.row

abbrev pub press : Button → (column row : ℕ) → Press
press b column row = record { button = b; column = column; row = row }

written : (code : ℕ) (place : List ℕ) (p : Press) → press_of code place ≡ Some p → Written p code place
written code place p h =
    option_and_then_some _ (button_of code) p h λ b is_button behind_button.
    option_and_then_some _ (position is_semicolon place) p behind_button λ at is_at behind_at.
    option_and_then_some _ (coordinate_of (take at place)) p behind_at λ column is_column behind_column.
    option_and_then_some _ (coordinate_of (drop (at + 1) place)) p behind_column λ row is_row last.
    let so : Written (press b column row) code place = record {
      x = take at place;
      y = drop (at + 1) place;
      pressed = button-sent code b is_button;
      spot = semicolon-sent place at is_at;
      column = coordinate-sent (take at place) column is_column;
      row = coordinate-sent (drop (at + 1) place) row is_row;
    } in
    subst (λ q. Written q code place) (same_Some (press b column row) p last) so

spells : (p : Press) (code : ℕ) (place : List ℕ) → Written p code place → SpellsPress p (27 ∷ 91 ∷ 60 ∷ code ∷ 59 ∷ (place ++ 77 ∷ []))
spells p code place w = record {
  x = w.x;
  y = w.y;
  spelled = ap (λ c. 27 ∷ 91 ∷ 60 ∷ c ∷ 59 ∷ (place ++ 77 ∷ [])) w.pressed
      ∙ ap (λ l. 27 ∷ 91 ∷ 60 ∷ digit_of p.button ∷ 59 ∷ l) (ap (λ l. l ++ 77 ∷ []) w.spot ∙ append_assoc w.x (59 ∷ w.y) (77 ∷ []));
  column = w.column.0;
  row = w.row.0;
  within = (w.column.1, w.row.1);
}

report-by : (a code b : ℕ) (place : List ℕ) (p : Press) (marked : Bool) → ((a == 60) && (b == 59)) ≡ marked → cond marked (press_of code place) None ≡ Some p
    → SpellsPress p (27 ∷ 91 ∷ a ∷ code ∷ b ∷ (place ++ 77 ∷ []))
report-by a code b place p true marked h =
    let parts = and_parts (a == 60) (b == 59) marked in
    let first : 60 ≡ a = sym (eqb-true a 60 parts.0) in let third : 59 ≡ b = sym (eqb-true b 59 parts.1) in
    let P : ℕ → Type 0 = λ n. SpellsPress p (27 ∷ 91 ∷ n ∷ code ∷ b ∷ (place ++ 77 ∷ [])) in
    let Q : ℕ → Type 0 = λ n. SpellsPress p (27 ∷ 91 ∷ 60 ∷ code ∷ n ∷ (place ++ 77 ∷ [])) in
    subst P first (subst Q third (spells p code place (written code place p h)))
report-by a code b place p false marked h = absurd (cc)

pub press-sent : (kept : List ℕ) (p : Press) → press_in kept ≡ Some p → SpellsPress p (27 ∷ 91 ∷ (kept ++ 77 ∷ []))
press-sent [] p h = absurd (cc)
press-sent (a ∷ []) p h = absurd (cc)
press-sent (a ∷ code ∷ []) p h = absurd (cc)
press-sent (a ∷ code ∷ b ∷ place) p h = report-by a code b place p ((a == 60) && (b == 59)) refl h
