-- What is sent for a press makes this press.
use Rattle.std.proofs.Common.{◌≡◌, ℕ, ◌+◌, ◌<◌, ◌≤◌, Bool, true, false, not, cond, suc, nat_le, nat_lt, List, [], ◌∷◌, ◌++◌, length, Option, Some, None, All, refl, sym, ap, ◌∙◌, arith, append_assoc, append-nil, length-append}
use Rattle.std.specs.Prelude.{option_map, position}
use Rattle.std.specs.List.{position_or_len}
use Rattle.std.proofs.Math.Seq.{take-append_seam, drop-append-add}
use Rattle.std.proofs.lemmas.Bool.{le-leb, ne_eqb}
use Rattle.std.proofs.lemmas.Bool.Decides.{nat_tests}
use Rattle.std.proofs.lemmas.List.Elements.{All-append, All-cons, All-head, All-tail, All-weaker}
use Rattle.cl_keys.specs.declared.keys.Button.{Button}
use Rattle.cl_keys.specs.declared.keys.Button.TheVariants as button
use Rattle.cl_keys.specs.declared.keys.Key.TheVariants as key
use Rattle.cl_keys.specs.declared.keys.Press.{Press}
use Rattle.cl_keys.specs.Decoding.{Step, at_rest, before_keys, collecting, is_part, keys_from, keys_of, state_after, step}
use Rattle.cl_keys.specs.Reports.{button_of, coordinate_of, from_zero, is_semicolon, press_in, press_of}
use Rattle.cl_keys.specs.Spelling.{IsDigit, IsPart, SpellsPress, WritesNumber, digit_of}
use Rattle.cl_keys.proofs.Cutting.{keys-append, state-append}
use Rattle.cl_keys.proofs.Numbers.{is_number-yes}

-- ---- a control sequence is kept

part-kept : (kept : List ℕ) (b : ℕ) → IsPart b → length kept < 16 → step (collecting kept) b ≡ record { state = collecting (kept ++ b ∷ []); key = None }
part-kept kept b part room =
    let within : is_part b ≡ true = grind (arith, nat_tests) in
    let fits : nat_lt (length kept) 16 ≡ true = grind (arith, nat_tests) in
    rw (within, fits) refl

pub keeps-keys : (kept xs : List ℕ) → All IsPart xs → length kept + length xs ≤ 16 → keys_from (collecting kept) xs ≡ []
keeps-keys kept [] h room = refl
keeps-keys kept (x ∷ xs) h room =
    let next = part-kept kept x (All-head IsPart x xs h) (omega arith) in
    let more : length (kept ++ x ∷ []) + length xs ≤ 16 = omega (arith, length-append kept (x ∷ [])) in
    ap (λ (n : Step). before_keys n.key (keys_from n.state xs)) next ∙ keeps-keys (kept ++ x ∷ []) xs (All-tail IsPart x xs h) more

pub keeps-state : (kept xs : List ℕ) → All IsPart xs → length kept + length xs ≤ 16 → state_after (collecting kept) xs ≡ collecting (kept ++ xs)
keeps-state kept [] h room = ap collecting (sym (append-nil kept))
keeps-state kept (x ∷ xs) h room =
    let next = part-kept kept x (All-head IsPart x xs h) (omega arith) in
    let more : length (kept ++ x ∷ []) + length xs ≤ 16 = omega (arith, length-append kept (x ∷ [])) in
    ap (λ (n : Step). state_after n.state xs) next
    ∙ (keeps-state (kept ++ x ∷ []) xs (All-tail IsPart x xs h) more ∙ ap collecting (append_assoc kept (x ∷ []) xs))

-- ---- the report is read

coordinate-read : (digits : List ℕ) (n : ℕ) → WritesNumber digits (n + 1) → n < 65535 → coordinate_of digits ≡ Some n
coordinate-read digits n h within =
    let number = is_number-yes digits h.some h.few h.decimal in
    let low : nat_le 1 (n + 1) ≡ true = grind (arith, nat_tests) in
    let high : nat_le (n + 1) 65535 ≡ true = grind (arith, nat_tests) in
    let same : from_zero (n + 1) ≡ Some n = rw (low, high) (ap Some (omega arith)) in
    rw number (ap from_zero (sym h.value) ∙ same)

place-by : (semicolon : Bool) (k n : ℕ) → semicolon ≡ false → k ≡ n → cond (not semicolon) (1 + k) 0 ≡ suc n
place-by true k n here rest = absurd (cc)
place-by false k n here rest = omega (arith, rest)

semicolon-place : (xs ys : List ℕ) → All IsDigit xs → position_or_len is_semicolon (xs ++ 59 ∷ ys) ≡ length xs
semicolon-place [] ys h = refl
semicolon-place (x ∷ xs) ys h =
    let digit = All-head IsDigit x xs h in
    let other = ne_eqb x 59 (λ e. omega (arith, e, digit)) in
    place-by (is_semicolon x) (position_or_len is_semicolon (xs ++ 59 ∷ ys)) (length xs) other (semicolon-place xs ys (All-tail IsDigit x xs h))

semicolon-at : (xs ys : List ℕ) → All IsDigit xs → position is_semicolon (xs ++ 59 ∷ ys) ≡ Some (length xs)
semicolon-at xs ys h =
    let place = semicolon-place xs ys h in
    let within : nat_lt (length xs) (length (xs ++ 59 ∷ ys)) ≡ true =
    le-leb (suc (length xs)) (length (xs ++ 59 ∷ ys)) (omega (arith, length-append xs (59 ∷ ys))) in
    rw (place, within) refl

button-read : (b : Button) → button_of (digit_of b) ≡ Some b
button-read button.Left = refl
button-read button.Middle = refl
button-read button.Right = refl

-- the digits of a place
abbrev pub place_of : (x y : List ℕ) → List ℕ
place_of x y = x ++ 59 ∷ y

press-read : (p : Press) (x y : List ℕ) → WritesNumber x (p.column + 1) → WritesNumber y (p.row + 1) → p.column < 65535 → p.row < 65535
    → press_of (digit_of p.button) (place_of x y) ≡ Some p
press-read p x y column row left top =
    let front = take-append_seam x (59 ∷ y) in
    let behind = drop-append-add x (59 ∷ y) 1 in
    rw (button-read p.button, semicolon-at x y column.decimal, front, behind, coordinate-read x p.column column left, coordinate-read y p.row row top) refl

-- ---- the whole sequence

digit-part : (b : Button) → IsPart (digit_of b)
digit-part button.Left = (omega arith, omega arith)
digit-part button.Middle = (omega arith, omega arith)
digit-part button.Right = (omega arith, omega arith)

digits-parts : (xs : List ℕ) → All IsDigit xs → All IsPart xs
digits-parts xs h = All-weaker IsDigit IsPart (λ b digit. (omega (arith, digit), omega (arith, digit))) xs h

-- what stands between the bracket and the `M`
abbrev pub report_of : Button → (x y : List ℕ) → List ℕ
report_of b x y = 60 ∷ digit_of b ∷ 59 ∷ place_of x y

report-parts : (b : Button) (x y : List ℕ) → All IsDigit x → All IsDigit y → All IsPart (report_of b x y)
report-parts b x y column row =
    let behind = All-cons IsPart 59 y (omega arith, omega arith) (digits-parts y row) in
    let place = All-append IsPart x (59 ∷ y) (digits-parts x column) behind in
    let semicolon = All-cons IsPart 59 (place_of x y) (omega arith, omega arith) place in
    All-cons IsPart 60 (digit_of b ∷ 59 ∷ place_of x y) (omega arith, omega arith)
    (All-cons IsPart (digit_of b) (59 ∷ place_of x y) (digit-part b) semicolon)

report-short : (b : Button) (x y : List ℕ) → length x ≤ 5 → length y ≤ 5 → length (report_of b x y) ≤ 16
report-short b x y column row = omega (arith, length-append x (59 ∷ y))

-- a control sequence of few enough bytes that an `M` ends
ended-keys : (kept : List ℕ) → All IsPart kept → length kept ≤ 16
    → keys_of (27 ∷ 91 ∷ (kept ++ 77 ∷ [])) ≡ before_keys (option_map key.Press (press_in kept)) []
ended-keys kept h room =
    keys-append (collecting []) kept (77 ∷ [])
    ∙ (ap (λ ks. ks ++ keys_from (state_after (collecting []) kept) (77 ∷ [])) (keeps-keys [] kept h (omega arith))
    ∙ ap (λ s. keys_from s (77 ∷ [])) (keeps-state [] kept h (omega arith)))

ended-state : (kept : List ℕ) → All IsPart kept → length kept ≤ 16 → state_after at_rest (27 ∷ 91 ∷ (kept ++ 77 ∷ [])) ≡ at_rest
ended-state kept h room = state-append (collecting []) kept (77 ∷ []) ∙ ap (λ s. state_after s (77 ∷ [])) (keeps-state [] kept h (omega arith))

spelled-so : (p : Press) (bytes : List ℕ) → (h : SpellsPress p bytes) → bytes ≡ 27 ∷ 91 ∷ (report_of p.button h.x h.y ++ 77 ∷ [])
spelled-so p bytes h = h.spelled ∙ ap (λ l. 27 ∷ 91 ∷ 60 ∷ digit_of p.button ∷ 59 ∷ l) (sym (append_assoc h.x (59 ∷ h.y) (77 ∷ [])))

pub press-keys : (p : Press) (bytes : List ℕ) → SpellsPress p bytes → keys_of bytes ≡ key.Press p ∷ []
press-keys p bytes h =
    let parts = report-parts p.button h.x h.y h.column.decimal h.row.decimal in
    let short = report-short p.button h.x h.y h.column.few h.row.few in
    ap keys_of (spelled-so p bytes h)
    ∙ (ended-keys (report_of p.button h.x h.y) parts short
    ∙ ap (λ (o : Option Press). before_keys (option_map key.Press o) []) (press-read p h.x h.y h.column h.row h.within.0 h.within.1))

pub press-state : (p : Press) (bytes : List ℕ) → SpellsPress p bytes → state_after at_rest bytes ≡ at_rest
press-state p bytes h =
    let parts = report-parts p.button h.x h.y h.column.decimal h.row.decimal in
    let short = report-short p.button h.x h.y h.column.few h.row.few in
    ap (state_after at_rest) (spelled-so p bytes h) ∙ ended-state (report_of p.button h.x h.y) parts short
