-- How a terminal reads the sequences of a span.
use Rattle.std.proofs.Common.{◌≡◌, ℕ, ◌+◌, ◌<◌, ◌≤◌, ◌^◌, false, true, None, Some, List, [], ◌∷◌, ◌++◌, All}
use Rattle.std.proofs.Common.{refl, sym, ◌∙◌, ap, append_assoc, append-nil, arith}
use Rattle.std.proofs.lemmas.Bool.Decides.{nat_tests}
use Rattle.std.proofs.lemmas.Fmt.{decimal_is_IsNumeral}
use Rattle.std.proofs.lemmas.List.Elements.{All-tail}
use Rattle.std.proofs.lemmas.Str.Parse.{digit_from_value}
use Rattle.std.specs.Fmt.{decimal}
use Rattle.std.specs.List.{AllByRecursion}
use Rattle.std.specs.Prelude.{◌==◌, nat_le}
use Rattle.std.specs.Str.Parse.{AllDigits, digits_value}
use Rattle.cl_outside.specs.Device.{IsGlyph}
use Rattle.cl_ansi.specs.Screen.{Screen, acted, first, ink_in, place_in, put, second, shown, with_byte}
use Rattle.cl_ansi.specs.Sequences.{colour, ink_bytes, move_bytes, reset_bytes, span_bytes}
use Rattle.cl_ansi.proofs.Glyphs.{putting}

-- ---- parameters

-- a digit or a semicolon
abbrev IsParameter : ℕ → Type 0
IsParameter b = ((b == 27) ≡ false) × (nat_le 64 b ≡ false)

-- and no semicolon
abbrev IsDigit : ℕ → Type 0
IsDigit b = ((b == 59) ≡ false) × IsParameter b

digits_are : (ds : List ℕ) → AllDigits 10 ds → AllByRecursion IsDigit ds
digits_are [] h = tt
digits_are (d ∷ ds) h =
    let r = digit_from_value d h.0 in
    let a : (d == 59) ≡ false = grind (arith, nat_tests, r) in
    let b : (d == 27) ≡ false = grind (arith, nat_tests, r) in
    let c : nat_le 64 d ≡ false = grind (arith, nat_tests, r) in
    ((a, (b, c)), digits_are ds h.1)

decimal_is : (n : ℕ) → n < 2 ^ 64 → AllByRecursion IsDigit (decimal n)
decimal_is n h = digits_are (decimal n) (decimal_is_IsNumeral n h).0.1

value_is : (n : ℕ) → n < 2 ^ 64 → digits_value 10 (decimal n) ≡ n
value_is n h = (decimal_is_IsNumeral n h).1

parameters_are : (ds more : List ℕ) → AllByRecursion IsDigit ds → AllByRecursion IsParameter more → AllByRecursion IsParameter (ds ++ more)
parameters_are [] more h k = k
parameters_are (d ∷ ds) more h k = (h.0.1, parameters_are ds more h.1 k)

all_parameters : (ds : List ℕ) → AllByRecursion IsDigit ds → AllByRecursion IsParameter ds
all_parameters [] h = tt
all_parameters (d ∷ ds) h = (h.0.1, all_parameters ds h.1)

first_is : (ds more : List ℕ) → AllByRecursion IsDigit ds → first (ds ++ 59 ∷ more) ≡ ds
first_is [] more h = refl
first_is (d ∷ ds) more h = rw (h.0.0) (ap (λ l. d ∷ l) (first_is ds more h.1))

second_is : (ds more : List ℕ) → AllByRecursion IsDigit ds → second (ds ++ 59 ∷ more) ≡ more
second_is [] more h = refl
second_is (d ∷ ds) more h = rw (h.0.0) (second_is ds more h.1)

-- ---- a sequence

-- behind the introducer and these parameters
abbrev waiting : Screen → List ℕ → Screen
waiting s parameters = record s { sequence = Some (91 ∷ parameters) }

parameter_waits : (s : Screen) (before : List ℕ) (b : ℕ) → IsParameter b → with_byte (waiting s before) b ≡ waiting s (before ++ b ∷ [])
parameter_waits s before b h = rw (h.0, h.1) refl

parameters_wait : (s : Screen) (before bs rest : List ℕ) → AllByRecursion IsParameter bs
    → shown (waiting s before) (bs ++ rest) ≡ shown (waiting s (before ++ bs)) rest
parameters_wait s before [] rest h = ap (λ l. shown (waiting s l) rest) (sym (append-nil before))
parameters_wait s before (b ∷ bs) rest h =
    ap (λ q. shown q (bs ++ rest)) (parameter_waits s before b h.0)
    ∙ (parameters_wait s (before ++ b ∷ []) bs rest h.1 ∙ ap (λ l. shown (waiting s l) rest) (append_assoc before (b ∷ []) bs))

final_acts : (s : Screen) (bs : List ℕ) (final : ℕ) → (final == 27) ≡ false → nat_le 64 final ≡ true
    → with_byte (waiting s bs) final ≡ acted (waiting s bs) bs final
final_acts s bs final other ends = rw (other, ends) refl

sequence_acts : (s : Screen) (bs : List ℕ) (final : ℕ) (rest : List ℕ) → AllByRecursion IsParameter bs → (final == 27) ≡ false → nat_le 64 final ≡ true
    → shown s (27 ∷ 91 ∷ (bs ++ final ∷ rest)) ≡ shown (acted (waiting s bs) bs final) rest
sequence_acts s bs final rest h other ends = parameters_wait s [] bs (final ∷ rest) h ∙ ap (λ q. shown q rest) (final_acts s bs final other ends)

-- a column or a row
place_is : (n : ℕ) → n + 1 < 2 ^ 64 → place_in (decimal (n + 1)) ≡ n
place_is n h = omega (arith, value_is (n + 1) h)

-- the cursor moves
pub moved : (s : Screen) (x y : ℕ) (rest : List ℕ) → x < 2 ^ 16 → y < 2 ^ 16
    → shown s (move_bytes x y ++ rest) ≡ shown (record s { column = x; row = y; sequence = None }) rest
moved s x y rest below_x below_y =
    let x_fits : x + 1 < 2 ^ 64 = omega (arith, below_x) in
    let y_fits : y + 1 < 2 ^ 64 = omega (arith, below_y) in
    let column = decimal (x + 1) in
    let row = decimal (y + 1) in
    let column_is : AllByRecursion IsDigit column = decimal_is (x + 1) x_fits in
    let row_is : AllByRecursion IsDigit row = decimal_is (y + 1) y_fits in
    let both : AllByRecursion IsParameter (row ++ 59 ∷ column) = parameters_are row (59 ∷ column) row_is ((refl, refl), all_parameters column column_is) in
    let grouped : move_bytes x y ++ rest ≡ 27 ∷ 91 ∷ ((row ++ 59 ∷ column) ++ 72 ∷ rest) = simp append_assoc in
    let column_at : place_in (second (row ++ 59 ∷ column)) ≡ x = ap place_in (second_is row column row_is) ∙ place_is x x_fits in
    let row_at : place_in (first (row ++ 59 ∷ column)) ≡ y = ap place_in (first_is row column row_is) ∙ place_is y y_fits in
    ap (shown s) grouped ∙ sequence_acts s (row ++ 59 ∷ column) 72 rest both refl refl
    ∙ ap (λ (n : ℕ). shown (record s { column = n; row = place_in (first (row ++ 59 ∷ column)); sequence = None }) rest) column_at
    ∙ ap (λ (n : ℕ). shown (record s { column = x; row = n; sequence = None }) rest) row_at

-- the ink changes
ink_is : (ink : ℕ) → ink ≤ 7 → ink_in (colour ink) ≡ ink
ink_is ink few = grind (arith, nat_tests)

colour_fits : (ink : ℕ) → ink ≤ 7 → colour ink < 2 ^ 64
colour_fits ink few = grind (arith, nat_tests)

pub coloured : (s : Screen) (ink : ℕ) (rest : List ℕ) → ink ≤ 7 → shown s (ink_bytes ink ++ rest) ≡ shown (record s { ink = ink; sequence = None }) rest
coloured s ink rest few =
    let digits = decimal (colour ink) in
    let fits = colour_fits ink few in
    let grouped : ink_bytes ink ++ rest ≡ 27 ∷ 91 ∷ (digits ++ 109 ∷ rest) = simp append_assoc in
    let ink_at : ink_in (digits_value 10 digits) ≡ ink = ap ink_in (value_is (colour ink) fits) ∙ ink_is ink few in
    ap (shown s) grouped ∙ sequence_acts s digits 109 rest (all_parameters digits (decimal_is (colour ink) fits)) refl refl
    ∙ ap (λ (n : ℕ). shown (record s { ink = n; sequence = None }) rest) ink_at

-- ---- glyphs

-- no sequence is begun
abbrev pub ready : Screen → Screen
ready s = record s { sequence = None }

glyph_stands : (s : Screen) (glyph : ℕ) → IsGlyph glyph → with_byte (ready s) glyph ≡ ready (put s glyph)
glyph_stands s glyph is =
    let other : (glyph == 27) ≡ false = grind (arith, nat_tests, is) in
    let stands : nat_le 32 glyph ≡ true = grind (arith, nat_tests, is) in
    rw (other, stands) refl

pub glyphs_stand : (s : Screen) (glyphs rest : List ℕ) → All IsGlyph glyphs → shown (ready s) (glyphs ++ rest) ≡ shown (ready (putting s glyphs)) rest
glyphs_stand s [] rest h = refl
glyphs_stand s (glyph ∷ glyphs) rest h =
    ap (λ q. shown q (glyphs ++ rest)) (glyph_stands s glyph (h 0 0 (omega arith)))
    ∙ glyphs_stand (put s glyph) glyphs rest (All-tail IsGlyph glyph glyphs h)

-- ---- a span

-- where its glyphs begin
abbrev pub begun : Screen → (x y ink : ℕ) → Screen
begun s x y ink = record s { column = x; row = y; ink = ink }

pub span_shown : (s : Screen) (x y ink : ℕ) (glyphs : List ℕ) → x < 2 ^ 16 → y < 2 ^ 16 → ink ≤ 7 → All IsGlyph glyphs
    → shown s (span_bytes x y ink glyphs) ≡ record (putting (begun s x y ink) glyphs) { ink = 0; sequence = None }
span_shown s x y ink glyphs below_x below_y few are =
    moved s x y (ink_bytes ink ++ (glyphs ++ reset_bytes)) below_x below_y
    ∙ coloured (record s { column = x; row = y; sequence = None }) ink (glyphs ++ reset_bytes) few
    ∙ glyphs_stand (begun s x y ink) glyphs reset_bytes are
