-- The lines of the gestures are what a reader cuts their text into.
use Rattle.std.proofs.Common.{◌≡◌, ◌≢◌, ◌≤◌, ◌+◌, ◌*◌, ◌/◌, ◌%◌, ◌==◌, ℕ, zero, suc, Bool, true, false, not, if◌then◌else◌, nat_lt, List, [], ◌∷◌, ◌++◌, length, map, codes, All, append_assoc, append-nil, length-append, refl, sym, ap, ◌∙◌, arith}
use Rattle.std.specs.Fmt.{decimal, digits, digits_onto, digit_glyph}
use Rattle.std.specs.List.{flat_map, list_all}
use Rattle.std.proofs.lemmas.Bool.{and_parts, eq-eqb}
use Rattle.std.proofs.lemmas.List.{length-map}
use Rattle.std.proofs.lemmas.List.Elements.{All-append, All-cons, All-map, All-nil}
use Rattle.cl_gesture.specs.Lines.{line, ended, pieces, held_from, last_line, bytes_of, IsNoFeed, IsPiece}
use Rattle.cl_gesture.proofs.Cutting.{is_the_only_cut}
use Rattle.cl_gen.specs.Workload.{joined, set_lines, sets_to, front_lines, gesture_lines, gestures_text}

-- at most so many bytes, and no line feed among them
abbrev IsShort : ℕ → List ℕ → Type 0
IsShort most bytes = (length bytes ≤ most) × All IsNoFeed bytes

abbrev IsLine : List ℕ → Type 0
IsLine bytes = IsPiece (line bytes)

-- ---- a number has at most 64 digits, and none is a line feed

glyph-by : (low : Bool) (digit : ℕ) → (if low then 48 + digit else 87 + digit) ≢ 10
glyph-by true digit same = omega (arith, same)
glyph-by false digit same = omega (arith, same)

digits-by : (last : Bool) (most : ℕ) (here more : List ℕ) → IsShort most here → IsShort most more
    → IsShort most (if last then here else more)
digits-by true most here more short others = short
digits-by false most here more short others = others

digits-short : (k n : ℕ) (behind : List ℕ) → All IsNoFeed behind → IsShort (k + length behind) (digits_onto k 10 false n behind)
digits-short zero n behind none = (omega arith, none)
digits-short (suc k) n behind none =
    let glyph = digit_glyph false (n % 10) in let here = glyph ∷ behind in
    let all : All IsNoFeed here = All-cons IsNoFeed glyph behind (glyph-by (nat_lt (n % 10) 10) (n % 10)) none in
    let more = digits-short k (n / 10) here all in
    digits-by (n / 10 == 0) (suc k + length behind) here (digits_onto k 10 false (n / 10) here) (omega arith, all)
    (omega (arith, more.0), more.1)

decimal-short : (n : ℕ) → IsShort 64 (decimal n)
unfolding digits
decimal-short n = digits-short 64 n [] (All-nil IsNoFeed)

-- ---- each line is a piece

not_feed : (byte : ℕ) → not (byte == 10) ≡ true → IsNoFeed byte
not_feed byte h same = absurd (let e : (byte == 10) ≡ true = eq-eqb byte 10 same in cc)

plain : (bytes : List ℕ) → list_all (λ byte. not (byte == 10)) bytes ≡ true → All IsNoFeed bytes
plain [] h = All-nil IsNoFeed
plain (byte ∷ bytes) h =
    let parts = and_parts (not (byte == 10)) (list_all (λ b. not (b == 10)) bytes) h in
    All-cons IsNoFeed byte bytes (not_feed byte parts.0) (plain bytes parts.1)

two-lines : (a b : List ℕ) → IsLine a → IsLine b → All IsLine (a ∷ b ∷ [])
two-lines a b first second = All-cons IsLine a (b ∷ []) first (All-cons IsLine b [] second (All-nil IsLine))

return-line : IsLine (codes "return")
return-line = (omega arith, plain (codes "return") refl)

set-pieces : (key : ℕ) → All IsLine (set_lines key)
set-pieces key =
    let before = codes "type Set " in let behind = codes " b" in let number = decimal-short key in
    two-lines (before ++ (decimal key ++ behind)) (codes "return") (
      omega (arith, number.0, length-append (decimal key) behind),
      All-append IsNoFeed before (decimal key ++ behind) (plain before refl)
          (All-append IsNoFeed (decimal key) behind number.1 (plain behind refl)),
    ) return-line

sets-pieces : (n : ℕ) → All IsLine (sets_to n)
sets-pieces zero = All-nil IsLine
sets-pieces (suc n) = All-append IsLine (sets_to n) (set_lines (suc n)) (sets-pieces n) (set-pieces (suc n))

gesture-pieces : (n : ℕ) → All IsLine (gesture_lines n)
gesture-pieces n =
    let front = codes "type Front 0 z" in
    All-append IsLine (sets_to n) front_lines (sets-pieces n) (two-lines front (codes "return") (omega arith, plain front refl) return-line)

-- ---- the text is cut into them

joined-bytes : (lines : List (List ℕ)) → flat_map bytes_of (map line lines) ≡ joined lines
joined-bytes [] = refl
joined-bytes (first ∷ lines) =
    append_assoc first (10 ∷ []) (flat_map bytes_of (map line lines)) ∙ ap (λ rest. first ++ (10 ∷ rest)) (joined-bytes lines)

lines-cut : (lines : List (List ℕ)) → All IsLine lines → (ended (joined lines) ≡ map line lines) × (held_from [] (joined lines) ≡ [])
lines-cut lines ok =
    let text = joined lines in
    let same : flat_map bytes_of (map line lines) ++ [] ≡ text = append-nil (flat_map bytes_of (map line lines)) ∙ joined-bytes lines in
    let cut = is_the_only_cut (map line lines) [] (All-map IsPiece line lines ok) (omega arith, All-nil IsNoFeed) in
    (ap ended (sym same) ∙ cut.0, ap (held_from []) (sym same) ∙ cut.1)

pub are_ended : (n : ℕ) → held_from [] (gestures_text n) ≡ []
unfolding gestures_text
are_ended n = (lines-cut (gesture_lines n) (gesture-pieces n)).1

pub are_lines : (n : ℕ) → pieces (gestures_text n) ≡ map line (gesture_lines n)
unfolding gestures_text
are_lines n =
    let cut = lines-cut (gesture_lines n) (gesture-pieces n) in
    ap (λ ps. ps ++ last_line (held_from [] (gestures_text n))) cut.0 ∙ ap (λ held. map line (gesture_lines n) ++ last_line held) cut.1
    ∙ append-nil (map line (gesture_lines n))

sets-counted : (n : ℕ) → length (sets_to n) ≡ 2 * n
sets-counted zero = refl
sets-counted (suc n) = omega (arith, length-append (sets_to n) (set_lines (suc n)), sets-counted n)

pub are_counted : (n : ℕ) → length (pieces (gestures_text n)) ≡ 2 * n + 2
are_counted n =
    ap length (are_lines n) ∙ length-map (gesture_lines n) line ∙ length-append (sets_to n) front_lines ∙ ap (λ k. k + 2) (sets-counted n)
