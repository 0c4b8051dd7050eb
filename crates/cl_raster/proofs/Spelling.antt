-- The lines of operations, read and played.
use Rattle.std.proofs.Common.{◌≡◌, ℕ, ◌<◌, ◌^◌, ◌==◌, true, false, Some, List, [], ◌∷◌, ◌++◌, refl, sym, ◌∙◌, ap, append_assoc, append-nil, arith, All}
use Rattle.std.proofs.lemmas.Bool.Decides.{nat_tests}
use Rattle.std.proofs.lemmas.Fmt.{decimal_is_IsNumeral}
use Rattle.std.proofs.lemmas.Slice.Eq.{bytes_eq-Decides}
use Rattle.std.proofs.lemmas.Str.Parse.{digit_from_value}
use Rattle.std.proofs.lemmas.List.Elements.{All-tail}
use Rattle.std.specs.Fmt.{decimal}
use Rattle.std.specs.List.{AllByRecursion}
use Rattle.std.specs.Str.Parse.{AllDigits, digits_value}
use Rattle.cl_outside.specs.Device.{IsGlyph}
use Rattle.cl_outside.specs.Operations.{Op, clears, shows, may_stand, op_line}
use Rattle.cl_outside.specs.Play.{Playing, acted, behind, clear_in, number, op_of, played, span_in, when_spelled, with_byte, word}

-- ---- the words of a line

-- a byte is not this one
abbrev pub IsNot : (mark b : ℕ) → Type 0
IsNot mark b = (b == mark) ≡ false

digits_are_not : (mark : ℕ) → mark < 48 → (ds : List ℕ) → AllDigits 10 ds → AllByRecursion (IsNot mark) ds
digits_are_not mark low [] h = tt
digits_are_not mark low (d ∷ ds) h =
    let r = digit_from_value d h.0 in
    let other : (d == mark) ≡ false = grind (arith, nat_tests, r, low) in
    (other, digits_are_not mark low ds h.1)

pub decimal_is_not : (mark n : ℕ) → mark < 48 → n < 2 ^ 64 → AllByRecursion (IsNot mark) (decimal n)
decimal_is_not mark n low h = digits_are_not mark low (decimal n) (decimal_is_IsNumeral n h).0.1

pub word-front : (ds rest : List ℕ) → AllByRecursion (IsNot 32) ds → word (ds ++ 32 ∷ rest) ≡ ds
word-front [] rest h = refl
word-front (d ∷ ds) rest h = rw (h.0) (ap (λ l. d ∷ l) (word-front ds rest h.1))

pub behind-front : (ds rest : List ℕ) → AllByRecursion (IsNot 32) ds → behind (ds ++ 32 ∷ rest) ≡ rest
behind-front [] rest h = refl
behind-front (d ∷ ds) rest h = rw (h.0) (behind-front ds rest h.1)

pub word-all : (ds : List ℕ) → AllByRecursion (IsNot 32) ds → word ds ≡ ds
word-all [] h = refl
word-all (d ∷ ds) h = rw (h.0) (ap (λ l. d ∷ l) (word-all ds h.1))

pub number-decimal : (bytes : List ℕ) (n : ℕ) → n < 2 ^ 64 → word bytes ≡ decimal n → number bytes ≡ n
number-decimal bytes n h e = ap (digits_value 10) e ∙ (decimal_is_IsNumeral n h).1

-- ---- the operation of a line

clear_from : (a b : List ℕ) (w h : ℕ) → number a ≡ w → behind a ≡ b → number b ≡ h → clear_in a ≡ clears w h
clear_from a b w h p q r = cc (ap number q)

span_from : (a b c d : List ℕ) (x y ink : ℕ) → number a ≡ x → behind a ≡ b → number b ≡ y → behind b ≡ c → number c ≡ ink → behind c ≡ d
    → span_in a ≡ shows x y ink d
span_from a b c d x y ink p q r s t u =
    let e : behind (behind a) ≡ c = ap behind q ∙ s in
    cc (ap number q, ap number e, ap behind e)

spelled : (op : Op) → may_stand op ≡ true → when_spelled op (op_line op) ≡ Some op
spelled op h = rw (h, (bytes_eq-Decides (op_line op) (op_line op)).1 refl) refl

pub op_of-clear : (w h : ℕ) → w < 2 ^ 64 → h < 2 ^ 64 → may_stand (clears w h) ≡ true → op_of (op_line (clears w h)) ≡ Some (clears w h)
unfolding op_of
op_of-clear w h below_w below_h m =
    let a = decimal w ++ (32 ∷ decimal h) in
    let guess : clear_in a ≡ clears w h = clear_from a (decimal h) w h
    (number-decimal a w below_w (word-front (decimal w) (decimal h) (decimal_is_not 32 w (omega arith) below_w)))
    (behind-front (decimal w) (decimal h) (decimal_is_not 32 w (omega arith) below_w))
    (number-decimal (decimal h) h below_h (word-all (decimal h) (decimal_is_not 32 h (omega arith) below_h))) in
    ap (λ op. when_spelled op (op_line (clears w h))) guess ∙ spelled (clears w h) m

pub op_of-span : (x y ink : ℕ) (glyphs : List ℕ) → x < 2 ^ 64 → y < 2 ^ 64 → ink < 2 ^ 64 → may_stand (shows x y ink glyphs) ≡ true
    → op_of (op_line (shows x y ink glyphs)) ≡ Some (shows x y ink glyphs)
unfolding op_of
op_of-span x y ink glyphs below_x below_y below_ink m =
    let c = decimal ink ++ (32 ∷ glyphs) in
    let b = decimal y ++ (32 ∷ c) in
    let a = decimal x ++ (32 ∷ b) in
    let guess : span_in a ≡ shows x y ink glyphs = span_from a b c glyphs x y ink
    (number-decimal a x below_x (word-front (decimal x) b (decimal_is_not 32 x (omega arith) below_x)))
    (behind-front (decimal x) b (decimal_is_not 32 x (omega arith) below_x))
    (number-decimal b y below_y (word-front (decimal y) c (decimal_is_not 32 y (omega arith) below_y)))
    (behind-front (decimal y) c (decimal_is_not 32 y (omega arith) below_y))
    (number-decimal c ink below_ink (word-front (decimal ink) glyphs (decimal_is_not 32 ink (omega arith) below_ink)))
    (behind-front (decimal ink) glyphs (decimal_is_not 32 ink (omega arith) below_ink)) in
    ap (λ op. when_spelled op (op_line (shows x y ink glyphs))) guess ∙ spelled (shows x y ink glyphs) m

-- ---- bytes without a line feed

all_not-append : (mark : ℕ) (bs cs : List ℕ) → AllByRecursion (IsNot mark) bs → AllByRecursion (IsNot mark) cs → AllByRecursion (IsNot mark) (bs ++ cs)
all_not-append mark [] cs h k = k
all_not-append mark (b ∷ bs) cs h k = (h.0, all_not-append mark bs cs h.1 k)

no_feed-glyphs : (bs : List ℕ) → All IsGlyph bs → AllByRecursion (IsNot 10) bs
no_feed-glyphs [] h = tt
no_feed-glyphs (b ∷ bs) h =
    let glyph : IsGlyph b = h 0 0 (omega arith) in
    let feed : (b == 10) ≡ false = grind (arith, nat_tests, glyph) in
    (feed, no_feed-glyphs bs (All-tail IsGlyph b bs h))

pub no_feed-clear : (w h : ℕ) → w < 2 ^ 64 → h < 2 ^ 64 → AllByRecursion (IsNot 10) (op_line (clears w h))
no_feed-clear w h below_w below_h =
    (refl, (refl, all_not-append 10 (decimal w) (32 ∷ decimal h) (decimal_is_not 10 w (omega arith) below_w) (refl, decimal_is_not 10 h (omega arith) below_h)))

pub no_feed-span : (x y ink : ℕ) (glyphs : List ℕ) → x < 2 ^ 64 → y < 2 ^ 64 → ink < 2 ^ 64 → All IsGlyph glyphs
    → AllByRecursion (IsNot 10) (op_line (shows x y ink glyphs))
no_feed-span x y ink glyphs below_x below_y below_ink g = (
  refl,
  (
    refl,
    all_not-append 10 (decimal x) (32 ∷ (decimal y ++ (32 ∷ (decimal ink ++ (32 ∷ glyphs))))) (decimal_is_not 10 x (omega arith) below_x) (
      refl,
      all_not-append 10 (decimal y) (32 ∷ (decimal ink ++ (32 ∷ glyphs))) (decimal_is_not 10 y (omega arith) below_y)
          (refl, all_not-append 10 (decimal ink) (32 ∷ glyphs) (decimal_is_not 10 ink (omega arith) below_ink) (refl, no_feed-glyphs glyphs g)),
    ),
  ),
)

-- ---- bytes played one after another

pub played-append : (s : Playing) (bs cs : List ℕ) → played s (bs ++ cs) ≡ played (played s bs) cs
played-append s [] cs = refl
played-append s (b ∷ bs) cs = played-append (with_byte s b) bs cs

with_byte-other : (s : Playing) (b : ℕ) → IsNot 10 b → with_byte s b ≡ record { shown = s.shown; line = s.line ++ b ∷ [] }
with_byte-other s b h = rw h refl

-- they are added to the line
pub played-no_feed : (s : Playing) (bs : List ℕ) → AllByRecursion (IsNot 10) bs → played s bs ≡ record { shown = s.shown; line = s.line ++ bs }
played-no_feed s [] h = ap (λ (l : List ℕ). record { shown = s.shown; line = l }) (sym (append-nil s.line))
played-no_feed s (b ∷ bs) h =
    ap (λ t. played t bs) (with_byte-other s b h.0)
    ∙ (played-no_feed (record { shown = s.shown; line = s.line ++ b ∷ [] }) bs h.1
    ∙ ap (λ (l : List ℕ). record { shown = s.shown; line = l }) (append_assoc s.line (b ∷ []) bs))

-- a line from its first byte to the line feed
pub played-line : (s : Playing) (bs : List ℕ) → s.line ≡ [] → AllByRecursion (IsNot 10) bs
    → played s (bs ++ 10 ∷ []) ≡ record { shown = acted s.shown (op_of bs); line = [] }
played-line s bs e h =
    played-append s bs (10 ∷ [])
    ∙ (ap (λ t. played t (10 ∷ [])) (played-no_feed s bs h)
    ∙ ap (λ (l : List ℕ). record { shown = acted s.shown (op_of l); line = [] }) (ap (λ l. l ++ bs) e))
