-- Which operation the bytes of a line spell, by the numbers that they begin with.
use Rattle.std.proofs.Common.{◌≡◌, ◌≢◌, ◌⊎◌, inl, inr, ℕ, suc, ◌+◌, ◌-◌, ◌<◌, ◌≤◌, ◌^◌, ◌==◌, ◌&&◌, Bool, true, false, Option, None, Some, Ok, Err, List, [], ◌∷◌, ◌++◌, length, take, drop, get_or, refl, sym, ◌∙◌, ap, subst, arith, All, length-append, ⊎_elim}
use Rattle.std.proofs.Math.Seq.{split_at, get_or-append_seam}
use Rattle.std.proofs.lemmas.Bool.{cases_Bool, cases_lt}
use Rattle.std.proofs.lemmas.Bool.Decides.{nat_tests}
use Rattle.std.proofs.lemmas.Fmt.{IsAscii-decimal, decimal_injective, parse-decimal}
use Rattle.std.proofs.lemmas.List.{get_or-take, length-take, take_rest}
use Rattle.std.proofs.lemmas.List.Elements.{All-cons, All-from_get_or, All-nil, All-tail}
use Rattle.std.proofs.lemmas.Slice.Eq.{bytes_eq-Decides}
use Rattle.std.proofs.lemmas.Str.{IsUtf8-from_ascii}
use Rattle.std.specs.Fmt.{decimal}
use Rattle.std.specs.List.{AllByRecursion}
use Rattle.std.specs.Prelude.{nat_le}
use Rattle.std.specs.Str.{IsUtf8, bytes_eq}
use Rattle.std.specs.Str.Parse.{ParsesUnsigned}
use Rattle.cl_outside.specs.Device.{IsGlyph, IsSpan}
use Rattle.cl_outside.specs.Operations.{Op, clears, shows, all_glyphs, may_stand, op_line}
use Rattle.cl_outside.specs.Play.{behind, guess_op, op_of, when_spelled, word}
use Rattle.cl_raster.specs.Playback.{BeginsNoNumber, IsCut, IsNoNumber, IsSize, ShowsNothing}
use Rattle.cl_raster.proofs.Spelling.{IsNot, behind-front, decimal_is_not, op_of-clear, op_of-span, word-front}
use Rattle.cl_raster.proofs.WireSteps.{stands-clear, stands-span}

split : {P : Type 0} (m n : ℕ) → (m < n → P) → (n ≤ m → P) → P
split m n f g = elim (cases_lt m n) [ inl h ↦ f h | inr h ↦ g h ]

-- ---- bytes that are cut

pub cut_at : (mark : ℕ) (bytes : List ℕ) (at : ℕ) → at < length bytes → get_or bytes at 0 ≡ mark → ((k : ℕ) → k < at → get_or bytes k 0 ≢ mark)
    → IsCut mark bytes (take at bytes) (take (length bytes - (at + 1)) (drop (at + 1) bytes))
cut_at mark bytes at within here before =
    let one : suc at ≡ at + 1 = omega arith in
    let same : bytes ≡ take at bytes ++ (mark ∷ drop (at + 1) bytes) =
    split_at bytes at 0 within ∙ (ap (λ b. take at bytes ++ (b ∷ drop (suc at) bytes)) here ∙ ap (λ n. take at bytes ++ (mark ∷ drop n bytes)) one) in
    record {
      same = rw (take_rest bytes (at + 1)) same;
      first = All-from_get_or (λ b. b ≢ mark) (take at bytes) 0 (λ k less.
          split {P = get_or (take at bytes) k 0 ≢ mark} k at
          (λ below. λ e. before k below (sym (get_or-take at bytes k 0 below) ∙ e))
          (λ above. absurd (omega (arith, above, less, length-take at bytes))));
    }

pub all_not : (mark : ℕ) (bytes : List ℕ) → All (λ b. b ≢ mark) bytes → AllByRecursion (IsNot mark) bytes
all_not mark [] h = tt
all_not mark (b ∷ bytes) h =
    let away : b ≢ mark = h 0 0 (omega arith) in
    let other : (b == mark) ≡ false = grind (arith, nat_tests, away) in
    (other, all_not mark bytes (All-tail (λ b. b ≢ mark) b bytes h))

word-cut : (bytes front rest : List ℕ) → IsCut 32 bytes front rest → word bytes ≡ front
word-cut bytes front rest c = ap word c.same ∙ word-front front rest (all_not 32 front c.first)

-- ---- numbers

pub no_number-bytes : (bytes : List ℕ) → (IsUtf8 bytes → ⊥) → IsNoNumber bytes
no_number-bytes bytes h = λ n below e. h (subst IsUtf8 (sym e) (IsUtf8-from_ascii (decimal n) (IsAscii-decimal n (omega arith))))

pub no_number-text : {E : Type 0} (bytes digits : List ℕ) (error : E) → digits ≡ bytes → ParsesUnsigned 16 10 digits (Err error) → IsNoNumber bytes
no_number-text bytes digits error same h = λ n below e.
    let r : Err error ≡ Ok n = parse-decimal 16 n digits (Err error) below (omega arith) (same ∙ e) h in absurd cc

pub no_number-other : (bytes digits : List ℕ) (number : ℕ) → digits ≡ bytes → ParsesUnsigned {E = ℕ} 16 10 digits (Ok number)
    → (bytes ≡ decimal number → ⊥) → IsNoNumber bytes
no_number-other bytes digits number same h other = λ n below e.
    let r = parse-decimal {E = ℕ} 16 n digits (Ok number) below (omega arith) (same ∙ e) h in
    let m : number ≡ n = cc in
    other (e ∙ ap decimal (sym m))

pub begins_none-space : (bytes : List ℕ) → All (λ b. b ≢ 32) bytes → BeginsNoNumber bytes
begins_none-space bytes h = λ n below rest e.
    let long = ap length e in
    h (length (decimal n)) 0 (omega (arith, long, length-append (decimal n) (32 ∷ rest)))
    (ap (λ l. get_or l (length (decimal n)) 0) e ∙ get_or-append_seam (decimal n) 32 rest 0)

word-number : (bytes rest : List ℕ) (n : ℕ) → n < 2 ^ 64 → bytes ≡ decimal n ++ (32 ∷ rest) → word bytes ≡ decimal n
word-number bytes rest n below e = ap word e ∙ word-front (decimal n) rest (decimal_is_not 32 n (omega arith) below)

behind-number : (bytes rest : List ℕ) (n : ℕ) → n < 2 ^ 64 → bytes ≡ decimal n ++ (32 ∷ rest) → behind bytes ≡ rest
behind-number bytes rest n below e = ap behind e ∙ behind-front (decimal n) rest (decimal_is_not 32 n (omega arith) below)

pub begins_none-number : (bytes front rest : List ℕ) → IsCut 32 bytes front rest → IsNoNumber front → BeginsNoNumber bytes
begins_none-number bytes front rest c h = λ n below more e.
    h n below (sym (word-cut bytes front rest c) ∙ word-number bytes more n (omega arith) e)

-- bytes begin with one number alone
same_number : (bytes r s : List ℕ) (m n : ℕ) → m < 2 ^ 64 → n < 2 ^ 64 → bytes ≡ decimal m ++ (32 ∷ r) → bytes ≡ decimal n ++ (32 ∷ s) → m ≡ n
same_number bytes r s m n below_m below_n p q =
    decimal_injective m n below_m below_n (sym (word-number bytes r m below_m p) ∙ word-number bytes s n below_n q)

same_rest : (bytes r s : List ℕ) (m n : ℕ) → m < 2 ^ 64 → n < 2 ^ 64 → bytes ≡ decimal m ++ (32 ∷ r) → bytes ≡ decimal n ++ (32 ∷ s) → r ≡ s
same_rest bytes r s m n below_m below_n p q = sym (behind-number bytes r m below_m p) ∙ behind-number bytes s n below_n q

-- ---- the operation of a line is spelled by it

both : (a b : Bool) → a && b ≡ true → (a ≡ true) × (b ≡ true)
both true b h = (refl, h)
both false b h = absurd (grind (arith, h))

when_spelled-is : (guess : Op) (line : List ℕ) (op : Op) → when_spelled guess line ≡ Some op → (may_stand op ≡ true) × (op_line op ≡ line)
when_spelled-is guess line op h =
    ⊎_elim (λ here.
    let is : Some guess ≡ Some op = rw here at h in
    let same : guess ≡ op = cc in
    let facts = both (may_stand guess) (bytes_eq (op_line guess) line) here in
    subst (λ (o : Op). (may_stand o ≡ true) × (op_line o ≡ line)) same (facts.0, (bytes_eq-Decides (op_line guess) line).0 facts.1))
    (λ away. let is : None ≡ Some op = rw away at h in absurd cc)
    (cases_Bool (may_stand guess && bytes_eq (op_line guess) line))

pub op_of-is : (line : List ℕ) (op : Op) → op_of line ≡ Some op → (may_stand op ≡ true) × (op_line op ≡ line)
unfolding op_of
op_of-is line op h = when_spelled-is (guess_op line) line op h

none_by : (o : Option Op) → ((op : Op) → o ≡ Some op → ⊥) → o ≡ None
none_by None h = refl
none_by (Some op) h = absurd (h op refl)

-- ---- a `C`

size_of : (w h : ℕ) → may_stand (clears w h) ≡ true → IsSize w h
size_of w h e = grind (arith, nat_tests, e)

no_clear-op : (text : List ℕ) → ((w h : ℕ) → IsSize w h → text ≡ decimal w ++ (32 ∷ decimal h) → ⊥) → (op : Op)
    → (may_stand op ≡ true) × (op_line op ≡ 67 ∷ 32 ∷ text) → ⊥
no_clear-op text out (clears w h) e = out w h (size_of w h e.0) (sym (ap (drop 2) e.1))
no_clear-op text out (shows x y ink glyphs) e = let first : 83 ≡ 67 = ap (λ l. get_or l 0 0) e.1 in omega (arith, first)

no_clear : (text : List ℕ) → ((w h : ℕ) → IsSize w h → text ≡ decimal w ++ (32 ∷ decimal h) → ⊥) → op_of (67 ∷ 32 ∷ text) ≡ None
no_clear text out = none_by (op_of (67 ∷ 32 ∷ text)) (λ op e. no_clear-op text out op (op_of-is (67 ∷ 32 ∷ text) op e))

pub no_clear-width : (text : List ℕ) → BeginsNoNumber text → op_of (67 ∷ 32 ∷ text) ≡ None
no_clear-width text h = no_clear text (λ width height size e. h width (omega (arith, size)) (decimal height) e)

pub no_clear-height : (text rest : List ℕ) (w : ℕ) → w < 2 ^ 16 → text ≡ decimal w ++ (32 ∷ rest) → IsNoNumber rest → op_of (67 ∷ 32 ∷ text) ≡ None
no_clear-height text rest w below e h =
    no_clear text (λ width height size f. h height (omega (arith, size)) (same_rest text rest (decimal height) w width (omega arith) (omega (arith, size)) e f))

pub no_clear-size : (text rest : List ℕ) (w h : ℕ) → w < 2 ^ 16 → h < 2 ^ 16 → text ≡ decimal w ++ (32 ∷ rest) → rest ≡ decimal h → (IsSize w h → ⊥)
    → op_of (67 ∷ 32 ∷ text) ≡ None
no_clear-size text rest w h below_w below_h e f out =
    no_clear text (λ width height size g.
    let same_w : w ≡ width = same_number text rest (decimal height) w width (omega arith) (omega (arith, size)) e g in
    let same_h : h ≡ height = decimal_injective h height (omega arith) (omega (arith, size))
    (sym f ∙ same_rest text rest (decimal height) w width (omega arith) (omega (arith, size)) e g) in
    out (rw (same_w, same_h) size))

pub is_clear : (text rest : List ℕ) (w h : ℕ) → text ≡ decimal w ++ (32 ∷ rest) → rest ≡ decimal h → IsSize w h → op_of (67 ∷ 32 ∷ text) ≡ Some (clears w h)
is_clear text rest w h e f size =
    ap (λ (l : List ℕ). op_of (67 ∷ 32 ∷ l)) (e ∙ ap (λ (l : List ℕ). decimal w ++ (32 ∷ l)) f)
    ∙ op_of-clear w h (omega (arith, size)) (omega (arith, size)) (stands-clear w h size)

-- ---- an `S`

all_glyphs-are : (bytes : List ℕ) → all_glyphs bytes ≡ true → All IsGlyph bytes
all_glyphs-are [] h = All-nil IsGlyph
all_glyphs-are (b ∷ bytes) h =
    let parts = both (nat_le 32 b && nat_le b 126) (all_glyphs bytes) h in
    let first = both (nat_le 32 b) (nat_le b 126) parts.0 in
    let low : 32 ≤ b = grind (arith, nat_tests, first) in
    let high : b ≤ 126 = grind (arith, nat_tests, first) in
    All-cons IsGlyph b bytes (low, high) (all_glyphs-are bytes parts.1)

span_of : (x y ink : ℕ) (glyphs : List ℕ) → may_stand (shows x y ink glyphs) ≡ true → IsSpan ink glyphs
span_of x y ink glyphs h =
    let parts = both (nat_le ink 7 && nat_le 1 (length glyphs)) (all_glyphs glyphs) h in
    let first = both (nat_le ink 7) (nat_le 1 (length glyphs)) parts.0 in
    let low : ink ≤ 7 = grind (arith, nat_tests, first) in
    let some : 0 < length glyphs = grind (arith, nat_tests, first) in
    (low, some, all_glyphs-are glyphs parts.1)

-- the text of the line of an `S`
abbrev span_text : (x y ink : ℕ) → List ℕ → List ℕ
span_text x y ink glyphs = decimal x ++ (32 ∷ (decimal y ++ (32 ∷ (decimal ink ++ (32 ∷ glyphs)))))

-- no `C`, and no span inside
no_span-op : (text : List ℕ)
    → ((x y ink : ℕ) (glyphs : List ℕ) → x < 512 → y < 256 → IsSpan ink glyphs → text ≡ span_text x y ink glyphs → ⊥) → (op : Op)
    → (may_stand op ≡ true) × (op_line op ≡ 83 ∷ 32 ∷ text) → ShowsNothing (Some op)
no_span-op text out (clears w h) e = let first : 67 ≡ 83 = ap (λ l. get_or l 0 0) e.1 in omega (arith, first)
no_span-op text out (shows x y ink glyphs) e =
    split {P = (512 ≤ x) ⊎ (256 ≤ y)} x 512
    (λ left. split {P = (512 ≤ x) ⊎ (256 ≤ y)} y 256
    (λ above. absurd (out x y ink glyphs left above (span_of x y ink glyphs e.0) (sym (ap (drop 2) e.1))))
    (λ below. inr below))
    (λ right. inl right)

nothing_by : (o : Option Op) → ((op : Op) → o ≡ Some op → ShowsNothing (Some op)) → ShowsNothing o
nothing_by None h = tt
nothing_by (Some op) h = h op refl

no_span : (text : List ℕ) → ((x y ink : ℕ) (glyphs : List ℕ) → x < 512 → y < 256 → IsSpan ink glyphs → text ≡ span_text x y ink glyphs → ⊥)
    → ShowsNothing (op_of (83 ∷ 32 ∷ text))
no_span text out = nothing_by (op_of (83 ∷ 32 ∷ text)) (λ op e. no_span-op text out op (op_of-is (83 ∷ 32 ∷ text) op e))

pub no_span-x : (text : List ℕ) → BeginsNoNumber text → ShowsNothing (op_of (83 ∷ 32 ∷ text))
no_span-x text h = no_span text (λ x y ink glyphs left above span e. h x (omega (arith, left)) (decimal y ++ (32 ∷ (decimal ink ++ (32 ∷ glyphs)))) e)

pub no_span-y : (text b : List ℕ) (x : ℕ) → x < 2 ^ 16 → text ≡ decimal x ++ (32 ∷ b) → BeginsNoNumber b → ShowsNothing (op_of (83 ∷ 32 ∷ text))
no_span-y text b x below e h =
    no_span text (λ u v ink glyphs left above span f.
    let rest = decimal v ++ (32 ∷ (decimal ink ++ (32 ∷ glyphs))) in
    h v (omega (arith, above)) (decimal ink ++ (32 ∷ glyphs)) (same_rest text b rest x u (omega (arith, below)) (omega (arith, left)) e f))

pub no_span-ink : (text b c : List ℕ) (x y : ℕ) → x < 2 ^ 16 → y < 2 ^ 16 → text ≡ decimal x ++ (32 ∷ b) → b ≡ decimal y ++ (32 ∷ c) → BeginsNoNumber c
    → ShowsNothing (op_of (83 ∷ 32 ∷ text))
no_span-ink text b c x y below_x below_y e f h =
    no_span text (λ u v ink glyphs left above span g.
    let last = decimal ink ++ (32 ∷ glyphs) in
    let next : b ≡ decimal v ++ (32 ∷ last) = same_rest text b (decimal v ++ (32 ∷ last)) x u (omega (arith, below_x)) (omega (arith, left)) e g in
    h ink (omega (arith, span)) glyphs (same_rest b c last y v (omega (arith, below_y)) (omega (arith, above)) f next))

pub no_span-glyphs : (text b c glyphs : List ℕ) (x y ink : ℕ) → x < 2 ^ 16 → y < 2 ^ 16 → ink < 2 ^ 16
    → text ≡ decimal x ++ (32 ∷ b) → b ≡ decimal y ++ (32 ∷ c) → c ≡ decimal ink ++ (32 ∷ glyphs) → (IsSpan ink glyphs → ⊥)
    → ShowsNothing (op_of (83 ∷ 32 ∷ text))
no_span-glyphs text b c glyphs x y ink below_x below_y below_ink e f g out =
    no_span text (λ u v i shown left above span h.
    let last = decimal i ++ (32 ∷ shown) in
    let next : b ≡ decimal v ++ (32 ∷ last) = same_rest text b (decimal v ++ (32 ∷ last)) x u (omega (arith, below_x)) (omega (arith, left)) e h in
    let third : c ≡ last = same_rest b c last y v (omega (arith, below_y)) (omega (arith, above)) f next in
    let same_ink : ink ≡ i = same_number c glyphs shown ink i (omega (arith, below_ink)) (omega (arith, span)) g third in
    let same : glyphs ≡ shown = same_rest c glyphs shown ink i (omega (arith, below_ink)) (omega (arith, span)) g third in
    out (rw (same_ink, same) span))

pub is_span : (text b c glyphs : List ℕ) (x y ink : ℕ) → x < 2 ^ 16 → y < 2 ^ 16
    → text ≡ decimal x ++ (32 ∷ b) → b ≡ decimal y ++ (32 ∷ c) → c ≡ decimal ink ++ (32 ∷ glyphs) → IsSpan ink glyphs
    → op_of (83 ∷ 32 ∷ text) ≡ Some (shows x y ink glyphs)
is_span text b c glyphs x y ink below_x below_y e f g span =
    let third : b ≡ decimal y ++ (32 ∷ (decimal ink ++ (32 ∷ glyphs))) = f ∙ ap (λ (l : List ℕ). decimal y ++ (32 ∷ l)) g in
    let whole : text ≡ span_text x y ink glyphs = e ∙ ap (λ (l : List ℕ). decimal x ++ (32 ∷ l)) third in
    ap (λ (l : List ℕ). op_of (83 ∷ 32 ∷ l)) whole
    ∙ op_of-span x y ink glyphs (omega (arith, below_x)) (omega (arith, below_y)) (omega (arith, span)) (stands-span x y ink glyphs span)

-- ---- other lines

-- the line of an `S` blanks nothing
pub no_clears : (text : List ℕ) (w h : ℕ) → op_of (83 ∷ 32 ∷ text) ≡ Some (clears w h) → ⊥
no_clears text w h e =
    let first : 67 ≡ 83 = ap (λ l. get_or l 0 0) (op_of-is (83 ∷ 32 ∷ text) (clears w h) e).1 in omega (arith, first)

no_other-op : (line : List ℕ) → ((text : List ℕ) → line ≡ 67 ∷ 32 ∷ text → ⊥) → ((text : List ℕ) → line ≡ 83 ∷ 32 ∷ text → ⊥) → (op : Op)
    → op_line op ≡ line → ⊥
no_other-op line c s (clears w h) e = c (decimal w ++ (32 ∷ decimal h)) (sym e)
no_other-op line c s (shows x y ink glyphs) e = s (span_text x y ink glyphs) (sym e)

-- a line that begins neither with `C` and a space nor with `S` and a space
pub no_other : (line : List ℕ) → ((text : List ℕ) → line ≡ 67 ∷ 32 ∷ text → ⊥) → ((text : List ℕ) → line ≡ 83 ∷ 32 ∷ text → ⊥) → op_of line ≡ None
no_other line c s = none_by (op_of line) (λ op e. no_other-op line c s op (op_of-is line op e).1)

-- the same, by its first two bytes
pub no_other-bytes : (line : List ℕ) → (2 ≤ length line → get_or line 0 0 ≡ 67 → get_or line 1 0 ≡ 32 → ⊥)
    → (2 ≤ length line → get_or line 0 0 ≡ 83 → get_or line 1 0 ≡ 32 → ⊥) → op_of line ≡ None
no_other-bytes line c s =
    no_other line
    (λ text e. c (omega (arith, ap length e)) (ap (λ l. get_or l 0 0) e) (ap (λ l. get_or l 1 0) e))
    (λ text e. s (omega (arith, ap length e)) (ap (λ l. get_or l 0 0) e) (ap (λ l. get_or l 1 0) e))
