-- What a terminal shows behind glyphs that are put one after another.
use Rattle.std.proofs.Common.{◌≡◌, ℕ, ◌+◌, ◌-◌, ◌<◌, ◌≤◌, ◌⊎◌, suc, false, true, List, [], ◌∷◌, length, take, ◌∙◌, ⊎_elim, arith, length-take, get_or-take}
use Rattle.std.specs.Prelude.{◌&&◌, ◌==◌, slice_index, if◌then◌else◌}
use Rattle.std.proofs.lemmas.Bool.Decides.{nat_tests}
use Rattle.cl_outside.specs.Device.{in_span}
use Rattle.cl_outside.proofs.Spans.{span_cases}
use Rattle.cl_ansi.specs.Screen.{Screen, put}
use Rattle.cl_ansi.specs.Terminal.{Terminal, is_inside}

-- ---- where they stand

-- a span of one glyph more
next_glyph : (x y u v old glyph : ℕ) (glyphs : List ℕ)
    → (if in_span (x + 1) y (length glyphs) u v then slice_index glyphs (u - (x + 1)) else (if v == y && u == x then glyph else old))
    ≡ (if in_span x y (length (glyph ∷ glyphs)) u v then slice_index (glyph ∷ glyphs) (u - x) else old)
next_glyph x y u v old glyph glyphs = grind (arith, nat_tests)

next_ink : (x y n u v old ink : ℕ)
    → (if in_span (x + 1) y n u v then ink else (if v == y && u == x then ink else old)) ≡ (if in_span x y (suc n) u v then ink else old)
next_ink x y n u v old ink = grind (arith, nat_tests)

no_glyph : (x y u v value old : ℕ) → old ≡ (if in_span x y 0 u v then value else old)
no_glyph x y u v value old = grind (arith, nat_tests)

-- glyphs from the cursor on
abbrev pub putting : Screen → List ℕ → Screen
putting s [] = s
putting s (glyph ∷ glyphs) = putting (put s glyph) glyphs

pub put_glyphs : (s : Screen) (glyphs : List ℕ) (u v : ℕ)
    → (putting s glyphs).glyph_at u v ≡ (if in_span s.column s.row (length glyphs) u v then slice_index glyphs (u - s.column) else s.glyph_at u v)
put_glyphs s [] u v = no_glyph s.column s.row u v (slice_index [] (u - s.column)) (s.glyph_at u v)
put_glyphs s (glyph ∷ glyphs) u v = put_glyphs (put s glyph) glyphs u v ∙ next_glyph s.column s.row u v (s.glyph_at u v) glyph glyphs

pub put_inks : (s : Screen) (glyphs : List ℕ) (u v : ℕ)
    → (putting s glyphs).ink_at u v ≡ (if in_span s.column s.row (length glyphs) u v then s.ink else s.ink_at u v)
put_inks s [] u v = no_glyph s.column s.row u v s.ink (s.ink_at u v)
put_inks s (glyph ∷ glyphs) u v = put_inks (put s glyph) glyphs u v ∙ next_ink s.column s.row (length glyphs) u v (s.ink_at u v) s.ink

pub put_column : (s : Screen) (glyphs : List ℕ) → (putting s glyphs).column ≡ s.column + length glyphs
put_column s [] = omega arith
put_column s (glyph ∷ glyphs) = omega (arith, put_column (put s glyph) glyphs)

-- ---- glyphs that are cut at the width of the picture

-- those that are left out lie outside of it
pub cut_glyph : (x y width u v old : ℕ) (glyphs : List ℕ) → u < width
    → (if in_span x y (length (take (width - x) glyphs)) u v then slice_index (take (width - x) glyphs) (u - x) else old)
    ≡ (if in_span x y (length glyphs) u v then slice_index glyphs (u - x) else old)
cut_glyph x y width u v old glyphs column =
    let cut = length-take (width - x) glyphs in
    ⊎_elim (λ yes. let same = get_or-take (width - x) glyphs (u - x) 0 (omega (arith, yes.1.1)) in grind (arith, nat_tests))
    (λ no. grind (arith, nat_tests))
    (span_cases x y (length glyphs) u v)

pub cut_ink : (x y width u v old ink : ℕ) (glyphs : List ℕ) → u < width
    → (if in_span x y (length (take (width - x) glyphs)) u v then ink else old) ≡ (if in_span x y (length glyphs) u v then ink else old)
cut_ink x y width u v old ink glyphs column = let cut = length-take (width - x) glyphs in grind (arith, nat_tests)

-- and the others inside of it
off_span : (x y width height u v value old : ℕ) (glyphs : List ℕ) → y < height → x < width → (width ≤ u) ⊎ (height ≤ v)
    → (if in_span x y (length (take (width - x) glyphs)) u v then value else old) ≡ old
off_span x y width height u v value old glyphs row column outside = let cut = length-take (width - x) glyphs in grind (arith, nat_tests)

pub off_shown : (t : Terminal) (x y u v value old : ℕ) (glyphs : List ℕ) → is_inside t x y ≡ true → (t.width ≤ u) ⊎ (t.height ≤ v)
    → (if in_span x y (length (take (t.width - x) glyphs)) u v then value else old) ≡ old
off_shown t x y u v value old glyphs inside outside =
    let column : x < t.width = grind (arith, nat_tests) in
    let row : y < t.height = grind (arith, nat_tests) in
    off_span x y t.width t.height u v value old glyphs row column outside

pub cut_within : (t : Terminal) (x y : ℕ) (glyphs : List ℕ) → is_inside t x y ≡ true → x + length (take (t.width - x) glyphs) ≤ t.width
cut_within t x y glyphs inside =
    let column : x < t.width = grind (arith, nat_tests) in
    omega (arith, column, length-take (t.width - x) glyphs)

-- a span that begins outside of the picture is not in it
pub off_picture : (t : Terminal) (x y n u v value old : ℕ) → is_inside t x y ≡ false → t.cleared ≡ true → u < t.width → v < t.height
    → old ≡ (if in_span x y n u v then value else old)
off_picture t x y n u v value old off cleared column row = grind (arith, nat_tests)
