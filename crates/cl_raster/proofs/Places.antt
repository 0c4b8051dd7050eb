-- Each place of a picture is one index of its cells.
use Rattle.std.proofs.Common.{◌≡◌, ℕ, ◌+◌, ◌*◌, ◌%◌, ◌/◌, ◌<◌, ◌==◌, ◌&&◌, if◌then◌else◌, Bool, true, false, List, length, slice_set, refl, sym, ◌∙◌, ap, arith, ◌≤◌}
use Rattle.std.proofs.lemmas.Nat.{div-mul-add, mod-mul-add, mul-le}
use Rattle.std.proofs.lemmas.List.{get_or-set_same, get_or-set_other}
use Rattle.std.proofs.lemmas.Bool.Decides.{nat_tests}
use Rattle.cl_raster.specs.Raster.{Sets, at_place}

same_column : (w x y i j : ℕ) → x < w → i < w → j * w + i ≡ y * w + x → i ≡ x
same_column w x y i j hx hi e = sym (mod-mul-add j w i hi) ∙ (ap (λ n. n % w) e ∙ mod-mul-add y w x hx)

same_row : (w x y i j : ℕ) → x < w → i < w → j * w + i ≡ y * w + x → j ≡ y
same_row w x y i j hx hi e = sym (div-mul-add j w i hi) ∙ (ap (λ n. n / w) e ∙ div-mul-add y w x hx)

by_test : (P : ℕ → Type 0) (b : Bool) (m n : ℕ) → (b ≡ true → P m) → (b ≡ false → P n) → P (if b then m else n)
by_test P b m n =
    elim b as (λ v. (v ≡ true → P m) → (v ≡ false → P n) → P (if v then m else n)) [ true ↦ λ f g. f refl | false ↦ λ f g. g refl ]

pub at_place-set : (cells : List ℕ) (w x y v i j : ℕ) → x < w → i < w → y * w + x < length cells
    → at_place (slice_set cells (y * w + x) v) w i j ≡ (if (i == x) && (j == y) then v else at_place cells w i j)
at_place-set cells w x y v i j hx hi h =
    by_test (λ n. at_place (slice_set cells (y * w + x) v) w i j ≡ n) ((i == x) && (j == y)) v (at_place cells w i j)
    (λ yes. let column : i ≡ x = grind (arith, nat_tests, yes) in
    let row : j ≡ y = grind (arith, nat_tests, yes) in
    rw (column, row) (get_or-set_same cells (y * w + x) v 0 h))
    (λ no. get_or-set_other cells (y * w + x) (j * w + i) v 0
    (λ e. let column = same_column w x y i j hx hi e in
    let row = same_row w x y i j hx hi e in
    grind (arith, nat_tests, no, column, row)))

pub inside : (w h x y : ℕ) → x < w → y < h → y * w + x < w * h
inside w h x y hx hy =
    let below : y + 1 ≤ h = omega arith in
    omega (arith, mul-le (y + 1) w h w below (omega arith))

pub sets-put : (w h x y glyph ink : ℕ) (glyphs inks new_glyphs new_inks : List ℕ) → x < w → y < h
    → length glyphs ≡ w * h → length inks ≡ w * h
    → new_glyphs ≡ slice_set glyphs (y * w + x) glyph → new_inks ≡ slice_set inks (y * w + x) ink
    → Sets (record { width = w; height = h; glyphs = glyphs; inks = inks }) (record { width = w; height = h; glyphs = new_glyphs; inks = new_inks }) x y glyph ink
sets-put w h x y glyph ink glyphs inks new_glyphs new_inks hx hy ge ie g i =
    let within : y * w + x < w * h = inside w h x y hx hy in
    record {
      size = record { width = refl; height = refl };
      glyphs = λ a b less. rw g (at_place-set glyphs w x y glyph a b hx less (omega (arith, ge)));
      inks = λ a b less. rw i (at_place-set inks w x y ink a b hx less (omega (arith, ie)));
    }
