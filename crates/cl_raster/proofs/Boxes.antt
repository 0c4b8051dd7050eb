-- A box of cells, filled row by row.
use Rattle.std.proofs.Common.{◌≡◌, ℕ, zero, suc, ◌+◌, ◌-◌, ◌*◌, ◌/◌, ◌%◌, ◌<◌, ◌≤◌, inl, inr, Bool, true, false, if◌then◌else◌, ℤ, pos, negsuc, ◌≤ℤ◌, ◌<ℤ◌, List, length, slice_index, get_or, refl, ◌∙◌, ap, subst, arith}
use Rattle.std.specs.Prelude.{All}
use Rattle.std.proofs.lemmas.Nat.{mul-le}
use Rattle.std.proofs.lemmas.Bool.{cases_lt}
use Rattle.std.proofs.lemmas.Int.{ints}
use Rattle.std.proofs.lemmas.List.Elements.{All-get_or, All-from_get_or}
use Rattle.std.proofs.Math.Nat.{div-add-mod, mod-lt}
use Rattle.cl_outside.specs.Device.{IsGlyph}
use Rattle.cl_region.specs.Places.{holds}
use Rattle.cl_region.specs.declared.rects.Rect.{Rect}
use Rattle.cl_region.proofs.Corners.{false_holds, holds_within, within}
use Rattle.cl_raster.specs.Raster.{AreCells, Blanks, Fills, FillsBox, IsInk, at_place, clip_to}

split : {P : Type 0} (m n : ℕ) → (m < n → P) → (n ≤ m → P) → P
split m n f g = elim (cases_lt m n) [ inl h ↦ f h | inr h ↦ g h ]

by_test : (P : ℕ → Type 0) (b : Bool) (m n : ℕ) → (b ≡ true → P m) → (b ≡ false → P n) → P (if b then m else n)
by_test P b m n =
    elim b as (λ v. (v ≡ true → P m) → (v ≡ false → P n) → P (if v then m else n)) [ true ↦ λ f g. f refl | false ↦ λ f g. g refl ]

later_row : (w i j y : ℕ) → j < y → j * w + w ≤ y * w
later_row w i j y h = let e : j + 1 ≤ y = omega arith in omega (arith, mul-le (j + 1) w y w e (omega arith))

pub box_more : (old cur new : List ℕ) (w x1 x2 y1 y v : ℕ) → x1 < x2 → x2 ≤ w → y1 ≤ y
    → FillsBox old cur w x1 x2 y1 y v → Fills cur new (y * w + x1) (x2 - x1) v → FillsBox old new w x1 x2 y1 (y + 1) v
box_more old cur new w x1 x2 y1 y v hx hw hy b f = record {
  same_length = f.same_length ∙ b.same_length;
  inside = λ i j a1 a2 b1 b2.
      split {P = at_place new w i j ≡ v} j y
      (λ less. f.outside (j * w + i) (inl (omega (arith, later_row w i j y less))) ∙ b.inside i j a1 a2 b1 less)
      (λ more. let row : j ≡ y = omega arith in
      let place : j * w + i ≡ (y * w + x1) + (i - x1) = rw row (omega arith) in
      ap (slice_index new) place ∙ f.inside (i - x1) (omega arith));
  outside = λ i j hi out.
      let same = b.outside i j hi (λ a1 a2 b1 b2. out a1 a2 b1 (omega arith)) in
      split {P = at_place new w i j ≡ at_place old w i j} j y
      (λ less. f.outside (j * w + i) (inl (omega (arith, later_row w i j y less))) ∙ same)
      (λ more. split {P = at_place new w i j ≡ at_place old w i j} y j
      (λ below. f.outside (j * w + i) (inr (omega (arith, later_row w i y j below))) ∙ same)
      (λ here. let row : j ≡ y = omega arith in
      split {P = at_place new w i j ≡ at_place old w i j} i x1
      (λ left. f.outside (j * w + i) (inl (rw row (omega arith))) ∙ same)
      (λ in_left. split {P = at_place new w i j ≡ at_place old w i j} i x2
      (λ in_right. absurd (out in_left in_right (omega arith) (omega arith)))
      (λ right. f.outside (j * w + i) (inr (rw row (omega arith))) ∙ same))));
}

pub clipped_low : (z : ℤ) (w i : ℕ) → z ≤ℤ pos i → clip_to z w ≤ i
clipped_low (pos n) w i h = let e : n ≤ i = omega (arith, ints, h) in omega (arith, e)
clipped_low (negsuc n) w i h = omega arith

pub clipped_high : (z : ℤ) (w i : ℕ) → i < w → pos i <ℤ z → i < clip_to z w
clipped_high (pos n) w i k h = let e : i < n = omega (arith, ints, h) in omega (arith, e)
clipped_high (negsuc n) w i k h = omega (arith, ints, h)

pub low_clipped : (z : ℤ) (w i : ℕ) → i < w → clip_to z w ≤ i → z ≤ℤ pos i
low_clipped (pos n) w i k h = let e : n ≤ i = omega (arith, h) in omega (arith, ints, e)
low_clipped (negsuc n) w i k h = omega (arith, ints)

pub high_clipped : (z : ℤ) (w i : ℕ) → i < clip_to z w → pos i <ℤ z
high_clipped (pos n) w i h = let e : i < n = omega (arith, h) in omega (arith, ints, e)
high_clipped (negsuc n) w i h = omega (arith, h)

pub blanked : (old new : List ℕ) (w h v : ℕ) (r : Rect)
    → FillsBox old new w (clip_to r.x1 w) (clip_to r.x2 w) (clip_to r.y1 h) (clip_to r.y2 h) v
    → (i j : ℕ) → i < w → j < h → at_place new w i j ≡ (if holds r (pos i) (pos j) then v else at_place old w i j)
blanked old new w h v r f i j hi hj =
    by_test (λ n. at_place new w i j ≡ n) (holds r (pos i) (pos j)) v (at_place old w i j)
    (λ yes. let k = within r (pos i) (pos j) yes in
    f.inside i j (clipped_low r.x1 w i k.x1) (clipped_high r.x2 w i hi k.x2) (clipped_low r.y1 h j k.y1) (clipped_high r.y2 h j hj k.y2))
    (λ no. f.outside i j hi (λ a1 a2 b1 b2. false_holds (holds r (pos i) (pos j)) no
    (holds_within r (pos i) (pos j) (record {
      x1 = low_clipped r.x1 w i hi a1;
      x2 = high_clipped r.x2 w i a2;
      y1 = low_clipped r.y1 h j hj b1;
      y2 = high_clipped r.y2 h j b2;
    }))))

subst_box : (old new : List ℕ) (w h v : ℕ) (r : Rect) (a b d e : ℕ) → a ≡ clip_to r.x1 w → b ≡ clip_to r.x2 w → d ≡ clip_to r.y1 h → e ≡ clip_to r.y2 h
    → FillsBox old new w a b d e v → FillsBox old new w (clip_to r.x1 w) (clip_to r.x2 w) (clip_to r.y1 h) (clip_to r.y2 h) v
subst_box old new w h v r a b d e p q s t f =
    subst (λ (m : ℕ). FillsBox old new w m (clip_to r.x2 w) (clip_to r.y1 h) (clip_to r.y2 h) v) p
    (subst (λ (m : ℕ). FillsBox old new w a m (clip_to r.y1 h) (clip_to r.y2 h) v) q
    (subst (λ (m : ℕ). FillsBox old new w a b m (clip_to r.y2 h) v) s
    (subst (λ (m : ℕ). FillsBox old new w a b d m v) t f)))

positive : (w h k : ℕ) → k < w * h → 0 < w
positive zero h k l = omega (arith, l)
positive (suc w) h k l = omega arith

pub blanks-filled : (w h : ℕ) (r : Rect) (a b d e : ℕ) (glyphs inks new_glyphs new_inks : List ℕ)
    → a ≡ clip_to r.x1 w → b ≡ clip_to r.x2 w → d ≡ clip_to r.y1 h → e ≡ clip_to r.y2 h
    → FillsBox glyphs new_glyphs w a b d e 32 → FillsBox inks new_inks w a b d e 0
    → Blanks (record { width = w; height = h; glyphs = glyphs; inks = inks }) (record { width = w; height = h; glyphs = new_glyphs; inks = new_inks }) r
blanks-filled w h r a b d e glyphs inks new_glyphs new_inks p q s t f g = record {
  size = record { width = refl; height = refl };
  glyphs = blanked glyphs new_glyphs w h 32 r (subst_box glyphs new_glyphs w h 32 r a b d e p q s t f);
  inks = blanked inks new_inks w h 0 r (subst_box inks new_inks w h 0 r a b d e p q s t g);
}

filled_all : (P : ℕ → Type 0) (old new : List ℕ) (w h x1 x2 y1 y2 v : ℕ) → length old ≡ w * h → P v → All P old
    → FillsBox old new w x1 x2 y1 y2 v → All P new
filled_all P old new w h x1 x2 y1 y2 v n pv ps f =
    All-from_get_or P new 0 (λ k hk.
    let below : k < w * h = omega (arith, n, f.same_length, hk) in
    let i = k % w in
    let j = k / w in
    let wide : 0 < w = positive w h k below in
    let column : i < w = mod-lt k wide in
    let place : j * w + i ≡ k = omega (arith, div-add-mod k w) in
    let old_at : P (get_or old (j * w + i) 0) = rw place (All-get_or P old k 0 (omega (arith, n, below)) ps) in
    let kept : get_or new (j * w + i) 0 ≡ get_or old (j * w + i) 0 → P (get_or new (j * w + i) 0) = λ e. rw e old_at in
    let out = f.outside i j column in
    subst (λ (m : ℕ). P (get_or new m 0)) place
    (split {P = P (get_or new (j * w + i) 0)} i x1 (λ a. kept (out (λ a1 a2 b1 b2. omega (arith, a, a1))))
    (λ a1. split {P = P (get_or new (j * w + i) 0)} i x2
    (λ a2. split {P = P (get_or new (j * w + i) 0)} j y1 (λ e. kept (out (λ a3 a4 b1 b2. omega (arith, e, b1))))
    (λ b1. split {P = P (get_or new (j * w + i) 0)} j y2
    (λ b2. rw (f.inside i j a1 a2 b1 b2) pv)
    (λ g. kept (out (λ a3 a4 b3 b2. omega (arith, g, b2))))))
    (λ b. kept (out (λ a3 a2 b1 b2. omega (arith, b, a2)))))))

pub filled_cells : (w h x1 x2 y1 y2 : ℕ) (glyphs inks new_glyphs new_inks : List ℕ) → AreCells w h glyphs inks
    → FillsBox glyphs new_glyphs w x1 x2 y1 y2 32 → FillsBox inks new_inks w x1 x2 y1 y2 0 → AreCells w h new_glyphs new_inks
filled_cells w h x1 x2 y1 y2 glyphs inks new_glyphs new_inks a f g = record {
  columns = a.columns;
  rows = a.rows;
  glyph_places = f.same_length ∙ a.glyph_places;
  ink_places = g.same_length ∙ a.ink_places;
  are_glyphs = filled_all IsGlyph glyphs new_glyphs w h x1 x2 y1 y2 32 a.glyph_places (omega arith, omega arith) a.are_glyphs f;
  are_inks = filled_all IsInk inks new_inks w h x1 x2 y1 y2 0 a.ink_places (omega arith) a.are_inks g;
}
