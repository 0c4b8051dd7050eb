-- A span that was written over the places of one row paints the picture.
use Rattle.std.proofs.Common.{◌≡◌, ℕ, ◌+◌, ◌-◌, ◌<◌, ◌≤◌, ◌⊎◌, min, Bool, true, false, cond, List, length, get_or, take, refl, sym, ap, subst, ◌∙◌, inl, inr, ⊎_elim, arith, length-take, get_or-take}
use Rattle.std.proofs.lemmas.Bool.{cases_lt}
use Rattle.std.proofs.lemmas.Bool.Decides.{nat_tests}
use Rattle.cl_outside.specs.Device.{Picture, IsPainted, PaintsWhereCleared, in_span}
use Rattle.cl_outside.specs.MemoryDevice.{Cells, IsPut, IsFilled, place_of, picture_in, told_picture}

-- whether a cell is in a span
pub span_cases : (x y n u v : ℕ) → ((in_span x y n u v ≡ true) × ((v ≡ y) × (x ≤ u) × (u < x + n)))
    ⊎ ((in_span x y n u v ≡ false) × ((v < y) ⊎ ((y < v) ⊎ ((v ≡ y) × ((u < x) ⊎ (x + n ≤ u))))))
span_cases x y n u v =
    ⊎_elim (λ below. inr (grind (arith, nat_tests), inl below))
    (λ not_below. ⊎_elim (λ above. inr (grind (arith, nat_tests), inr (inl above)))
    (λ not_above. let row : v ≡ y = omega arith in
    ⊎_elim (λ left. inr (grind (arith, nat_tests), inr (inr (row, inl left))))
    (λ from. ⊎_elim (λ inside. inl (grind (arith, nat_tests), (row, from, inside)))
    (λ right. inr (grind (arith, nat_tests), inr (inr (row, inr right))))
    (cases_lt u (x + n)))
    (cases_lt u x))
    (cases_lt y v))
    (cases_lt v y)

-- the cells of a row of 512 that were written, and those that were not
module _ (from_x from_y count full width u v : ℕ) (count_is : count ≡ min full (width - from_x)) (starts : from_x < width) (wide : width ≤ 512) (column : u < width) where
  abbrev at : ℕ
  at = place_of from_x from_y

  -- a cell that is in the span
  pub in_stretch : v ≡ from_y → from_x ≤ u → u < from_x + full → (u - from_x < count) × (at + (u - from_x) ≡ place_of u v)
  in_stretch row left right = (omega (arith, count_is), omega (arith, row))

  -- a cell that is not
  pub off_stretch : (v < from_y) ⊎ ((from_y < v) ⊎ ((v ≡ from_y) × ((u < from_x) ⊎ (from_x + full ≤ u)))) → (place_of u v < at) ⊎ (at + count ≤ place_of u v)
  off_stretch (inl above) = inl (omega (arith, above))
  off_stretch (inr (inl below)) = inr (omega (arith, count_is, below))
  off_stretch (inr (inr (row, inl left))) = inl (omega (arith, row, left))
  off_stretch (inr (inr (row, inr right))) = inr (omega (arith, count_is, row, right))

  pub glyph-painted : (old new glyphs : List ℕ) → length glyphs ≡ full → IsPut old new at (take count glyphs)
      → get_or new (place_of u v) 0 ≡ cond (in_span from_x from_y full u v) (get_or glyphs (u - from_x) 0) (get_or old (place_of u v) 0)
  glyph-painted old new glyphs long is =
      let values : length (take count glyphs) ≡ count = omega (arith, length-take count glyphs, count_is, long) in
      ⊎_elim (λ yes. let there = in_stretch yes.1.0 yes.1.1 yes.1.2 in
      let in_values : u - from_x < length (take count glyphs) = omega (arith, there.0, values) in
      ap (λ k. get_or new k 0) (sym there.1) ∙ is.inside (u - from_x) in_values ∙ get_or-take count glyphs (u - from_x) 0 there.0
      ∙ ap (λ b. cond b (get_or glyphs (u - from_x) 0) (get_or old (place_of u v) 0)) (sym yes.0))
      (λ no. is.outside (place_of u v) (⊎_elim (λ before. inl before) (λ behind. inr (omega (arith, behind, values))) (off_stretch no.1))
      ∙ ap (λ b. cond b (get_or glyphs (u - from_x) 0) (get_or old (place_of u v) 0)) (sym no.0))
      (span_cases from_x from_y full u v)

  pub ink-painted : (old new : List ℕ) (ink : ℕ) → IsFilled old new at count ink
      → get_or new (place_of u v) 0 ≡ cond (in_span from_x from_y full u v) ink (get_or old (place_of u v) 0)
  ink-painted old new ink is =
      ⊎_elim (λ yes. let there = in_stretch yes.1.0 yes.1.1 yes.1.2 in
      ap (λ k. get_or new k 0) (sym there.1) ∙ is.inside (u - from_x) there.0
      ∙ ap (λ b. cond b ink (get_or old (place_of u v) 0)) (sym yes.0))
      (λ no. is.outside (place_of u v) (off_stretch no.1) ∙ ap (λ b. cond b ink (get_or old (place_of u v) 0)) (sym no.0))
      (span_cases from_x from_y full u v)

pub IsPainted-stretch : (old new : Cells) (x y ink width height count : ℕ) (glyphs : List ℕ) → count ≡ min (length glyphs) (width - x) → x < width → width ≤ 512
    → IsPut old.glyphs new.glyphs (place_of x y) (take count glyphs) → IsFilled old.inks new.inks (place_of x y) (length (take count glyphs)) ink
    → IsPainted (picture_in old width height) (picture_in new width height) x y ink glyphs
IsPainted-stretch old new x y ink width height count glyphs count_is starts wide put fill =
    let values : length (take count glyphs) ≡ count = omega (arith, length-take count glyphs, count_is) in record {
      width_is = refl;
      height_is = refl;
      glyph_is = λ u v column row. glyph-painted x y count (length glyphs) width u v count_is starts wide column old.glyphs new.glyphs glyphs refl put;
      ink_is = λ u v column row. ink-painted x y count (length glyphs) width u v count_is starts wide column old.inks new.inks ink
          (subst (λ n. IsFilled old.inks new.inks (place_of x y) n ink) values fill);
    }

-- a whole device that was cleared shows the span
pub Paints-told : (cleared broken : Bool) (old new : Picture) (x y ink : ℕ) (glyphs : List ℕ) → cleared ≡ true → broken ≡ false → IsPainted old new x y ink glyphs
    → PaintsWhereCleared cleared (told_picture broken old) (told_picture broken new) x y ink glyphs × (broken ≡ false)
Paints-told true false old new x y ink glyphs c b h = (h, refl)
Paints-told true true old new x y ink glyphs c b h = absurd (cc)
Paints-told false broken old new x y ink glyphs c b h = absurd (cc)
