-- A grid of cells stays one.
use Rattle.std.proofs.Common.{◌≡◌, ℕ, ◌+◌, ◌-◌, ◌<◌, ◌≤◌, List, length, get_or, replicate, sym, ap, ◌∙◌, subst, inl, inr, ⊎_elim, arith, All}
use Rattle.std.proofs.lemmas.List.{get_or-replicate, length-replicate}
use Rattle.std.proofs.lemmas.Bool.{cases_lt}
use Rattle.cl_outside.specs.Device.{IsGlyph}
use Rattle.cl_outside.specs.MemoryDevice.{Cells, IsCells, IsPut, IsFilled, AllBlank}

pub IsCells-new : (glyphs inks : List ℕ) → glyphs ≡ replicate 131072 32 → inks ≡ replicate 131072 0 → IsCells glyphs inks
IsCells-new glyphs inks g i = record {
  glyph_places = ap length g ∙ length-replicate {A = ℕ} 131072 32;
  ink_places = ap length i ∙ length-replicate {A = ℕ} 131072 0;
  glyph_range = λ k below. let is : get_or glyphs k 0 ≡ 32 = ap (λ l. get_or l k 0) g ∙ get_or-replicate {A = ℕ} 131072 k 32 0 below in (omega (arith, is), omega (arith, is));
  ink_range = λ k below. let is : get_or inks k 0 ≡ 0 = ap (λ l. get_or l k 0) i ∙ get_or-replicate {A = ℕ} 131072 k 0 0 below in omega (arith, is);
}

pub AllBlank-new : (cells : Cells) → cells.glyphs ≡ replicate 131072 32 → cells.inks ≡ replicate 131072 0 → AllBlank cells
AllBlank-new cells g i = record {
  glyphs_are = λ k below. ap (λ l. get_or l k 0) g ∙ get_or-replicate {A = ℕ} 131072 k 32 0 below;
  inks_are = λ k below. ap (λ l. get_or l k 0) i ∙ get_or-replicate {A = ℕ} 131072 k 0 0 below;
}

-- what holds of each number of the old list and of the values holds of the new one's
pub put_range : (P : ℕ → Type 0) (old new values : List ℕ) (at : ℕ) → IsPut old new at values → ((k : ℕ) → k < 131072 → P (get_or old k 0))
    → All P values → (k : ℕ) → k < 131072 → P (get_or new k 0)
put_range P old new values at is before each k below =
    ⊎_elim (λ apart. subst P (sym (is.outside k (inl apart))) (before k below))
    (λ from. ⊎_elim
    (λ inside. let j : ℕ = k - at in let same : at + j ≡ k = omega arith in let fits : j < length values = omega arith in
    subst (λ n. P (get_or new n 0)) same (subst P (sym (is.inside j fits)) (each j 0 fits)))
    (λ behind. subst P (sym (is.outside k (inr behind))) (before k below))
    (cases_lt k (at + length values)))
    (cases_lt k at)

pub filled_range : (P : ℕ → Type 0) (old new : List ℕ) (at count value : ℕ) → IsFilled old new at count value → ((k : ℕ) → k < 131072 → P (get_or old k 0))
    → P value → (k : ℕ) → k < 131072 → P (get_or new k 0)
filled_range P old new at count value is before fits k below =
    ⊎_elim (λ apart. subst P (sym (is.outside k (inl apart))) (before k below))
    (λ from. ⊎_elim
    (λ inside. let j : ℕ = k - at in let same : at + j ≡ k = omega arith in let within : j < count = omega arith in
    subst (λ n. P (get_or new n 0)) same (subst P (sym (is.inside j within)) fits))
    (λ behind. subst P (sym (is.outside k (inr behind))) (before k below))
    (cases_lt k (at + count)))
    (cases_lt k at)

pub IsCells-painted : (old_glyphs new_glyphs old_inks new_inks values : List ℕ) (at ink : ℕ) → IsCells old_glyphs old_inks → IsPut old_glyphs new_glyphs at values
    → IsFilled old_inks new_inks at (length values) ink → ink ≤ 7 → All IsGlyph values → IsCells new_glyphs new_inks
IsCells-painted old_glyphs new_glyphs old_inks new_inks values at ink before put fill low each = record {
  glyph_places = put.same_length ∙ before.glyph_places;
  ink_places = fill.same_length ∙ before.ink_places;
  glyph_range = put_range IsGlyph old_glyphs new_glyphs values at put before.glyph_range each;
  ink_range = filled_range (λ n. n ≤ 7) old_inks new_inks at (length values) ink fill before.ink_range low;
}
