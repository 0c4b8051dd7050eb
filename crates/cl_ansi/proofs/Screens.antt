-- What a terminal shows behind a clear and a span.
use Rattle.std.proofs.Common.{◌≡◌, ℕ, ◌-◌, ◌<◌, ◌≤◌, ◌⊎◌, ◌^◌, Bool, false, true, None, List, length, take, refl, sym, subst, ◌∙◌, ap}
use Rattle.std.specs.Prelude.{slice_index, if◌then◌else◌}
use Rattle.std.proofs.lemmas.List.Elements.{All-take}
use Rattle.cl_outside.specs.Device.{IsGlyph, IsSpan, in_span}
use Rattle.cl_ansi.specs.Laws.{AllSpansPaint, ClearsBlank, IsAtRest}
use Rattle.cl_ansi.specs.Screen.{Screen, shown}
use Rattle.cl_ansi.specs.Sequences.{span_bytes}
use Rattle.cl_ansi.specs.Terminal.{Terminal, is_inside, shown_bytes}
use Rattle.cl_ansi.proofs.Glyphs.{cut_glyph, cut_ink, cut_within, off_picture, off_shown, put_column, put_glyphs, put_inks, putting}
use Rattle.cl_ansi.proofs.Sequences.{begun, span_shown}

pub clears_blank : ClearsBlank
clears_blank = record {
  blank = λ s width height. record {
    width_is = refl;
    height_is = refl;
    glyph_is = λ x y column row. refl;
    ink_is = λ x y column row. refl;
  };
  rests = λ s. record { own_ink = refl; no_sequence = refl };
  forgets = λ s t bytes. refl;
  entered = λ s width height. record {
    width_is = refl;
    height_is = refl;
    glyph_is = λ x y column row. refl;
    ink_is = λ x y column row. refl;
  };
}

module _ (t : Terminal) (s : Screen) (x y ink : ℕ) (glyphs : List ℕ) (below_x : x < 2 ^ 16) (below_y : y < 2 ^ 16) (span : IsSpan ink glyphs) where
  abbrev cut : List ℕ
  cut = take (t.width - x) glyphs

  -- the screen behind a span that begins in the picture
  whole : shown s (span_bytes x y ink cut) ≡ record (putting (begun s x y ink) cut) { ink = 0; sequence = None }
  whole = span_shown s x y ink cut below_x below_y span.0 (All-take IsGlyph (t.width - x) glyphs span.2)

  whole_glyph : (u v : ℕ) → (shown s (span_bytes x y ink cut)).glyph_at u v ≡ (if in_span x y (length cut) u v then slice_index cut (u - x) else s.glyph_at u v)
  whole_glyph u v = ap (λ (q : Screen). q.glyph_at u v) whole ∙ put_glyphs (begun s x y ink) cut u v

  whole_ink : (u v : ℕ) → (shown s (span_bytes x y ink cut)).ink_at u v ≡ (if in_span x y (length cut) u v then ink else s.ink_at u v)
  whole_ink u v = ap (λ (q : Screen). q.ink_at u v) whole ∙ put_inks (begun s x y ink) cut u v

  glyph_inside : (b : Bool) → is_inside t x y ≡ b → t.cleared ≡ true → (u v : ℕ) → u < t.width → v < t.height
      → (shown s (shown_bytes t x y ink glyphs)).glyph_at u v ≡ (if in_span x y (length glyphs) u v then slice_index glyphs (u - x) else s.glyph_at u v)
  glyph_inside true e cleared u v column row = rw e (whole_glyph u v ∙ cut_glyph x y t.width u v (s.glyph_at u v) glyphs column)
  glyph_inside false e cleared u v column row = rw e (off_picture t x y (length glyphs) u v (slice_index glyphs (u - x)) (s.glyph_at u v) e cleared column row)

  ink_inside : (b : Bool) → is_inside t x y ≡ b → t.cleared ≡ true → (u v : ℕ) → u < t.width → v < t.height
      → (shown s (shown_bytes t x y ink glyphs)).ink_at u v ≡ (if in_span x y (length glyphs) u v then ink else s.ink_at u v)
  ink_inside true e cleared u v column row = rw e (whole_ink u v ∙ cut_ink x y t.width u v (s.ink_at u v) ink glyphs column)
  ink_inside false e cleared u v column row = rw e (off_picture t x y (length glyphs) u v ink (s.ink_at u v) e cleared column row)

  same_beside : (b : Bool) → is_inside t x y ≡ b → (u v : ℕ) → (t.width ≤ u) ⊎ (t.height ≤ v)
      → ((shown s (shown_bytes t x y ink glyphs)).glyph_at u v ≡ s.glyph_at u v) × ((shown s (shown_bytes t x y ink glyphs)).ink_at u v ≡ s.ink_at u v)
  same_beside true e u v outside =
      rw e (
        whole_glyph u v ∙ off_shown t x y u v (slice_index cut (u - x)) (s.glyph_at u v) glyphs e outside,
        whole_ink u v ∙ off_shown t x y u v ink (s.ink_at u v) glyphs e outside,
      )
  same_beside false e u v outside = rw e (refl, refl)

  within_picture : is_inside t x y ≡ true → (shown s (shown_bytes t x y ink glyphs)).column ≤ t.width
  within_picture e =
      rw e (subst (λ n. n ≤ t.width) (sym (ap (λ (q : Screen). q.column) whole ∙ put_column (begun s x y ink) cut)) (cut_within t x y glyphs e))

  rests_behind : (b : Bool) → is_inside t x y ≡ b → IsAtRest s → IsAtRest (shown s (shown_bytes t x y ink glyphs))
  rests_behind true e rests = rw e (record { own_ink = ap (λ (q : Screen). q.ink) whole; no_sequence = ap (λ (q : Screen). q.sequence) whole })
  rests_behind false e rests = rw e rests

pub spans_paint : AllSpansPaint
spans_paint t s x y ink glyphs below_x below_y span = record {
  painted = λ cleared. record {
    width_is = refl;
    height_is = refl;
    glyph_is = glyph_inside t s x y ink glyphs below_x below_y span (is_inside t x y) refl cleared;
    ink_is = ink_inside t s x y ink glyphs below_x below_y span (is_inside t x y) refl cleared;
  };
  beside = same_beside t s x y ink glyphs below_x below_y span (is_inside t x y) refl;
  within = within_picture t s x y ink glyphs below_x below_y span;
  rests = rests_behind t s x y ink glyphs below_x below_y span (is_inside t x y) refl;
}
