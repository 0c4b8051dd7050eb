-- A device that showed the cells of a screen, and was sent the touched cells of an area, shows the cells of the screen as it was painted.
use Rattle.std.proofs.Common.{◌≡◌, ℕ, ◌+◌, ◌-◌, ◌<◌, ◌≤◌, ℤ, pos, Bool, true, false, ◌&&◌, if◌then◌else◌, List, [], ◌∷◌, ◌++◌, length, get_or, drop, Option, Some, None, refl, sym, ◌∙◌, ap, subst, arith}
use Rattle.cl_medium.specs.Items.{Item, Painted}
use Rattle.cl_outside.specs.Device as device
use Rattle.cl_outside.specs.Operations.{Op, ops_bytes}
use Rattle.cl_raster.specs.Raster.{Picture, clip_to, row_of}
use Rattle.cl_record.specs.Marks.{Mark}
use Rattle.cl_region.proofs.Corners.{and_left, and_right, both, wrong}
use Rattle.cl_spans.specs.Runs.{AreRuns}
use Rattle.cl_spans.specs.SpanRows.{SpanRows, spans_hold}
use Rattle.cl_spans.specs.SpanRows as spans
use Rattle.cl_spans.specs.declared.runs.Span.{Span}
use Rattle.cl_redisplay.specs.Operations.{cell_after_all}
use Rattle.cl_redisplay.specs.Paint.{KeepsOthers, LiesIn, Repaints, cell_at, covers, pane_cell}
use Rattle.cl_redisplay.specs.Screens.{Agree, Mirrors, device_cell}
use Rattle.cl_redisplay.specs.Sending.{Plays, list_ops}
use Rattle.cl_redisplay.specs.Touching.{LieIn, PaintsTouched, ShowsOthers, on_screen, touched_ops, touched_pane_ops, touched_rows_ops}
use Rattle.cl_redisplay.specs.TouchedSending.{span_ops}
use Rattle.cl_redisplay.specs.Wires.{PaintSends, SendsUnless}
use Rattle.cl_redisplay.specs.declared.areas.Area.{Area}
use Rattle.cl_redisplay.specs.declared.screens.Painted as answer
use Rattle.cl_redisplay.proofs.Agreements.{Plays-more}
use Rattle.cl_redisplay.proofs.Choices.{choice_is}
use Rattle.cl_redisplay.proofs.PartLemmas.{by_cases}
use Rattle.cl_redisplay.proofs.TouchedPictures.{touched-cells, touched_after, touched_rows-next}
use Rattle.cl_redisplay.proofs.TouchedSpans.{span_ops-next, touched_row-spans}
use Rattle.cl_redisplay.proofs.WireLemmas.{above, left_of, ops_bytes-append}

-- ---- the screen

if_so : (b : Bool) (p q r : Painted) → b ≡ true → r ≡ (if b then p else q) → r ≡ p
if_so true p q r h e = e
if_so false p q r h e = absurd (wrong h)

if_not : (b : Bool) (p q r : Painted) → b ≡ false → r ≡ (if b then p else q) → r ≡ q
if_not true p q r h e = absurd (wrong (sym h))
if_not false p q r h e = e

not_both : (a b : Bool) → (a ≡ true → b ≡ false) → a && b ≡ false
not_both true b f = f refl
not_both false b f = refl

-- an area whose other places showed the marks shows them once its touched places are painted
pub touched_repaints : (old new : Picture) (area : Area) (marks : List (Mark Item)) (touched : ℤ → ℤ → Bool) → ShowsOthers old area marks touched
    → PaintsTouched old new area marks touched → Repaints old new area marks
touched_repaints old new area marks touched shows paints = record {
  others = record {
    size = paints.size;
    cells = λ x y hx hy apart.
        if_not (covers area x y && on_screen touched area x y) (pane_cell area marks x y) (cell_at old x y) (cell_at new x y)
        (not_both (covers area x y) (on_screen touched area x y) (λ here. absurd (wrong (sym apart ∙ here))))
        (paints.cells x y hx hy);
  };
  cells = λ x y hx hy here.
      by_cases {P = cell_at new x y ≡ pane_cell area marks x y} (on_screen touched area x y)
      (λ yes. if_so (covers area x y && on_screen touched area x y) (pane_cell area marks x y) (cell_at old x y) (cell_at new x y)
      (both (covers area x y) (on_screen touched area x y) here yes) (paints.cells x y hx hy))
      (λ no. if_not (covers area x y && on_screen touched area x y) (pane_cell area marks x y) (cell_at old x y) (cell_at new x y)
      (not_both (covers area x y) (on_screen touched area x y) (λ here. no)) (paints.cells x y hx hy)
      ∙ shows.cells x y hx hy here no);
}

-- ---- screen and device

-- the touched places of an area were painted, and sent
Mirrors-touched : (p q : Picture) (area : Area) (marks : List (Mark Item)) (touched : ℤ → ℤ → Bool) (a b : Option device.Picture)
    → PaintsTouched p q area marks touched → Mirrors p a → Plays a b (touched_ops (cell_at q) (on_screen touched area) area) [] → Mirrors q b
Mirrors-touched p q area marks touched None None paints same sent = tt
Mirrors-touched p q area marks touched None (Some e) paints same sent = absurd sent
Mirrors-touched p q area marks touched (Some d) None paints same sent = absurd sent
Mirrors-touched p q area marks touched (Some d) (Some e) paints same sent = record {
  width = sent.width ∙ (same.width ∙ sym paints.size.width);
  height = sent.height ∙ (same.height ∙ sym paints.size.height);
  cells = λ x y hx hy.
      let wide : x < p.width = omega (arith, paints.size.width, hx) in
      let high : y < p.height = omega (arith, paints.size.height, hy) in
      let here = covers area x y && on_screen touched area x y in
      sent.cells x y (omega (arith, same.width, wide)) (omega (arith, same.height, high))
      ∙ (touched_after (cell_at q) (on_screen touched area) area x y (device_cell d x y)
      ∙ choice_is here (cell_at q x y) (device_cell d x y) (cell_at q x y) (λ yes. refl)
      (λ no. same.cells x y wide high ∙ sym (if_not here (pane_cell area marks x y) (cell_at p x y) (cell_at q x y) no (paints.cells x y wide high))));
}

-- a screen that is not stale agrees with its device once the touched places of the area were sent
pub touched_agrees : (stale : Bool) (p q : Picture) (area : Area) (marks : List (Mark Item)) (touched : ℤ → ℤ → Bool) (a b : Option device.Picture)
    (broken cleared broken_now cleared_now : Bool) → stale ≡ false
    → PaintsTouched p q area marks touched → Agree stale p broken cleared a → Plays a b (touched_ops (cell_at q) (on_screen touched area) area) []
    → broken_now ≡ false → cleared_now ≡ true → Agree stale q broken_now cleared_now b
touched_agrees true p q area marks touched a b broken cleared broken_now cleared_now fresh paints before sent whole begun = absurd (wrong (sym fresh))
touched_agrees false p q area marks touched a b broken cleared broken_now cleared_now fresh paints before sent whole begun =
    record { whole = whole; begun = begun; mirrors = Mirrors-touched p q area marks touched a b paints before.mirrors sent }

-- ---- the bytes of a paint

-- the operations of the touched places of an area that were painted are those of its pane
touched_pane : (old new : Picture) (area : Area) (marks : List (Mark Item)) (touched : ℤ → ℤ → Bool) → LiesIn area old
    → PaintsTouched old new area marks touched → touched_ops (cell_at new) (on_screen touched area) area ≡ touched_pane_ops area marks touched
touched_pane old new area marks touched lies paints =
    touched-cells (cell_at new) (pane_cell area marks) (on_screen touched area) area
    (λ u v here yes. if_so (covers area u v && on_screen touched area u v) (pane_cell area marks u v) (cell_at old u v) (cell_at new u v)
    (both (covers area u v) (on_screen touched area u v) here yes)
    (paints.cells u v (left_of area old u v lies here) (above area old u v lies here)))

-- what was sent of the touched places is what is sent of its pane
pub SendsUnless-touched : (stale : Bool) (painted : answer.Painted) (a b : Option (List ℕ)) (old new : Picture) (area : Area)
    (marks : List (Mark Item)) (touched : ℤ → ℤ → Bool) (x y : ℕ) → stale ≡ false → LiesIn area old → PaintsTouched old new area marks touched
    → PaintSends painted a b (ops_bytes (touched_ops (cell_at new) (on_screen touched area) area)) x y
    → SendsUnless stale painted a b (ops_bytes (touched_pane_ops area marks touched)) x y
SendsUnless-touched true painted a b old new area marks touched x y fresh lies paints sent = absurd (wrong (sym fresh))
SendsUnless-touched false painted a b old new area marks touched x y fresh lies paints sent =
    subst (λ (ops : List Op). PaintSends painted a b (ops_bytes ops) x y) (touched_pane old new area marks touched lies paints) sent

-- ---- the steps of a row and of an area

-- the first of the spans that are left was shown
pub span_step : (p : Picture) (a b c : Option device.Picture) (all : List Op) (glyphs inks : List ℕ) (left width y l r : ℕ) (row : List Span) (d : Span) (i : ℕ)
    → i < length row → l ≡ left + clip_to (get_or row i d).x1 width → r ≡ left + clip_to (get_or row i d).x2 width → left + width ≤ p.width
    → glyphs ≡ row_of p.glyphs p.width y → inks ≡ row_of p.inks p.width y
    → Plays a b all (span_ops (cell_at p) left width y (drop i row)) → Plays b c (list_ops glyphs inks y l (r - l)) []
    → Plays a c all (span_ops (cell_at p) left width y (drop (i + 1) row))
span_step p a b c all glyphs inks left width y l r row d i less is_l is_r most is_glyphs is_inks before shown =
    Plays-more a b c all _ (span_ops (cell_at p) left width y (drop (i + 1) row))
    (subst (λ (ops : List Op). Plays a b all ops) (span_ops-next p glyphs inks left width y l r row d i less is_l is_r most is_glyphs is_inks) before) shown

-- its bytes come first
pub span_bytes : (p : Picture) (glyphs inks : List ℕ) (left width y l r : ℕ) (row : List Span) (d : Span) (i : ℕ)
    → i < length row → l ≡ left + clip_to (get_or row i d).x1 width → r ≡ left + clip_to (get_or row i d).x2 width → left + width ≤ p.width
    → glyphs ≡ row_of p.glyphs p.width y → inks ≡ row_of p.inks p.width y
    → ops_bytes (span_ops (cell_at p) left width y (drop i row))
    ≡ ops_bytes (list_ops glyphs inks y l (r - l)) ++ ops_bytes (span_ops (cell_at p) left width y (drop (i + 1) row))
span_bytes p glyphs inks left width y l r row d i less is_l is_r most is_glyphs is_inks =
    ap ops_bytes (span_ops-next p glyphs inks left width y l r row d i less is_l is_r most is_glyphs is_inks)
    ∙ ops_bytes-append (list_ops glyphs inks y l (r - l)) (span_ops (cell_at p) left width y (drop (i + 1) row))

module _ (cell : (x y : ℕ) → Painted) (s : SpanRows) (area : Area) (y end : ℕ) (row : List Span) where
  -- what is touched of rows up to an end is what the spans of the first one tell, and what is touched of the others
  touched-next : LieIn (spans_hold s) area → y < end → row ≡ spans.row_of s (pos (y - area.y)) → AreRuns row
      → touched_rows_ops cell (on_screen (spans_hold s) area) area.x area.width y (end - y)
      ≡ span_ops cell area.x area.width y row ++ touched_rows_ops cell (on_screen (spans_hold s) area) area.x area.width (y + 1) (end - (y + 1))
  touched-next lie less is_row runs =
      let rest = touched_rows_ops cell (on_screen (spans_hold s) area) area.x area.width (y + 1) (end - (y + 1)) in
      touched_rows-next cell (on_screen (spans_hold s) area) area.x area.width y end less
      ∙ (ap (λ (ops : List Op). ops ++ rest) (touched_row-spans cell s area y lie (subst AreRuns is_row runs))
      ∙ ap (λ (row : List Span). span_ops cell area.x area.width y row ++ rest) (sym is_row))

  -- the spans of the first of some rows were shown
  pub touched_step : (a b c : Option device.Picture) (all : List Op) → LieIn (spans_hold s) area → y < end → row ≡ spans.row_of s (pos (y - area.y)) → AreRuns row
      → Plays a b all (touched_rows_ops cell (on_screen (spans_hold s) area) area.x area.width y (end - y))
      → Plays b c (span_ops cell area.x area.width y row) []
      → Plays a c all (touched_rows_ops cell (on_screen (spans_hold s) area) area.x area.width (y + 1) (end - (y + 1)))
  touched_step a b c all lie less is_row runs before shown =
      Plays-more a b c all (span_ops cell area.x area.width y row) _
      (subst (λ (ops : List Op). Plays a b all ops) (touched-next lie less is_row runs) before) shown

  -- their bytes come first
  pub touched_bytes : LieIn (spans_hold s) area → y < end → row ≡ spans.row_of s (pos (y - area.y)) → AreRuns row
      → ops_bytes (touched_rows_ops cell (on_screen (spans_hold s) area) area.x area.width y (end - y))
      ≡ ops_bytes (span_ops cell area.x area.width y row)
      ++ ops_bytes (touched_rows_ops cell (on_screen (spans_hold s) area) area.x area.width (y + 1) (end - (y + 1)))
  touched_bytes lie less is_row runs =
      ap ops_bytes (touched-next lie less is_row runs)
      ∙ ops_bytes-append (span_ops cell area.x area.width y row)
      (touched_rows_ops cell (on_screen (spans_hold s) area) area.x area.width (y + 1) (end - (y + 1)))
