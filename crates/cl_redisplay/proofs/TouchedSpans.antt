-- The touched cells of a row that spans tell: their runs are those of the spans, one span after another.
use Rattle.std.proofs.Common.{◌≡◌, ℕ, zero, suc, ◌+◌, ◌-◌, ◌<◌, ◌≤◌, ℤ, pos, negsuc, ◌-ℤ◌, ◌≤ℤ◌, ◌<ℤ◌, Bool, true, false, ◌||◌, List, [], ◌∷◌, ◌++◌, length, get_or, drop, map, refl, sym, ◌∙◌, ap, arith, append-nil, drop-cons}
use Rattle.std.proofs.lemmas.Int.{ints}
use Rattle.std.proofs.lemmas.List.{map-append}
use Rattle.cl_medium.specs.Items.{Painted}
use Rattle.cl_outside.specs.Operations.{Op}
use Rattle.cl_raster.specs.Raster.{Picture, clip_to, row_of}
use Rattle.cl_region.proofs.Corners.{and_left, and_right, from_between, none_held, to_between}
use Rattle.cl_region.proofs.Cuts.{or_elim, or_left, or_right}
use Rattle.cl_region.specs.Places.{holds, is_between}
use Rattle.cl_spans.proofs.RunLemmas.{some_held}
use Rattle.cl_spans.specs.Runs.{AreRuns, BeginAfter, row_holds}
use Rattle.cl_spans.specs.SpanRows.{SpanRows, spans_hold}
use Rattle.cl_spans.specs.SpanRows as spans
use Rattle.cl_spans.specs.declared.runs.Span.{Span}
use Rattle.cl_redisplay.specs.Operations.{Run, row_cells, run_op, runs_from}
use Rattle.cl_redisplay.specs.Paint.{cell_at, own_rect}
use Rattle.cl_redisplay.specs.Sending.{list_ops}
use Rattle.cl_redisplay.specs.Touching.{LieIn, on_screen, touched_columns, touched_row_ops, touched_runs}
use Rattle.cl_redisplay.specs.TouchedSending.{span_ops, span_runs}
use Rattle.cl_redisplay.specs.declared.areas.Area.{Area}
use Rattle.cl_redisplay.proofs.PartLemmas.{clipped_most}
use Rattle.cl_redisplay.proofs.Runs.{list_ops-row}
use Rattle.cl_redisplay.proofs.TouchedRuns.{touched-none, touched-stretch}

-- ---- columns that spans hold

-- runs that begin behind a column hold columns behind it alone
held_behind : (e : ℤ) (xs : List Span) (x : ℤ) → AreRuns xs → BeginAfter e xs → row_holds xs x ≡ true → e <ℤ x
held_behind e [] x r b h = cc
held_behind e (s ∷ rest) x r b h =
    or_elim (is_between s.x1 x s.x2) (row_holds rest x)
    (λ first. let w = from_between s.x1 x s.x2 first in omega (arith, ints, w.0, b))
    (λ behind. let w = held_behind s.x2 rest x r.2 r.1 behind in omega (arith, ints, w, b, r.0)) h

-- each column that the spans hold is at least the first one and below the width
pub record HeldWithin (first width : ℕ) (row : List Span) : Type 0 where
  pub each : (x : ℤ) → row_holds row x ≡ true → (pos first ≤ℤ x) × (x <ℤ pos width)

-- a span that holds a column is not clipped
clip_is : (z : ℤ) (w : ℕ) → pos 0 ≤ℤ z → z ≤ℤ pos w → z ≡ pos (clip_to z w)
clip_is (pos n) w h k = omega (arith, ints, h, k)
clip_is (negsuc n) w h k = absurd (omega (arith, ints, h))

-- the ends of the first span as columns
pub record AreEnds (first width : ℕ) (s : Span) : Type 0 where
  pub left : s.x1 ≡ pos (clip_to s.x1 width)
  pub right : s.x2 ≡ pos (clip_to s.x2 width)
  pub from : first ≤ clip_to s.x1 width
  pub some : clip_to s.x1 width < clip_to s.x2 width
  pub most : clip_to s.x2 width ≤ width

ends_by : (s : Span) (first width l r : ℕ) → l ≡ clip_to s.x1 width → r ≡ clip_to s.x2 width → s.x1 ≡ pos l → s.x2 ≡ pos r
    → pos first ≤ℤ s.x1 → s.x1 <ℤ s.x2 → s.x2 ≤ℤ pos width → AreEnds first width s
ends_by s first width l r is_l is_r left right from some most =
    let a : first ≤ l = omega (arith, ints, left, from) in
    let b : l < r = omega (arith, ints, left, right, some) in
    let c : r ≤ width = omega (arith, ints, right, most) in
    record {
      left = left ∙ ap pos is_l;
      right = right ∙ ap pos is_r;
      from = omega (arith, a, is_l);
      some = omega (arith, b, is_l, is_r);
      most = omega (arith, c, is_r);
    }

last_held : (s : Span) (rest : List Span) → s.x1 <ℤ s.x2 → row_holds (s ∷ rest) (s.x2 -ℤ pos 1) ≡ true
last_held s rest h =
    or_left (is_between s.x1 (s.x2 -ℤ pos 1) s.x2) (row_holds rest (s.x2 -ℤ pos 1))
    (to_between s.x1 (s.x2 -ℤ pos 1) s.x2 (omega (arith, ints, h)) (omega (arith, ints)))

ends_of : (s : Span) (rest : List Span) (first width : ℕ) → AreRuns (s ∷ rest) → HeldWithin first width (s ∷ rest) → AreEnds first width s
ends_of s rest first width r within =
    let low : pos first ≤ℤ s.x1 = (within.each s.x1 (some_held s rest r)).0 in
    let high : (s.x2 -ℤ pos 1) <ℤ pos width = (within.each (s.x2 -ℤ pos 1) (last_held s rest r.0)).1 in
    let some : s.x1 <ℤ s.x2 = r.0 in
    let most : s.x2 ≤ℤ pos width = omega (arith, ints, high) in
    ends_by s first width (clip_to s.x1 width) (clip_to s.x2 width) refl refl
    (clip_is s.x1 width (omega (arith, ints, low)) (omega (arith, ints, some, most)))
    (clip_is s.x2 width (omega (arith, ints, low, some)) most)
    low some most

rest_within : (s : Span) (rest : List Span) (first width : ℕ) → AreRuns (s ∷ rest) → HeldWithin first width (s ∷ rest)
    → AreEnds first width s → HeldWithin (clip_to s.x2 width) width rest
rest_within s rest first width r within ends = record {
  each = λ x h.
      let behind = held_behind s.x2 rest x r.2 r.1 h in
      let e : s.x2 ≡ pos (clip_to s.x2 width) = ends.right in
      let le : pos (clip_to s.x2 width) ≤ℤ x = omega (arith, ints, behind, e) in
      (le, (within.each x (or_right (is_between s.x1 x s.x2) (row_holds rest x) h)).1);
}

-- ---- the runs of a row

-- columns before a span, in it, and behind it
out_of_first : (s : Span) (x : ℤ) → (s.x1 ≤ℤ x → x <ℤ s.x2 → ⊥) → is_between s.x1 x s.x2 ≡ false
out_of_first s x f = none_held (is_between s.x1 x s.x2) (λ h. let w = from_between s.x1 x s.x2 h in f w.0 w.1)

free_up_to : (s : Span) (rest : List Span) (x : ℤ) → AreRuns (s ∷ rest) → (s.x1 ≤ℤ x → x <ℤ s.x2 → ⊥) → x ≤ℤ s.x2 → row_holds (s ∷ rest) x ≡ false
free_up_to s rest x r out before =
    let first : is_between s.x1 x s.x2 ≡ false = out_of_first s x out in
    rw first
    (none_held (row_holds rest x) (λ h. let behind = held_behind s.x2 rest x r.2 r.1 h in omega (arith, ints, behind, before)))

-- the columns from one on are touched where the spans hold them
pub record TouchedBy (t : ℕ → Bool) (left first : ℕ) (row : List Span) : Type 0 where
  pub each : (u : ℕ) → left + first ≤ u → t u ≡ row_holds row (pos (u - left))

rest_touched : (t : ℕ → Bool) (left first b : ℕ) (s : Span) (rest : List Span) → first ≤ b → s.x2 ≡ pos b → TouchedBy t left first (s ∷ rest)
    → TouchedBy t left b rest
rest_touched t left first b s rest later e by = record {
  each = λ u h.
      let at : b ≤ u - left = omega (arith, h) in
      let out : is_between s.x1 (pos (u - left)) s.x2 ≡ false = out_of_first s (pos (u - left)) (λ k l. omega (arith, ints, e, l, at)) in
      by.each u (omega (arith, h, later)) ∙ ap (λ (p : Bool). p || row_holds rest (pos (u - left))) out;
}

-- the runs of the touched cells from a column on are those of the spans from there on
pub touched-spans : (cell : ℕ → Painted) (t : ℕ → Bool) (left width first : ℕ) (row : List Span) → AreRuns row → HeldWithin first width row
    → TouchedBy t left first row → first ≤ width → touched_runs cell t (left + first) (width - first) ≡ span_runs cell left width row
touched-spans cell t left width first [] r within by most =
    touched-none cell t (left + first) (width - first) 0 (width - first) (left + first + (width - first)) (omega arith) refl (λ u h k. by.each u h)
touched-spans cell t left width first (s ∷ rest) r within by most =
    let ends = ends_of s rest first width r within in
    let a = clip_to s.x1 width in
    let b = clip_to s.x2 width in
    let left_is : s.x1 ≡ pos a = ends.left in
    let right_is : s.x2 ≡ pos b = ends.right in
    let from : first ≤ a = ends.from in
    let some : a < b = ends.some in
    let top : b ≤ width = ends.most in
    touched-none cell t (left + first) (a - first) (width - a) (width - first) (left + a) (omega (arith, from, some, top)) (omega (arith, from))
    (λ u h k. let at : u - left < a = omega (arith, h, k) in
    by.each u h ∙ free_up_to s rest (pos (u - left)) r (λ i j. omega (arith, ints, left_is, i, at)) (omega (arith, ints, right_is, at, some)))
    ∙ (touched-stretch cell t (left + a) (b - a) (width - b) (width - a) (left + b) (omega (arith, some, top)) (omega (arith, some))
    (λ u h k. let low : a ≤ u - left = omega (arith, h) in
    let high : u - left < b = omega (arith, h, k) in
    by.each u (omega (arith, h, from))
    ∙ or_left (is_between s.x1 (pos (u - left)) s.x2) (row_holds rest (pos (u - left)))
    (to_between s.x1 (pos (u - left)) s.x2 (omega (arith, ints, left_is, low)) (omega (arith, ints, right_is, high))))
    (λ more. let at : left + b - left ≡ b = omega arith in
    by.each (left + b) (omega (arith, from, some))
    ∙ free_up_to s rest (pos (left + b - left)) r (λ i j. omega (arith, ints, right_is, j, at)) (omega (arith, ints, right_is, at)))
    ∙ ap (λ (runs : List Run). runs_from cell (left + a) (b - a) ++ runs)
    (touched-spans cell t left width b rest r.2 (rest_within s rest first width r within ends) (rest_touched t left first b s rest (omega (arith, from, some)) right_is by) top))

-- ---- the rows of an area

row_within : (s : SpanRows) (area : Area) (y : ℤ) → LieIn (spans_hold s) area → HeldWithin 0 area.width (spans.row_of s y)
row_within s area y lie = record {
  each = λ x h.
      from_between (pos 0) x (pos area.width)
      (and_left (is_between (pos 0) x (pos area.width)) (is_between (pos 0) y (pos area.height)) (lie.within x y h));
}

-- what is touched of a row of the area
pub touched_row-spans : (cell : (x y : ℕ) → Painted) (s : SpanRows) (area : Area) (y : ℕ) → LieIn (spans_hold s) area
    → AreRuns (spans.row_of s (pos (y - area.y)))
    → touched_row_ops cell (on_screen (spans_hold s) area) y area.x area.width ≡ span_ops cell area.x area.width y (spans.row_of s (pos (y - area.y)))
touched_row-spans cell s area y lie r =
    let row = spans.row_of s (pos (y - area.y)) in
    let t = touched_columns (on_screen (spans_hold s) area) y in
    let by : TouchedBy t area.x 0 row = record { each = λ u h. refl } in
    let at : area.x + 0 ≡ area.x = omega arith in
    let count : area.width - 0 ≡ area.width = omega arith in
    ap (map (run_op y))
    (rw (at, count) at (touched-spans (row_cells cell y) t area.x area.width 0 row r (row_within s area (pos (y - area.y)) lie) by (omega arith)))

-- ---- the steps of a row

-- the first of the spans that are left, and those behind it
pub span_ops-next : (p : Picture) (glyphs inks : List ℕ) (left width y l r : ℕ) (row : List Span) (d : Span) (i : ℕ) → i < length row
    → l ≡ left + clip_to (get_or row i d).x1 width → r ≡ left + clip_to (get_or row i d).x2 width → left + width ≤ p.width
    → glyphs ≡ row_of p.glyphs p.width y → inks ≡ row_of p.inks p.width y
    → span_ops (cell_at p) left width y (drop i row) ≡ list_ops glyphs inks y l (r - l) ++ span_ops (cell_at p) left width y (drop (i + 1) row)
span_ops-next p glyphs inks left width y l r row d i less is_l is_r most is_glyphs is_inks =
    let s = get_or row i d in
    let next : suc i ≡ i + 1 = omega arith in
    let step : drop i row ≡ s ∷ drop (i + 1) row = drop-cons row i d less ∙ ap (λ (n : ℕ). s ∷ drop n row) next in
    let count : r - l ≡ clip_to s.x2 width - clip_to s.x1 width = omega (arith, is_l, is_r) in
    let within : left + clip_to s.x1 width + (clip_to s.x2 width - clip_to s.x1 width) ≤ p.width =
    omega (arith, most, clipped_most s.x1 width, clipped_most s.x2 width) in
    rw (step, is_glyphs, is_inks, count, is_l)
    (map-append (run_op y) (runs_from (row_cells (cell_at p) y) (left + clip_to s.x1 width) (clip_to s.x2 width - clip_to s.x1 width))
    (span_runs (row_cells (cell_at p) y) left width (drop (i + 1) row))
    ∙ ap (λ (ops : List Op). ops ++ span_ops (cell_at p) left width y (drop (i + 1) row))
    (sym (list_ops-row p y (left + clip_to s.x1 width) (clip_to s.x2 width - clip_to s.x1 width) within)))
