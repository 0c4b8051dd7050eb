-- Rows to which rectangles have been added in their order from the left.
use Rattle.std.proofs.Common.{◌≡◌, ℕ, ℤ, pos, ◌+◌, ◌≤◌, ◌+ℤ◌, ◌-ℤ◌, ◌<◌, Bool, true, false, not, ◌&&◌, ◌||◌, List, [], ◌∷◌, ◌++◌, length, get_or, take, drop, refl, sym, ◌∙◌, ap, subst, arith}
use Rattle.std.specs.Prelude.{unsigned_abs}
use Rattle.std.specs.Int.{int_max}
use Rattle.std.specs.List.{list_any}
use Rattle.std.specs.List.Sorted.{IsPermutation}
use Rattle.std.proofs.lemmas.Int.{ints, clamps}
use Rattle.std.proofs.lemmas.List.{drop_more, take_all, take_more}
use Rattle.std.proofs.lemmas.List.Sorted.{list_any-IsPermutation}
use Rattle.cl_region.specs.declared.rects.Rect.{Rect}
use Rattle.cl_region.specs.Places.{holds, intersection, is_between, is_thin, one_holds}
use Rattle.cl_region.proofs.Corners.{and_left, and_right, both, common-holds, corner_held, false_holds, from_between, none_held, thin_test, wrong}
use Rattle.cl_region.proofs.Cuts.{held-append, is_not}
use Rattle.cl_spans.specs.declared.runs.Span.{Span}
use Rattle.cl_spans.specs.Runs.{AreRuns, row_holds}
use Rattle.cl_spans.specs.SpanRows.{AllAreRuns, SpanRows, row_of, spans_hold}
use Rattle.cl_spans.specs.Extending.{extended}
use Rattle.cl_spans.specs.Filling.{BeginFrom, IsAdded, IsAscending, IsWithin, columns_of, has_row, row_count_of}
use Rattle.cl_spans.proofs.RunLemmas.{BegunBy, begun-extended, begun_further, by_test, held-extended, runs-extended}
use Rattle.cl_spans.proofs.RowLemmas.{all_runs, no_rows, row_behind}
use Rattle.cl_spans.proofs.AddLemmas.{thick_cell}

-- the spans begin no further to the right than what the next rectangle has in the clip
abbrev pub AreBegun : Rect → List Rect → SpanRows → Type 0
AreBegun clip [] s = Unit {0}
AreBegun clip (r ∷ rest) s = (y : ℤ) → BegunBy (int_max r.x1 clip.x1) (row_of s y)

-- rows to which some rectangles have been added, and others are left
pub record IsFilled (clip : Rect) (done left : List Rect) (s : SpanRows) : Type 0 where
  pub order : IsAscending left
  pub runs : (y : ℤ) → AreRuns (row_of s y)
  pub begun : AreBegun clip left s
  pub places : (x y : ℤ) → spans_hold s x y ≡ one_holds done x y && holds clip x y

thin_none : (r : Rect) (x y : ℤ) → is_thin r ≡ true → holds r x y ≡ false
thin_none r x y h = ((thin_test r (is_thin r) refl).0 h).holds_none x y

not_true : (b : Bool) → not b ≡ true → b ≡ false
not_true true h = absurd (wrong h)
not_true false h = refl

rows_of_thick : (part : Rect) (y : ℤ) → has_row part y ≡ true → is_thin part ≡ false
rows_of_thick part y h = not_true (is_thin part) (and_left (not (is_thin part)) (is_between part.y1 y part.y2) h)

no_row : (part : Rect) (x y : ℤ) → has_row part y ≡ false → holds part x y ≡ false
no_row part x y h =
    none_held (holds part x y)
    (λ k. false_holds (has_row part y) h
    (both (not (is_thin part)) (is_between part.y1 y part.y2)
    (is_not (is_thin part) (λ t. false_holds (holds part x y) (thin_none part x y t) k))
    (and_right (is_between part.x1 x part.x2) (is_between part.y1 y part.y2) k)))

and_true : (p q : Bool) → q ≡ true → p ≡ p && q
and_true true q h = sym h
and_true false q h = refl

or_false : (p : Bool) → p || false ≡ p
or_false true = refl
or_false false = refl

within_both : (p q n : Bool) → (p && n) || (q && n) ≡ (p || (q || false)) && n
within_both true true true = refl
within_both true true false = refl
within_both true false true = refl
within_both true false false = refl
within_both false true true = refl
within_both false true false = refl
within_both false false n = refl

module _ (part : Rect) (old new : SpanRows) (added : IsAdded part old new) (y : ℤ) where
  by_row : (P : List Span → Type 0) → (has_row part y ≡ true → P (extended (row_of old y) (columns_of part))) → (has_row part y ≡ false → P (row_of old y)) → P (row_of new y)
  by_row P f g =
      subst P (sym (added.rows y)) (by_test P (has_row part y) (extended (row_of old y) (columns_of part)) (row_of old y) f g)

  runs_added : AreRuns (row_of old y) → BegunBy part.x1 (row_of old y) → AreRuns (row_of new y)
  runs_added r b =
      by_row AreRuns
      (λ h. runs-extended (row_of old y) (columns_of part) r b (thick_cell part (rows_of_thick part y h)).columns)
      (λ h. r)

  begun_added : BegunBy part.x1 (row_of old y) → BegunBy part.x1 (row_of new y)
  begun_added b = by_row (BegunBy part.x1) (λ h. begun-extended (row_of old y) (columns_of part) b) (λ h. b)

  held_added : (x : ℤ) → BegunBy part.x1 (row_of old y) → row_holds (row_of new y) x ≡ row_holds (row_of old y) x || holds part x y
  held_added x b =
      by_row (λ row. row_holds row x ≡ row_holds (row_of old y) x || holds part x y)
      (λ h. held-extended (row_of old y) (columns_of part) x b
      ∙ ap (λ p. row_holds (row_of old y) x || p)
      (and_true (is_between part.x1 x part.x2) (is_between part.y1 y part.y2) (and_right (not (is_thin part)) (is_between part.y1 y part.y2) h)))
      (λ h. sym (ap (λ p. row_holds (row_of old y) x || p) (no_row part x y h) ∙ or_false (row_holds (row_of old y) x)))

begun_next : (clip r : Rect) (rest : List Rect) (s : SpanRows) → BeginFrom r.x1 rest → ((y : ℤ) → BegunBy (int_max r.x1 clip.x1) (row_of s y)) → AreBegun clip rest s
begun_next clip r [] s h b = tt
begun_next clip r (t ∷ rest) s h b =
    λ y. begun_further (int_max r.x1 clip.x1) (int_max t.x1 clip.x1) (row_of s y) (omega (arith, ints, clamps, h)) (b y)

pub filled_more : (clip r : Rect) (done rest : List Rect) (old new : SpanRows)
    → IsFilled clip done (r ∷ rest) old → IsAdded (intersection r clip) old new → IsFilled clip (done ++ r ∷ []) rest new
filled_more clip r done rest old new f a =
    let part = intersection r clip in
    record {
      order = f.order.1;
      runs = λ y. runs_added part old new a y (f.runs y) (f.begun y);
      begun = begun_next clip r rest new f.order.0 (λ y. begun_added part old new a y (f.begun y));
      places = λ x y.
          held_added part old new a y x (f.begun y)
          ∙ (rw (f.places x y, common-holds r clip x y) (within_both (one_holds done x y) (holds r x y) (holds clip x y))
          ∙ ap (λ p. p && holds clip x y) (sym (held-append done (r ∷ []) x y)));
    }

any-holds : (rs : List Rect) (x y : ℤ) → one_holds rs x y ≡ list_any (λ r. holds r x y) rs
any-holds [] x y = refl
any-holds (r ∷ rs) x y = ap (λ p. holds r x y || p) (any-holds rs x y)

pub same_held : (rs ss : List Rect) (x y : ℤ) → IsPermutation rs ss → one_holds ss x y ≡ one_holds rs x y
same_held rs ss x y h =
    any-holds ss x y ∙ (sym (list_any-IsPermutation (λ r. holds r x y) rs ss h) ∙ sym (any-holds rs x y))

-- a loop's step
pub filled_step : (clip : Rect) (items : List Rect) (i : ℕ) (d : Rect) (old new : SpanRows) → i < length items
    → IsFilled clip (take i items) (drop i items) old → IsAdded (intersection (get_or items i d) clip) old new
    → IsFilled clip (take (i + 1) items) (drop (i + 1) items) new
filled_step clip items i d old new h f a =
    let g = subst (λ left. IsFilled clip (take i items) left old) (drop_more items i d h) f in
    subst (λ done. IsFilled clip done (drop (i + 1) items) new) (sym (take_more items i d h))
    (filled_more clip (get_or items i d) (take i items) (drop (i + 1) items) old new g a)

-- and its end, where the rectangles are others in their order
pub filled_all : (clip : Rect) (rects items left : List Rect) (i : ℕ) (s : SpanRows) → length items ≤ i → IsPermutation rects items
    → IsFilled clip (take i items) left s → (x y : ℤ) → spans_hold s x y ≡ one_holds rects x y && holds clip x y
filled_all clip rects items left i s h p f x y =
    f.places x y
    ∙ ap (λ b. b && holds clip x y) (ap (λ rs. one_holds rs x y) (take_all i items h) ∙ same_held rects items x y p)

begun_none : (clip : Rect) (left : List Rect) (s : SpanRows) → ((y : ℤ) → row_of s y ≡ []) → AreBegun clip left s
begun_none clip [] s e = tt
begun_none clip (r ∷ rest) s e = λ y. subst (BegunBy (int_max r.x1 clip.x1)) (sym (e y)) tt

pub filled_first : (clip : Rect) (left : List Rect) (s : SpanRows) → IsAscending left → ((i : ℕ) → get_or s.rows i [] ≡ []) → IsFilled clip [] left s
filled_first clip left s h e =
    let none = no_rows s e in
    record {
      order = h;
      runs = λ y. subst AreRuns (sym (none y)) tt;
      begun = begun_none clip left s none;
      places = λ x y. ap (λ row. row_holds row x) (none y);
    }

pub all_rows_are_runs : (s : SpanRows) → ((y : ℤ) → AreRuns (row_of s y)) → AllAreRuns s.rows
all_rows_are_runs s f = all_runs s.rows (λ i. subst AreRuns (row_behind s i) (f (s.first +ℤ pos i)))

thick_clip : (r clip : Rect) → is_thin (intersection r clip) ≡ false → is_thin clip ≡ false
thick_clip r clip h =
    let part = intersection r clip in
    let held = sym (common-holds r clip part.x1 part.y1) ∙ corner_held part (thick_cell part h) in
    none_held (is_thin clip)
    (λ k. false_holds (holds clip part.x1 part.y1) (thin_none clip part.x1 part.y1 k) (and_right (holds r part.x1 part.y1) (holds clip part.x1 part.y1) held))

counted : (clip : Rect) → is_thin clip ≡ false → row_count_of clip ≡ unsigned_abs (clip.y2 -ℤ clip.y1)
counted clip h = rw h refl

pub part_is_within : (r clip : Rect) (count : ℕ) → count ≡ row_count_of clip → IsWithin clip.y1 count (intersection r clip)
part_is_within r clip count e = record {
  from = λ y h k. let w = from_between (int_max r.y1 clip.y1) y (intersection r clip).y2 k in omega (arith, ints, clamps, w.0);
  below = λ y h k.
      let w = from_between (int_max r.y1 clip.y1) y (intersection r clip).y2 k in
      let n = e ∙ counted clip (thick_clip r clip h) in
      omega (arith, ints, clamps, w.0, w.1, n);
}
