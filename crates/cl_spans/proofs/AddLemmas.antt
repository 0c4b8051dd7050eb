-- How the columns of a part are put behind the spans of its rows.
use Rattle.std.proofs.Common.{◌≡◌, ℕ, ℤ, pos, ◌+ℤ◌, ◌-ℤ◌, ◌<◌, ◌≤ℤ◌, ◌<ℤ◌, false, if◌then◌else◌, List, [], length, get_or, set, length-set, refl, sym, ◌∙◌, ap, subst, arith}
use Rattle.std.specs.Prelude.{unsigned_abs, ◌≢◌}
use Rattle.std.specs.Global.{Vec}
use Rattle.std.proofs.lemmas.Int.{ints, by_lt_z}
use Rattle.std.proofs.lemmas.List.{get_or-set_other, get_or-set_same, length-map, map-set}
use Rattle.cl_region.specs.declared.rects.Rect.{Rect}
use Rattle.cl_region.specs.Places.{is_between, is_thin}
use Rattle.cl_region.proofs.Corners.{HasCell, false_holds, from_between, has_cell, none_held, same_bool, thin_test, to_between}
use Rattle.cl_spans.specs.declared.runs.Span.{Span}
use Rattle.cl_spans.specs.SpanRows.{row_of, rows_in}
use Rattle.cl_spans.specs.Extending.{extended}
use Rattle.cl_spans.specs.Filling.{IsAdded, IsWithin, columns_of, row_in, rows_from}
use Rattle.cl_spans.proofs.RowLemmas.{row_before, row_from}

abbrev items_of : Vec Span → List Span
items_of v = v.items

pub thick_cell : (r : Rect) → is_thin r ≡ false → HasCell r
thick_cell r h = has_cell r (λ e. false_holds (is_thin r) h ((thin_test r (is_thin r) refl).1 e))

-- the row that is written
set_row : (first y : ℤ) (vs : List (Vec Span)) (i : ℕ) (v : Vec Span) → first ≤ℤ y → i ≡ unsigned_abs (y -ℤ first) → i < length vs
    → row_of (rows_from first (set vs i v)) y ≡ v.items
set_row first y vs i v h e l =
    let within : i < length (rows_in vs) = rw length-map l in
    row_from (rows_from first (set vs i v)) y h
    ∙ (ap (λ j. get_or (rows_in (set vs i v)) j []) (sym e)
    ∙ (ap (λ rows. get_or rows i []) (map-set items_of vs i v) ∙ get_or-set_same (rows_in vs) i v.items [] within))

-- and any other
set_other : (first y z : ℤ) (vs : List (Vec Span)) (i : ℕ) (v : Vec Span) → first ≤ℤ y → i ≡ unsigned_abs (y -ℤ first) → (z ≡ y → ⊥)
    → row_of (rows_from first (set vs i v)) z ≡ row_of (rows_from first vs) z
set_other first y z vs i v h e n =
    by_lt_z {P = row_of (rows_from first (set vs i v)) z ≡ row_of (rows_from first vs) z} z first
    (λ before. row_before (rows_from first (set vs i v)) z before ∙ sym (row_before (rows_from first vs) z before))
    (λ from. let other : unsigned_abs (z -ℤ first) ≢ i = λ k. n (omega (arith, ints, e, k, h, from)) in
    row_from (rows_from first (set vs i v)) z from
    ∙ (ap (λ rows. get_or rows (unsigned_abs (z -ℤ first)) []) (map-set items_of vs i v)
    ∙ (get_or-set_other (rows_in vs) i (unsigned_abs (z -ℤ first)) v.items [] other
    ∙ sym (row_from (rows_from first vs) z from))))

-- the columns of a part are put behind the spans of its rows that come before a row
pub record IsAddedUpTo (part : Rect) (first y : ℤ) (old vs : List (Vec Span)) : Type 0 where
  pub top : part.y1 ≤ℤ y
  pub bottom : y ≤ℤ part.y2
  pub count : length vs ≡ length old
  pub rows : (z : ℤ) → row_of (rows_from first vs) z ≡ (if is_between part.y1 z y then extended (row_of (rows_from first old) z) (columns_of part) else row_of (rows_from first old) z)

not_between : (a z b : ℤ) → (z <ℤ b → a ≤ℤ z → ⊥) → is_between a z b ≡ false
not_between a z b f = none_held (is_between a z b) (λ h. let w = from_between a z b h in f w.1 w.0)

thick_rows : (part : Rect) → is_thin part ≡ false → part.y1 ≤ℤ part.y2
thick_rows part h = omega (arith, ints, (thick_cell part h).rows)

pub added_first : (part : Rect) (first : ℤ) (old : List (Vec Span)) → is_thin part ≡ false → IsAddedUpTo part first part.y1 old old
added_first part first old h = record {
  top = omega (arith, ints);
  bottom = thick_rows part h;
  count = refl;
  rows = λ z. rw (not_between part.y1 z part.y1 (λ h k. omega (arith, ints, h, k))) refl;
}

between_more : (a z y : ℤ) → (z ≡ y → ⊥) → is_between a z (y +ℤ pos 1) ≡ is_between a z y
between_more a z y n =
    same_bool (is_between a z (y +ℤ pos 1)) (is_between a z y)
    (λ h. let w = from_between a z (y +ℤ pos 1) h in to_between a z y w.0 (by_lt_z {P = z <ℤ y} z y (λ k. k) (λ k. absurd (n (omega (arith, ints, w.1, k))))))
    (λ h. let w = from_between a z y h in to_between a z (y +ℤ pos 1) w.0 (omega (arith, ints, w.1)))

module _ (part : Rect) (first y : ℤ) (old vs : List (Vec Span)) (i : ℕ) (v : Vec Span)
    (so_far : IsAddedUpTo part first y old vs)
    (bottom : y <ℤ part.y2) (from : first ≤ℤ y) (place : i ≡ unsigned_abs (y -ℤ first)) (within : i < length vs)
    (put : v.items ≡ extended (row_in vs i) (columns_of part)) where
  abbrev Goal : ℤ → Type 0
  Goal z =
      row_of (rows_from first (set vs i v)) z
      ≡ (if is_between part.y1 z (y +ℤ pos 1) then extended (row_of (rows_from first old) z) (columns_of part) else row_of (rows_from first old) z)

  added_here : Goal y
  added_here =
      let was : row_of (rows_from first vs) y ≡ row_of (rows_from first old) y =
      so_far.rows y ∙ rw (not_between part.y1 y y (λ h k. omega (arith, ints, h))) refl in
      set_row first y vs i v from place within
      ∙ (put
      ∙ (ap (λ row. extended row (columns_of part)) (ap (λ j. get_or (rows_in vs) j []) place ∙ (sym (row_from (rows_from first vs) y from) ∙ was))
      ∙ rw (to_between part.y1 y (y +ℤ pos 1) so_far.top (omega (arith, ints))) refl))

  added_elsewhere : (z : ℤ) → (z ≡ y → ⊥) → Goal z
  added_elsewhere z n =
      set_other first y z vs i v from place n
      ∙ (so_far.rows z ∙ ap (λ b. if b then extended (row_of (rows_from first old) z) (columns_of part) else row_of (rows_from first old) z) (sym (between_more part.y1 z y n)))

  added_at : (z : ℤ) → Goal z
  added_at z =
      by_lt_z {P = Goal z} z y
      (λ less. added_elsewhere z (λ e. omega (arith, ints, e, less)))
      (λ more. by_lt_z {P = Goal z} y z
      (λ further. added_elsewhere z (λ e. omega (arith, ints, e, further)))
      (λ same. let eq : y ≡ z = omega (arith, ints, more, same) in subst Goal eq added_here))

  pub added_more : IsAddedUpTo part first (y +ℤ pos 1) old (set vs i v)
  added_more = record {
    top = omega (arith, ints, so_far.top);
    bottom = omega (arith, ints, bottom);
    count = length-set vs i v ∙ so_far.count;
    rows = added_at;
  }

module _ (part : Rect) (first y : ℤ) (old vs : List (Vec Span)) where
  pub added_all : is_thin part ≡ false → part.y2 ≤ℤ y → IsAddedUpTo part first y old vs → IsAdded part (rows_from first old) (rows_from first vs)
  added_all h k a =
      let last : y ≡ part.y2 = omega (arith, ints, a.bottom, k) in
      record { rows = λ z. a.rows z ∙ rw (h, last) refl }

pub part_within : (first : ℤ) (count : ℕ) (part : Rect) (y : ℤ) → IsWithin first count part → is_thin part ≡ false → part.y1 ≤ℤ y → y <ℤ part.y2
    → (first ≤ℤ y) × (unsigned_abs (y -ℤ first) < count)
part_within first count part y w h k l =
    let has = to_between part.y1 y part.y2 k l in
    (w.from y h has, w.below y h has)
