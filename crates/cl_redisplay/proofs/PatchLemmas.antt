-- Items that are painted at some places of an area.
use Rattle.std.proofs.Common.{◌≡◌, ℕ, ◌+◌, ◌-◌, ◌<◌, ◌≤◌, ℤ, pos, ◌<ℤ◌, Bool, true, false, ◌&&◌, ◌||◌, if◌then◌else◌, List, [], ◌∷◌, ◌++◌, Option, Some, None}
use Rattle.std.proofs.Common.{refl, sym, ◌∙◌, ap, subst, arith}
use Rattle.std.specs.Prelude.{int_lt, nat_lt, unwrap_or}
use Rattle.std.specs.Int.{int_max, int_min}
use Rattle.std.proofs.lemmas.Bool.Decides.{nat_tests}
use Rattle.std.proofs.lemmas.Int.{ints, clamps}
use Rattle.cl_medium.specs.Items.{Item, Painted, item_cell}
use Rattle.cl_raster.proofs.Boxes.{clipped_high, clipped_low}
use Rattle.cl_raster.specs.Raster.{Picture, SameSize, clip_to}
use Rattle.cl_record.specs.Boxes.{items_box}
use Rattle.cl_record.specs.Marks.{Mark}
use Rattle.cl_record.specs.Replays.{cell_after, items_drawn}
use Rattle.cl_record.specs.Touches.{box_holds, item_holds}
use Rattle.cl_record.proofs.Touched.{item-outside}
use Rattle.cl_region.specs.Places.{holds, is_between}
use Rattle.cl_region.specs.declared.rects.Rect.{Rect}
use Rattle.cl_region.proofs.Corners.{and_left, and_right, both, false_holds, from_between, none_held, same_bool, to_between, wrong}
use Rattle.cl_region.proofs.Cuts.{or_elim, or_left, or_right}
use Rattle.cl_spans.specs.Runs.{row_holds}
use Rattle.cl_spans.specs.SpanRows.{SpanRows, row_of, spans_hold}
use Rattle.cl_spans.specs.declared.runs.Span.{Span}
use Rattle.cl_redisplay.specs.Paint.{Repaints, blank_cell, cell_at, covers}
use Rattle.cl_redisplay.specs.Parts.{IsPart, PaintsPart}
use Rattle.cl_redisplay.specs.Patches.{AreApartFrom, BoxIsApart, blank_everywhere, places_between, row_places, strip}
use Rattle.cl_redisplay.specs.Touching.{PaintsThose, PaintsTouched, on_screen}
use Rattle.cl_redisplay.specs.declared.areas.Area.{Area}
use Rattle.cl_redisplay.proofs.Choices.{chosen}
use Rattle.cl_redisplay.proofs.PartLemmas.{by_cases, passed, same_size, taken, twice, whole}

-- ---- choices

same_either : (b : Bool) (p : Painted) → p ≡ (if b then p else p)
same_either true p = refl
same_either false p = refl

-- ---- items behind others

module _ {A : Type 0} (cell : A → ℤ → ℤ → Option Painted) where
  cell_after-append : (xs ys : List A) (x y : ℤ) (under : Painted) → cell_after cell (xs ++ ys) x y under ≡ cell_after cell ys x y (cell_after cell xs x y under)
  cell_after-append [] ys x y under = refl
  cell_after-append (a ∷ xs) ys x y under = cell_after-append xs ys x y (unwrap_or (cell a x y) under)

  -- nothing is painted
  pub those_none : (p : Picture) (area : Area) (places : ℤ → ℤ → Bool) → PaintsThose cell p p area places []
  those_none p area places = record {
    size = record { width = refl; height = refl };
    cells = λ x y hx hy. same_either (covers area x y && on_screen places area x y) (cell_at p x y);
  }

  -- nothing is painted where there is no place
  pub those_nowhere : (p : Picture) (area : Area) (places : ℤ → ℤ → Bool) (items : List A)
      → ((x y : ℕ) → covers area x y && on_screen places area x y ≡ false) → PaintsThose cell p p area places items
  those_nowhere p area places items apart = record {
    size = record { width = refl; height = refl };
    cells = λ x y hx hy.
        passed (covers area x y && on_screen places area x y) (cell_at p x y) (cell_after cell items (pos (x - area.x)) (pos (y - area.y)) (cell_at p x y))
        (cell_at p x y) (apart x y) refl;
  }

  both_painted : (b : Bool) (xs ys : List A) (x y : ℤ) (p q r : Painted) → q ≡ (if b then cell_after cell xs x y p else p)
      → r ≡ (if b then cell_after cell ys x y q else q) → r ≡ (if b then cell_after cell (xs ++ ys) x y p else p)
  both_painted true xs ys x y p q r f g = g ∙ (ap (λ (c : Painted). cell_after cell ys x y c) f ∙ sym (cell_after-append xs ys x y p))
  both_painted false xs ys x y p q r f g = g ∙ f

  -- items, and others behind them
  pub those_both : (p q r : Picture) (area : Area) (places : ℤ → ℤ → Bool) (xs ys : List A) → PaintsThose cell p q area places xs
      → PaintsThose cell q r area places ys → PaintsThose cell p r area places (xs ++ ys)
  those_both p q r area places xs ys s t = record {
    size = same_size p q r s.size t.size;
    cells = λ x y hx hy.
        both_painted (covers area x y && on_screen places area x y) xs ys (pos (x - area.x)) (pos (y - area.y)) (cell_at p x y) (cell_at q x y) (cell_at r x y)
        (s.cells x y hx hy) (t.cells x y (omega (arith, s.size.width, hx)) (omega (arith, s.size.height, hy)));
  }

  -- ---- one item

  spread : (a b c : Bool) → a && (b || c) ≡ (a && b) || (a && c)
  spread true b c = refl
  spread false b c = refl

  -- painted at some places, and then at others
  pub those_joined : (p q r : Picture) (area : Area) (first second all : ℤ → ℤ → Bool) (item : A) → PaintsThose cell p q area first (item ∷ [])
      → PaintsThose cell q r area second (item ∷ []) → ((x y : ℤ) → all x y ≡ first x y || second x y) → PaintsThose cell p r area all (item ∷ [])
  those_joined p q r area first second all item s t e = record {
    size = same_size p q r s.size t.size;
    cells = λ x y hx hy.
        let i = pos (x - area.x) in
        let j = pos (y - area.y) in
        twice (cell item i j) (covers area x y && first i j) (covers area x y && second i j) (covers area x y && all i j)
        (cell_at p x y) (cell_at q x y) (cell_at r x y)
        (ap (λ (b : Bool). covers area x y && b) (e i j) ∙ spread (covers area x y) (first i j) (second i j))
        (s.cells x y hx hy) (t.cells x y (omega (arith, s.size.width, hx)) (omega (arith, s.size.height, hy)));
  }

  -- places that are left out, at which the item paints nothing
  left_out : (o : Option Painted) (in_area there some : Bool) (p q : Painted) → (in_area ≡ true → (c : Painted) → o ≡ Some c → some ≡ true)
      → q ≡ (if in_area && (there && some) then unwrap_or o p else p) → q ≡ (if in_area && there then unwrap_or o p else p)
  left_out o true true true p q f g = g
  left_out None true true false p q f g = g
  left_out (Some c) true true false p q f g = absurd (wrong (f refl c refl))
  left_out o true false some p q f g = g
  left_out o false there some p q f g = g

  pub those_between : (p q : Picture) (area : Area) (touched : ℤ → ℤ → Bool) (first last : ℕ) (item : A)
      → PaintsThose cell p q area (places_between touched first last) (item ∷ [])
      → ((x y : ℕ) (c : Painted) → covers area x y ≡ true → cell item (pos (x - area.x)) (pos (y - area.y)) ≡ Some c
      → is_between (pos first) (pos (y - area.y)) (pos last) ≡ true)
      → PaintsThose cell p q area touched (item ∷ [])
  those_between p q area touched first last item s f = record {
    size = s.size;
    cells = λ x y hx hy.
        let i = pos (x - area.x) in
        let j = pos (y - area.y) in
        left_out (cell item i j) (covers area x y) (touched i j) (is_between (pos first) j (pos last)) (cell_at p x y) (cell_at q x y)
        (λ here c e. f x y c here e) (s.cells x y hx hy);
  }

-- ---- rows

in_rows : (area : Area) (x y : ℕ) → covers area x y ≡ true → y - area.y < area.height
in_rows area x y h =
    let least : area.y ≤ y = grind (arith, nat_tests, h) in
    let less : y < area.y + area.height = grind (arith, nat_tests, h) in
    omega (arith, least, less)

never : (b c : Bool) → c ≡ false → b && c ≡ false
never true c h = h
never false c h = refl

here_is : (y : ℤ) (row : ℕ) → is_between (pos row) y (pos (row + 1)) ≡ true → y ≡ pos row
here_is y row h = let r = from_between (pos row) y (pos (row + 1)) h in omega (arith, ints, r.0, r.1)

-- the places of one row more
row_more : (touched : SpanRows) (first row : ℕ) → first ≤ row → (x y : ℤ)
    → places_between (spans_hold touched) first (row + 1) x y
    ≡ places_between (spans_hold touched) first row x y || row_places (row_of touched (pos row)) row x y
row_more touched first row less x y =
    let t = spans_hold touched x y in
    let r = row_holds (row_of touched (pos row)) x in
    let before = is_between (pos first) y (pos row) in
    let here = is_between (pos row) y (pos (row + 1)) in
    let all = is_between (pos first) y (pos (row + 1)) in
    same_bool (t && all) ((t && before) || (r && here))
    (λ h. let held = and_left t all h in
    let s = from_between (pos first) y (pos (row + 1)) (and_right t all h) in
    by_cases here
    (λ yes. or_right (t && before) (r && here)
    (both r here (subst (λ (z : ℤ). spans_hold touched x z ≡ true) (here_is y row yes) held) yes))
    (λ apart. or_left (t && before) (r && here)
    (both t before held (to_between (pos first) y (pos row) s.0
    (before_row y row s.1 apart)))))
    (λ h. or_elim (t && before) (r && here)
    (λ e. let s = from_between (pos first) y (pos row) (and_right t before e) in
    both t all (and_left t before e) (to_between (pos first) y (pos (row + 1)) s.0 (omega (arith, ints, s.1))))
    (λ e. let is = here_is y row (and_right r here e) in
    let s = from_between (pos row) y (pos (row + 1)) (and_right r here e) in
    both t all (subst (λ (z : ℤ). spans_hold touched x z ≡ true) (sym is) (and_left r here e))
    (to_between (pos first) y (pos (row + 1)) (omega (arith, ints, s.0, less)) s.1))
    h)
  where
    before_row : (y : ℤ) (row : ℕ) → y <ℤ pos (row + 1) → is_between (pos row) y (pos (row + 1)) ≡ false → y <ℤ pos row
    before_row y row above apart = grind (arith, ints, above, apart)

module _ {A : Type 0} (cell : A → ℤ → ℤ → Option Painted) where
  -- the item is painted at the touched places of the rows from one on and before another one
  pub record RowsPainted (old new : Picture) (area : Area) (touched : ℤ → ℤ → Bool) (first row : ℕ) (item : A) : Type 0 where
    pub order : first ≤ row
    pub those : PaintsThose cell old new area (places_between touched first row) (item ∷ [])

  pub one_row_painted : (p q r : Picture) (area : Area) (touched : SpanRows) (first row : ℕ) (item : A) → RowsPainted p q area (spans_hold touched) first row item
      → PaintsThose cell q r area (row_places (row_of touched (pos row)) row) (item ∷ []) → RowsPainted p r area (spans_hold touched) first (row + 1) item
  one_row_painted p q r area touched first row item h s = record {
    order = omega (arith, h.order);
    those = those_joined cell p q r area (places_between (spans_hold touched) first row) (row_places (row_of touched (pos row)) row)
        (places_between (spans_hold touched) first (row + 1)) item h.those s (row_more touched first row h.order);
  }

-- no touched place of one row more lies in the rectangle
pub apart_more : (touched : SpanRows) (row : ℕ) (rect : Rect) → AreApartFrom (spans_hold touched) row rect
    → ((x y : ℤ) → holds rect x y ≡ true → row_holds (row_of touched (pos row)) x ≡ false) → AreApartFrom (spans_hold touched) (row + 1) rect
apart_more touched row rect before here = λ x n less h.
    by_cases (nat_lt n row)
    (λ yes. before x n (grind (arith, nat_tests, yes)) h)
    (λ last. let is : n ≡ row = grind (arith, nat_tests, last, less) in
    subst (λ (k : ℕ). spans_hold touched x (pos k) ≡ false) (sym is) (here x (pos n) h))

-- nor does a place of one span more
pub span_apart : (s : Span) (rect : Rect) (rest : List Span) (x low high : ℤ) → low ≡ int_max s.x1 rect.x1 → high ≡ int_min s.x2 rect.x2
    → int_lt low high ≡ false → is_between rect.x1 x rect.x2 ≡ true → row_holds rest x ≡ false → row_holds (s ∷ rest) x ≡ false
span_apart s rect rest x low high l k e there rest_apart =
    neither (is_between s.x1 x s.x2) (row_holds rest x)
    (none_held (is_between s.x1 x s.x2) (λ h. let r = from_between s.x1 x s.x2 h in
    let q = from_between rect.x1 x rect.x2 there in
    let less : low <ℤ high = omega (arith, ints, clamps, l, k, r.0, r.1, q.0, q.1) in
    false_holds (int_lt low high) e (grind (arith, ints, less))))
    rest_apart
  where
    neither : (b c : Bool) → b ≡ false → c ≡ false → b || c ≡ false
    neither true c h e = h
    neither false c h e = e

-- ---- spans of a row

module _ {A : Type 0} (cell : A → ℤ → ℤ → Option Painted) where
  -- where the item is painted at the places of the spans that are left, it is painted at those of all
  pub record GoesAlong (first now : Picture) (area : Area) (item : A) (row : ℕ) (all left : List Span) : Type 0 where
    pub size : SameSize first now
    pub whole : (k : Picture) → PaintsThose cell now k area (row_places left row) (item ∷ [])
        → PaintsThose cell first k area (row_places all row) (item ∷ [])

  pub goes_along : (first now next : Picture) (area : Area) (item : A) (row : ℕ) (all left : List Span) (s : Span)
      → GoesAlong first now area item row all (s ∷ left) → PaintsThose cell now next area (holds (strip s row)) (item ∷ [])
      → GoesAlong first next area item row all left
  goes_along first now next area item row all left s h t = record {
    size = same_size first now next h.size t.size;
    whole = λ k r. h.whole k (those_joined cell now next k area (holds (strip s row)) (row_places left row) (row_places (s ∷ left) row) item t r
        (λ x y. span_more (is_between s.x1 x s.x2) (row_holds left x) (is_between (pos row) y (pos (row + 1)))));
  } where
    span_more : (a b c : Bool) → (a || b) && c ≡ (a && c) || (b && c)
    span_more true b true = refl
    span_more true b false = sym (never b false refl)
    span_more false b c = refl

  pub went_along : (first now : Picture) (area : Area) (item : A) (row : ℕ) (all : List Span) → GoesAlong first now area item row all []
      → PaintsThose cell first now area (row_places all row) (item ∷ [])
  went_along first now area item row all h = h.whole now (those_nowhere cell now area (row_places [] row) (item ∷ [])
      (λ x y. never (covers area x y) false refl))

-- ---- parts of the area

-- a part that was made blank
pub those_blank : (p q : Picture) (area part : Area) (rect : Rect) → IsPart part area rect → Repaints p q part []
    → PaintsThose blank_everywhere p q area (holds rect) (tt ∷ [])
those_blank p q area part rect h s = record {
  size = s.others.size;
  cells = λ x y hx hy.
      let there = covers area x y && holds rect (pos (x - area.x)) (pos (y - area.y)) in
      by_cases there
      (λ yes. taken there (cell_at q x y) blank_cell (cell_at p x y) yes (s.cells x y hx hy (h.places x y ∙ yes)))
      (λ apart. passed there (cell_at q x y) blank_cell (cell_at p x y) apart (s.others.cells x y hx hy (h.places x y ∙ apart)));
}

swapped : (a b c d : Bool) → d ≡ b && c → a && d ≡ (a && c) && b
swapped true true c d e = rw e (sym (and_true c)) where
  and_true : (c : Bool) → c && true ≡ c
  and_true true = refl
  and_true false = refl
swapped true false c d e = rw e (sym (never c false refl))
swapped false b c d e = refl

module _ {A : Type 0} (bounds : A → Rect) (cell : A → ℤ → ℤ → Option Painted) (within : (a : A) (x y : ℤ) (c : Painted) → cell a x y ≡ Some c → holds (bounds a) x y ≡ true) where
  -- an item that was painted at those places that its bounds have
  pub those_part : (p q : Picture) (area part : Area) (rect places : Rect) (item : A) → IsPart part area rect
      → ((x y : ℤ) → holds rect x y ≡ holds (bounds item) x y && holds places x y) → PaintsPart cell p q area part item
      → PaintsThose cell p q area (holds places) (item ∷ [])
  those_part p q area part rect places item h e s = record {
    size = s.size;
    cells = λ x y hx hy.
        let i = pos (x - area.x) in
        let j = pos (y - area.y) in
        whole (cell item i j) (covers part x y) (covers area x y && holds places i j) (holds (bounds item) i j) (cell_at p x y) (cell_at q x y)
        (h.places x y ∙ swapped (covers area x y) (holds (bounds item) i j) (holds places i j) (holds rect i j) (e i j))
        (within item i j) (s.cells x y hx hy);
  }

  -- an item that was painted in those rows that its bounds have
  pub those_bounded : (p q : Picture) (area : Area) (touched : ℤ → ℤ → Bool) (rect : Rect) (first bottom last : ℕ) (item : A) → rect ≡ bounds item
      → first ≡ clip_to rect.y1 area.height → bottom ≡ clip_to rect.y2 area.height → bottom ≤ last
      → PaintsThose cell p q area (places_between touched first last) (item ∷ []) → PaintsThose cell p q area touched (item ∷ [])
  those_bounded p q area touched rect first bottom last item is f b most s =
      those_between cell p q area touched first last item s (λ x y c here e.
      let j = pos (y - area.y) in
      let held : holds rect (pos (x - area.x)) j ≡ true = rw is (within item (pos (x - area.x)) j c e) in
      let r = from_between rect.y1 j rect.y2 (and_right (is_between rect.x1 (pos (x - area.x)) rect.x2) (is_between rect.y1 j rect.y2) held) in
      let low = clipped_low rect.y1 area.height (y - area.y) r.0 in
      let high = clipped_high rect.y2 area.height (y - area.y) (in_rows area x y here) r.1 in
      to_between (pos first) j (pos last) (omega (arith, ints, low, f)) (omega (arith, ints, high, b, most)))

  -- ---- items that are left out

  outside_of : (o : Option Painted) (b : Bool) (under : Painted) → ((c : Painted) → o ≡ Some c → b ≡ true) → b ≡ false → unwrap_or o under ≡ under
  outside_of None b under f h = refl
  outside_of (Some c) b under f h = absurd (false_holds b h (f c refl))

  or_first : (b c : Bool) → b || c ≡ false → b ≡ false
  or_first true c h = h
  or_first false c h = refl

  or_second : (b c : Bool) → b || c ≡ false → c ≡ false
  or_second true c h = absurd (wrong (sym h))
  or_second false c h = h

  -- none of the items has the place in its bounds
  none_paints : (items : List A) (x y : ℤ) (under : Painted) → item_holds bounds x y items ≡ false → cell_after cell items x y under ≡ under
  none_paints [] x y under h = refl
  none_paints (a ∷ items) x y under h =
      none_paints items x y (unwrap_or (cell a x y) under) (or_second (holds (bounds a) x y) (item_holds bounds x y items) h)
      ∙ outside_of (cell a x y) (holds (bounds a) x y) under (within a x y) (or_first (holds (bounds a) x y) (item_holds bounds x y items) h)

  box_apart : (touched : ℤ → ℤ → Bool) (height : ℕ) (o : Option Rect) (x : ℤ) (row : ℕ) → BoxIsApart touched height o → row < height
      → touched x (pos row) ≡ true → box_holds o x (pos row) ≡ false
  box_apart touched height None x row h less there = refl
  box_apart touched height (Some rect) x row h less there =
      none_held (holds rect x (pos row)) (λ held. false_holds (touched x (pos row)) (h x row less held) there)

  -- the box of the items has no touched place
  pub those_apart : (p : Picture) (area : Area) (touched : ℤ → ℤ → Bool) (items : List A) → BoxIsApart touched area.height (items_box bounds items)
      → PaintsThose cell p p area touched items
  those_apart p area touched items h = record {
    size = record { width = refl; height = refl };
    cells = λ x y hx hy.
        let i = pos (x - area.x) in
        let j = pos (y - area.y) in
        let there = covers area x y && touched i j in
        chosen there (cell_after cell items i j (cell_at p x y)) (cell_at p x y) (cell_at p x y)
        (λ yes. sym (none_paints items i j (cell_at p x y) (item-outside bounds i j items
        (box_apart touched area.height (items_box bounds items) i (y - area.y) h (in_rows area x y (and_left (covers area x y) (touched i j) yes))
        (and_right (covers area x y) (touched i j) yes)))))
        (λ apart. refl);
  }

-- ---- a whole history

-- the touched places were made blank, and then the items were painted there
pub those_of_marks : (p q r : Picture) (area : Area) (touched : ℤ → ℤ → Bool) (marks : List (Mark Item))
    → PaintsThose blank_everywhere p q area touched (tt ∷ []) → PaintsThose item_cell q r area touched (items_drawn marks)
    → PaintsTouched p r area marks touched
those_of_marks p q r area touched marks s t = record {
  size = same_size p q r s.size t.size;
  cells = λ x y hx hy.
      painted (covers area x y && on_screen touched area x y) (items_drawn marks) (pos (x - area.x)) (pos (y - area.y)) (cell_at p x y) (cell_at q x y) (cell_at r x y)
      (s.cells x y hx hy) (t.cells x y (omega (arith, s.size.width, hx)) (omega (arith, s.size.height, hy)));
} where
  painted : (b : Bool) (items : List Item) (x y : ℤ) (p q r : Painted) → q ≡ (if b then blank_cell else p)
      → r ≡ (if b then cell_after item_cell items x y q else q) → r ≡ (if b then cell_after item_cell items x y blank_cell else p)
  painted true items x y p q r e f = f ∙ ap (λ (c : Painted). cell_after item_cell items x y c) e
  painted false items x y p q r e f = f ∙ e
