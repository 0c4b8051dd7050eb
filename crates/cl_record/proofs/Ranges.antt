-- Where trees that hold together may stand.
use Rattle.std.proofs.Common.{◌≡◌, ◌↔◌, ℤ, ◌+ℤ◌, ◌≤ℤ◌, Bool, true, false, List, [], ◌∷◌, ◌++◌, length, Option, Some, None, refl, ◌∙◌, ap, sym, subst, arith}
use Rattle.std.specs.Prelude.{IfSome, ◌&&◌, not, if◌then◌else◌, is_none, is_some}
use Rattle.std.specs.Int.{int_max, int_min}
use Rattle.std.specs.Option.{option_map}
use Rattle.std.proofs.lemmas.Int.{ints, clamps}
use Rattle.cl_region.specs.Places.{IsInRange, IsNear, box, move_rect}
use Rattle.cl_region.specs.declared.rects.Rect.{Rect}
use Rattle.cl_region.specs.declared.rects.Shift.{Shift}
use Rattle.cl_region.proofs.Corners.{near-box, rect_is}
use Rattle.cl_record.specs.Boxes.{corner_box, extent_box, items_box, join_boxes, move_summary, summary_of}
use Rattle.cl_record.specs.Heads.{HeadAt}
use Rattle.cl_record.specs.Labels.{LabelAt}
use Rattle.cl_record.specs.Marks.{Mark, move_marks, open_update, close, draw, marks_of, marks_of_all, open_presentation}
use Rattle.cl_record.specs.Ranges.{AreInRange, ArePlaced, AreSound, HoldsCorners, IsMeasured, IsPlaceOf, IsPlaced, IsSound, StayInRange, StaysInRange}
use Rattle.cl_record.specs.Replays.{items_drawn}
use Rattle.cl_record.specs.Shifts.{IsFar, IsShift, join_shifts, still}
use Rattle.cl_record.specs.Trees.{Tree, Trees, are_bare, is_bare, leaf, none, update, presentation, tree}
use Rattle.cl_record.specs.declared.summaries.Summary.{Summary}
use Rattle.cl_record.proofs.Boxes.{box-move, extent_box-append, extent_box-move, join-none, summary-move}
use Rattle.cl_record.proofs.Moves.{moved-still, moved_twice}
use Rattle.cl_record.proofs.Replayed.{drawn-append}
use Rattle.std.proofs.lemmas.List.{append-nil}

-- ---- near numbers

near-first : (a b c d z : ℤ) → IsNear (int_min (int_min a b) (int_min c d) +ℤ z) → IsNear (int_max (int_max a b) (int_max c d) +ℤ z) → IsNear (a +ℤ z) × IsNear (b +ℤ z)
near-first a b c d z h k = (
  record { low = omega (arith, ints, clamps, h.low); high = omega (arith, ints, clamps, k.high) },
  record { low = omega (arith, ints, clamps, h.low); high = omega (arith, ints, clamps, k.high) },
)

near-second : (a b c d z : ℤ) → IsNear (int_min (int_min a b) (int_min c d) +ℤ z) → IsNear (int_max (int_max a b) (int_max c d) +ℤ z) → IsNear (c +ℤ z) × IsNear (d +ℤ z)
near-second a b c d z h k = (
  record { low = omega (arith, ints, clamps, h.low); high = omega (arith, ints, clamps, k.high) },
  record { low = omega (arith, ints, clamps, h.low); high = omega (arith, ints, clamps, k.high) },
)

near-min : (a b : ℤ) → IsNear a → IsNear b → IsNear (int_min a b)
near-min a b h k = record { low = omega (arith, ints, clamps, h.low, k.low); high = omega (arith, ints, clamps, h.high, k.high) }

near-max : (a b : ℤ) → IsNear a → IsNear b → IsNear (int_max a b)
near-max a b h k = record { low = omega (arith, ints, clamps, h.low, k.low); high = omega (arith, ints, clamps, h.high, k.high) }

near-around : (a b : Rect) → IsInRange a → IsInRange b → IsInRange (corner_box a b)
near-around a b h k = record {
  x1 = near-min _ _ (near-min _ _ h.x1 h.x2) (near-min _ _ k.x1 k.x2);
  y1 = near-min _ _ (near-min _ _ h.y1 h.y2) (near-min _ _ k.y1 k.y2);
  x2 = near-max _ _ (near-max _ _ h.x1 h.x2) (near-max _ _ k.x1 k.x2);
  y2 = near-max _ _ (near-max _ _ h.y1 h.y2) (near-max _ _ k.y1 k.y2);
}

around-first : (v : Shift) (a b : Rect) → IsInRange (move_rect v (corner_box a b)) → IsInRange (move_rect v a)
around-first v a b h =
    let columns = near-first a.x1 a.x2 b.x1 b.x2 v.dx h.x1 h.x2 in
    let rows = near-first a.y1 a.y2 b.y1 b.y2 v.dy h.y1 h.y2 in
    record { x1 = columns.0; y1 = rows.0; x2 = columns.1; y2 = rows.1 }

around-second : (v : Shift) (a b : Rect) → IsInRange (move_rect v (corner_box a b)) → IsInRange (move_rect v b)
around-second v a b h =
    let columns = near-second a.x1 a.x2 b.x1 b.x2 v.dx h.x1 h.x2 in
    let rows = near-second a.y1 a.y2 b.y1 b.y2 v.dy h.y1 h.y2 in
    record { x1 = columns.0; y1 = rows.0; x2 = columns.1; y2 = rows.1 }

-- ---- boxes in the range

-- a box, if there is one, is in the range when it is moved so far
abbrev pub Fits : Shift → Option Rect → Type 0
Fits v o = IfSome o (λ r. IsInRange (move_rect v r))

pub fits-first : (v : Shift) (o p : Option Rect) → Fits v (join_boxes corner_box o p) → Fits v o
fits-first v None p h = tt
fits-first v (Some a) None h = h
fits-first v (Some a) (Some b) h = around-first v a b h

pub fits-second : (v : Shift) (o p : Option Rect) → Fits v (join_boxes corner_box o p) → Fits v p
fits-second v None p h = h
fits-second v (Some a) None h = tt
fits-second v (Some a) (Some b) h = around-second v a b h

fits-box : (v : Shift) (o p : Option Rect) → Fits v o → Fits v p → Fits v (join_boxes box o p)
fits-box v None p h k = k
fits-box v (Some a) None h k = h
fits-box v (Some a) (Some b) h k = rw (box-move v a b) (near-box (move_rect v a) (move_rect v b) h k)

range-join : (o p : Option Rect) → IfSome o IsInRange → IfSome p IsInRange → IfSome (join_boxes corner_box o p) IsInRange
range-join None p h k = k
range-join (Some a) None h k = h
range-join (Some a) (Some b) h k = near-around a b h k

-- where a branch stands, what it holds is in the range
pub place-fits : (p : Shift) (o : Option Rect) → IsPlaceOf p o → Fits p o
place-fits p None h = tt
place-fits p (Some r) h = h

-- what is not moved stays in the range
pub still-place : (o : Option Rect) → IfSome o IsInRange → IsPlaceOf still o
still-place None h = refl
still-place (Some r) h = subst IsInRange (sym (moved-still r)) h

fits-twice : (p v : Shift) (o : Option Rect) → Fits v (option_map (move_rect p) o) → Fits (join_shifts p v) o
fits-twice p v None h = tt
fits-twice p v (Some r) h = subst IsInRange (moved_twice p v r) h

module _ {A : Type 0} (bounds : A → Rect) where
  -- where the extents fit, the items do
  pub items-fit : (v : Shift) (ms : List (Mark A)) → Fits v (extent_box bounds ms) → Fits v (items_box bounds (items_drawn ms))
  items-fit v [] h = tt
  items-fit v (draw a ∷ ms) h =
      fits-box v (Some (bounds a)) (items_box bounds (items_drawn ms)) (fits-first v (Some (bounds a)) (extent_box bounds ms) h)
      (items-fit v ms (fits-second v (Some (bounds a)) (extent_box bounds ms) h))
  items-fit v (open_presentation l ∷ ms) h = items-fit v ms h
  items-fit v (open_update k ∷ ms) h = items-fit v ms (fits-second v (Some k.measures.extent) (extent_box bounds ms) h)
  items-fit v (close ∷ ms) h = items-fit v ms h

-- ---- what is in the range as it stands

range-first : (o p : Option Rect) → IfSome (join_boxes corner_box o p) IsInRange → IfSome o IsInRange
range-first None p h = tt
range-first (Some a) None h = h
range-first (Some a) (Some b) h = subst IsInRange (moved-still a) (around-first still a b (subst IsInRange (sym (moved-still (corner_box a b))) h))

range-second : (o p : Option Rect) → IfSome (join_boxes corner_box o p) IsInRange → IfSome p IsInRange
range-second None p h = h
range-second (Some a) None h = tt
range-second (Some a) (Some b) h = subst IsInRange (moved-still b) (around-second still a b (subst IsInRange (sym (moved-still (corner_box a b))) h))

fits-moved : (v : Shift) (o : Option Rect) → Fits v o ↔ IfSome (option_map (move_rect v) o) IsInRange
fits-moved v None = ((λ h. h), (λ h. h))
fits-moved v (Some r) = ((λ h. h), (λ h. h))

module _ {A : Type 0} (bounds : A → Rect) where
  pub all-range : (ms : List (Mark A)) → IfSome (extent_box bounds ms) IsInRange ↔ AreInRange bounds ms
  all-range [] = ((λ h. tt), (λ h. tt))
  all-range (draw a ∷ ms) = (
    (λ h. (range-first (Some (bounds a)) (extent_box bounds ms) h, (all-range ms).0 (range-second (Some (bounds a)) (extent_box bounds ms) h))),
    (λ h. range-join (Some (bounds a)) (extent_box bounds ms) h.0 ((all-range ms).1 h.1)),
  )
  all-range (open_presentation l ∷ ms) = all-range ms
  all-range (open_update k ∷ ms) = (
    (λ h. (range-first (Some k.measures.extent) (extent_box bounds ms) h, (all-range ms).0 (range-second (Some k.measures.extent) (extent_box bounds ms) h))),
    (λ h. range-join (Some k.measures.extent) (extent_box bounds ms) h.0 ((all-range ms).1 h.1)),
  )
  all-range (close ∷ ms) = all-range ms

-- ---- a choice of places

some-none : (o : Option Rect) (b : Bool) → is_some o ≡ b → is_none o ≡ not b
some-none None true h = absurd (cc)
some-none None false h = refl
some-none (Some r) true h = refl
some-none (Some r) false h = absurd (cc)

pub elsewhere : (b : Bool) (p q : Shift) → b ≡ false → q ≡ (if b then p else q)
elsewhere true p q h = absurd (cc)
elsewhere false p q h = refl

pub stay_there : (b : Bool) (p q : Shift) → b ≡ true → p ≡ (if b then p else q)
stay_there true p q h = refl
stay_there false p q h = absurd (cc)

-- ---- far moves

far : (z v : ℤ) → IsNear z → IsNear (z +ℤ v) → IsFar v
far z v h k = record { low = omega (arith, ints, h.high, k.low); high = omega (arith, ints, h.low, k.high) }

-- between two places in the range is a move within it
pub shift_between : (v : Shift) (r : Rect) → IsInRange r → IsInRange (move_rect v r) → IsShift v
shift_between v r h k = record { dx = far r.x1 v.dx h.x1 k.x1; dy = far r.y1 v.dy h.y1 k.y1 }

unmoved : (v : Shift) → join_shifts still v ≡ v
unmoved v =
    let across : still.dx +ℤ v.dx ≡ v.dx = omega (arith, ints) in
    let down : still.dy +ℤ v.dy ≡ v.dy = omega (arith, ints) in
    λ i. record { dx = across i; dy = down i }

shift-inside : (p v : Shift) (o : Option Rect) → IsShift v → IfSome o IsInRange → IsPlaceOf p o → Fits (join_shifts p v) o → IsShift (join_shifts p v)
shift-inside p v None shift range place fits = subst (λ (q : Shift). IsShift (join_shifts q v)) (sym place) (subst IsShift (sym (unmoved v)) shift)
shift-inside p v (Some r) shift range place fits = shift_between (join_shifts p v) r range fits

-- ---- an extent that holds what is inside

low_is : (a b c d : ℤ) → a ≤ℤ b → a ≤ℤ c → a ≤ℤ d → int_min (int_min a b) (int_min c d) ≡ a
low_is a b c d h k l = omega (arith, ints, clamps, h, k, l)

high_is : (a b c d : ℤ) → a ≤ℤ b → c ≤ℤ b → d ≤ℤ b → int_max (int_max a b) (int_max c d) ≡ b
high_is a b c d h k l = omega (arith, ints, clamps, h, k, l)

sides : (a b c : ℤ) → a ≤ℤ b → b ≤ℤ c → a ≤ℤ c
sides a b c h k = omega (arith, ints, h, k)

held_by : (e : Rect) (o : Option Rect) → e.x1 ≤ℤ e.x2 → e.y1 ≤ℤ e.y2 → IfSome o (HoldsCorners e) → join_boxes corner_box (Some e) o ≡ Some e
held_by e None h k l = refl
held_by e (Some r) h k l =
    ap (λ (q : Rect). Some q)
    (rect_is e _ _ _ _ (low_is _ _ _ _ h l.first.left l.last.left) (low_is _ _ _ _ k l.first.top l.last.top)
    (high_is _ _ _ _ h l.first.right l.last.right) (high_is _ _ _ _ k l.first.bottom l.last.bottom))

-- ---- trees

module _ {A : Type 0} (bounds : A → Rect) (move : Shift → A → A) (bounds_move : (v : Shift) (a : A) → bounds (move v a) ≡ move_rect v (bounds a)) where
  row_box : Trees A → Option Rect
  row_box ts = extent_box bounds (marks_of_all move ts)

  behind-close : (ms : List (Mark A)) → extent_box bounds (ms ++ close ∷ []) ≡ extent_box bounds ms
  behind-close ms = extent_box-append bounds ms (close ∷ []) ∙ join-none corner_box (extent_box bounds ms)

  extent-shown : (l : LabelAt) (p : Shift) (ts : Trees A) → extent_box bounds (marks_of move (presentation l p ts)) ≡ option_map (move_rect p) (extent_box bounds (marks_of_all move ts))
  extent-shown l p ts =
      extent_box-move bounds move bounds_move p (open_presentation l ∷ (marks_of_all move ts ++ close ∷ []))
      ∙ ap (λ (o : Option Rect). option_map (move_rect p) o) (behind-close (marks_of_all move ts))

  extent-held : (h : HeadAt) (ts : Trees A) → IsMeasured bounds move h ts
      → extent_box bounds (open_update h ∷ (marks_of_all move ts ++ close ∷ [])) ≡ Some h.measures.extent
  extent-held h ts m =
      let e = h.measures.extent in
      ap (λ (o : Option Rect). join_boxes corner_box (Some e) o) (behind-close (marks_of_all move ts))
      ∙ held_by e (extent_box bounds (marks_of_all move ts)) (sides _ _ _ m.start.left m.start.right) (sides _ _ _ m.start.top m.start.bottom) m.inside

  extent-piece : (h : HeadAt) (p : Shift) (ts : Trees A) → IsMeasured bounds move h ts
      → extent_box bounds (marks_of move (update h p ts)) ≡ Some (move_rect p h.measures.extent)
  extent-piece h p ts m =
      extent_box-move bounds move bounds_move p (open_update h ∷ (marks_of_all move ts ++ close ∷ []))
      ∙ ap (λ (o : Option Rect). option_map (move_rect p) o) (extent-held h ts m)

  placed-range : (p : Shift) (o : Option Rect) → IsPlaceOf p o → IfSome (option_map (move_rect p) o) IsInRange
  placed-range p None h = tt
  placed-range p (Some r) h = h

  mutual
    pub tree-range : (t : Tree A) → IsSound bounds move t → IfSome (extent_box bounds (marks_of move t)) IsInRange
    tree-range (leaf a) h = h
    tree-range (presentation l p ts) h = rw (extent-shown l p ts) (placed-range p (extent_box bounds (marks_of_all move ts)) h.1)
    tree-range (update k p ts) h = rw (extent-piece k p ts h.1.0) h.1.1

    -- what holds together is in the range
    pub row-range : (ts : Trees A) → AreSound bounds move ts → IfSome (extent_box bounds (marks_of_all move ts)) IsInRange
    row-range none h = tt
    row-range (tree t ts) h =
        rw (extent_box-append bounds (marks_of move t) (marks_of_all move ts))
        (range-join (extent_box bounds (marks_of move t)) (extent_box bounds (marks_of_all move ts)) (tree-range t h.0) (row-range ts h.1))

  -- ---- the walk into trees

  row-fits : (v : Shift) (t : Tree A) (ts : Trees A) → StayInRange bounds move v (tree t ts)
      → Fits v (join_boxes corner_box (extent_box bounds (marks_of move t)) (extent_box bounds (marks_of_all move ts)))
  row-fits v t ts h = subst (λ (o : Option Rect). Fits v o) (extent_box-append bounds (marks_of move t) (marks_of_all move ts)) h

  pub placed-first : (v : Shift) (t : Tree A) (ts : Trees A) → ArePlaced bounds move v (tree t ts) → IsPlaced bounds move v t
  placed-first v t ts h = record {
    shift = h.shift;
    sound = h.sound.0;
    range = fits-first v (extent_box bounds (marks_of move t)) (extent_box bounds (marks_of_all move ts)) (row-fits v t ts h.range);
  }

  pub placed-rest : (v : Shift) (t : Tree A) (ts : Trees A) → ArePlaced bounds move v (tree t ts) → ArePlaced bounds move v ts
  placed-rest v t ts h = record {
    shift = h.shift;
    sound = h.sound.1;
    range = fits-second v (extent_box bounds (marks_of move t)) (extent_box bounds (marks_of_all move ts)) (row-fits v t ts h.range);
  }

  -- as they stand, trees are in the range
  pub placed-still : (ts : Trees A) → AreSound bounds move ts → ArePlaced bounds move still ts
  placed-still ts h = record {
    shift = record {
      dx = record { low = omega (arith, ints); high = omega (arith, ints) };
      dy = record { low = omega (arith, ints); high = omega (arith, ints) };
    };
    sound = h;
    range = place-fits still (extent_box bounds (marks_of_all move ts)) (still-place (extent_box bounds (marks_of_all move ts)) (row-range ts h));
  }

  fits-shown : (v p : Shift) (l : LabelAt) (ts : Trees A) → StaysInRange bounds move v (presentation l p ts) → StayInRange bounds move (join_shifts p v) ts
  fits-shown v p l ts h = fits-twice p v (extent_box bounds (marks_of_all move ts)) (subst (λ (o : Option Rect). Fits v o) (extent-shown l p ts) h)

  pub placed-shown : (v p : Shift) (l : LabelAt) (ts : Trees A) → IsPlaced bounds move v (presentation l p ts) → ArePlaced bounds move (join_shifts p v) ts
  placed-shown v p l ts h =
      let fits = fits-shown v p l ts h.range in
      record {
        shift = shift-inside p v (extent_box bounds (marks_of_all move ts)) h.shift (row-range ts h.sound.0) h.sound.1 fits;
        sound = h.sound.0;
        range = fits;
      }

  fits-piece : (v p : Shift) (k : HeadAt) (ts : Trees A) → IsMeasured bounds move k ts → StaysInRange bounds move v (update k p ts)
      → IsInRange (move_rect (join_shifts p v) k.measures.extent)
  fits-piece v p k ts m h =
      subst IsInRange (moved_twice p v k.measures.extent) (subst (λ (o : Option Rect). Fits v o) (extent-piece k p ts m) h)

  -- what an update holds is in the range where its extent is
  pub fits-inside : (v : Shift) (k : HeadAt) (ts : Trees A) → IsMeasured bounds move k ts → IsInRange (move_rect v k.measures.extent) → StayInRange bounds move v ts
  fits-inside v k ts m h =
      fits-second v (Some k.measures.extent) (extent_box bounds (marks_of_all move ts))
      (subst (λ (o : Option Rect). Fits v o)
      (sym (held_by k.measures.extent (extent_box bounds (marks_of_all move ts)) (sides _ _ _ m.start.left m.start.right) (sides _ _ _ m.start.top m.start.bottom) m.inside)) h)

  pub placed-piece : (v p : Shift) (k : HeadAt) (ts : Trees A) → IsPlaced bounds move v (update k p ts) → ArePlaced bounds move (join_shifts p v) ts
  placed-piece v p k ts h =
      let m = h.sound.1.0 in
      let fits = fits-piece v p k ts m h.range in
      record { shift = shift_between (join_shifts p v) k.measures.extent m.range fits; sound = h.sound.0; range = fits-inside (join_shifts p v) k ts m fits }

  -- ---- moves

  -- an update that may be moved
  pub record Moves (p v : Shift) (t : Tree A) : Type 0 where
    pub shift : IsShift (join_shifts p v)
    pub sound : IsSound bounds move t

  pub moves-piece : (v p : Shift) (k : HeadAt) (ts : Trees A) → IsSound bounds move (update k p ts) → StaysInRange bounds move v (update k p ts)
      → Moves p v (update k (join_shifts p v) ts)
  moves-piece v p k ts s h =
      let m = s.1.0 in
      let fits = fits-piece v p k ts m h in
      record { shift = shift_between (join_shifts p v) k.measures.extent m.range fits; sound = (s.0, (m, fits)) }

  shown-some : (v p : Shift) (o : Option Rect) → is_some o ≡ true → IfSome o IsInRange → Fits (join_shifts p v) o → IsShift (join_shifts p v) × IsPlaceOf (join_shifts p v) o
  shown-some v p None e range fits = absurd (cc)
  shown-some v p (Some r) e range fits = (shift_between (join_shifts p v) r range fits, fits)

  pub moves-shown : (v p : Shift) (l : LabelAt) (ts : Trees A) → is_some (extent_box bounds (marks_of_all move ts)) ≡ true
      → IsSound bounds move (presentation l p ts) → StaysInRange bounds move v (presentation l p ts) → Moves p v (presentation l (join_shifts p v) ts)
  moves-shown v p l ts e s h =
      let both = shown-some v p (extent_box bounds (marks_of_all move ts)) e (row-range ts s.0) (fits-shown v p l ts h) in
      record { shift = both.0; sound = (s.0, both.1) }

  -- ---- laws

  pub fits-all : (v : Shift) (ms : List (Mark A)) → Fits v (extent_box bounds ms) ↔ AreInRange bounds (move_marks move v ms)
  fits-all v ms =
      let moves = extent_box-move bounds move bounds_move v ms in
      let both = fits-moved v (extent_box bounds ms) in
      let all = all-range bounds (move_marks move v ms) in (
        (λ h. all.0 (subst (λ (o : Option Rect). IfSome o IsInRange) (sym moves) (both.0 h))),
        (λ h. both.1 (subst (λ (o : Option Rect). IfSome o IsInRange) moves (all.1 h))),
      )

  pub fits-extent : (v p : Shift) (k : HeadAt) (ts : Trees A) → IsSound bounds move (update k p ts)
      → StaysInRange bounds move v (update k p ts) ↔ IsInRange (move_rect (join_shifts p v) k.measures.extent)
  fits-extent v p k ts s = (
    (λ h. fits-piece v p k ts s.1.0 h),
    (λ h. subst (λ (o : Option Rect). Fits v o) (sym (extent-piece k p ts s.1.0)) (subst IsInRange (sym (moved_twice p v k.measures.extent)) h)),
  )

  -- ---- what is bare

  none-join : (o p : Option Rect) → is_none (join_boxes corner_box o p) ≡ is_none o && is_none p
  none-join None p = refl
  none-join (Some a) None = refl
  none-join (Some a) (Some b) = refl

  none-move : (v : Shift) (o : Option Rect) → is_none (option_map (move_rect v) o) ≡ is_none o
  none-move v None = refl
  none-move v (Some r) = refl

  none-begun : (e : Rect) (o : Option Rect) → is_none (join_boxes corner_box (Some e) o) ≡ false
  none-begun e None = refl
  none-begun e (Some r) = refl

  mutual
    bare-tree : (t : Tree A) → is_bare t ≡ is_none (extent_box bounds (marks_of move t))
    bare-tree (leaf a) = refl
    bare-tree (presentation l p ts) =
        bare-row ts
        ∙ sym (ap (λ (o : Option Rect). is_none o) (extent-shown l p ts) ∙ none-move p (extent_box bounds (marks_of_all move ts)))
    bare-tree (update h p ts) =
        sym (none-begun (move_rect p h.measures.extent) (extent_box bounds (move_marks move p (marks_of_all move ts ++ close ∷ []))))

    -- there is no box where there is neither an item nor an update
    pub bare-row : (ts : Trees A) → are_bare ts ≡ is_none (extent_box bounds (marks_of_all move ts))
    bare-row none = refl
    bare-row (tree t ts) =
        let first = bare-tree t in
        let rest = bare-row ts in
        (λ i. first i && rest i)
        ∙ sym (ap (λ (o : Option Rect). is_none o) (extent_box-append bounds (marks_of move t) (marks_of_all move ts))
        ∙ none-join (extent_box bounds (marks_of move t)) (extent_box bounds (marks_of_all move ts)))

  pub bare_is : (ts : Trees A) (b : Bool) → is_some (extent_box bounds (marks_of_all move ts)) ≡ b → are_bare ts ≡ not b
  bare_is ts b h = bare-row ts ∙ some-none (extent_box bounds (marks_of_all move ts)) b h

  -- ---- summaries of branches

  summary-close : (ms : List (Mark A)) → summary_of bounds (ms ++ close ∷ []) ≡ summary_of bounds ms
  summary-close ms =
      let items = drawn-append ms (close ∷ []) ∙ append-nil (items_drawn ms) in
      let extents = behind-close ms in
      λ i. record { count = length (items i); items = items_box bounds (items i); extents = extents i }

  summary-inside : (p : Shift) (m : Mark A) (ms : List (Mark A)) → summary_of bounds (move_marks move p (m ∷ (ms ++ close ∷ []))) ≡ move_summary p (summary_of bounds (m ∷ (ms ++ close ∷ [])))
  summary-inside p m ms = summary-move bounds move bounds_move p (m ∷ (ms ++ close ∷ []))

  pub summary-shown : (p : Shift) (l : LabelAt) (ts : Trees A) → summary_of bounds (marks_of move (presentation l p ts)) ≡ move_summary p (summary_of bounds (marks_of_all move ts))
  summary-shown p l ts =
      summary-inside p (open_presentation l) (marks_of_all move ts)
      ∙ ap (λ (s : Summary). move_summary p s) (summary-close (marks_of_all move ts))

  pub summary-piece : (p : Shift) (h : HeadAt) (ts : Trees A) → IsMeasured bounds move h ts
      → summary_of bounds (marks_of move (update h p ts))
      ≡ record (move_summary p (summary_of bounds (marks_of_all move ts))) { extents = Some (move_rect p h.measures.extent) }
  summary-piece p h ts m =
      let inside = summary-close (marks_of_all move ts) in
      let extents = extent-piece h p ts m in
      let counts = ap (λ (s : Summary). s.count) (summary-inside p (open_update h) (marks_of_all move ts)) ∙ ap (λ (s : Summary). s.count) inside in
      let items = ap (λ (s : Summary). s.items) (summary-inside p (open_update h) (marks_of_all move ts)) ∙ ap (λ (s : Summary). option_map (move_rect p) s.items) inside in
      λ i. record { count = counts i; items = items i; extents = extents i }
