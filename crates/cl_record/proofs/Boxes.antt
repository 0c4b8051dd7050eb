-- Boxes of items and of marks: of those behind one another, and of those elsewhere.
use Rattle.std.proofs.Common.{◌≡◌, ℕ, suc, ℤ, ◌+ℤ◌, ◌≤ℤ◌, List, [], ◌∷◌, ◌++◌, length, Option, Some, None, refl, ◌∙◌, ap, sym, arith}
use Rattle.std.proofs.lemmas.Int.{ints, clamps}
use Rattle.std.proofs.lemmas.List.{length-append}
use Rattle.std.specs.Int.{int_max, int_min}
use Rattle.std.specs.Option.{option_map}
use Rattle.cl_region.specs.Places.{box, move_rect}
use Rattle.cl_region.specs.declared.rects.Rect.{Rect}
use Rattle.cl_region.specs.declared.rects.Shift.{Shift}
use Rattle.cl_region.proofs.Corners.{rect_is}
use Rattle.cl_record.specs.Boxes.{corner_box, extent_box, items_box, join_boxes, join_summaries, move_summary, summary_of}
use Rattle.cl_record.specs.Marks.{Mark, move_marks, open_update, close, draw, open_presentation}
use Rattle.cl_record.specs.Replays.{items_drawn}
use Rattle.cl_record.proofs.Replayed.{drawn-append}

-- ---- three boxes

min-assoc : (a b c : ℤ) → int_min (int_min a b) c ≡ int_min a (int_min b c)
min-assoc a b c = omega (arith, ints, clamps)

max-assoc : (a b c : ℤ) → int_max (int_max a b) c ≡ int_max a (int_max b c)
max-assoc a b c = omega (arith, ints, clamps)

ordered : (a b : ℤ) → int_min a b ≤ℤ int_max a b
ordered a b = omega (arith, ints, clamps)

least : (a b c d : ℤ) → a ≤ℤ c → b ≤ℤ d → int_min (int_min a b) (int_max c d) ≡ int_min a b
least a b c d h k = omega (arith, ints, clamps, h, k)

greatest : (a b c d : ℤ) → a ≤ℤ c → b ≤ℤ d → int_max (int_min a b) (int_max c d) ≡ int_max c d
greatest a b c d h k = omega (arith, ints, clamps, h, k)

low-assoc : (a b c d e f : ℤ) → a ≤ℤ d → b ≤ℤ e → c ≤ℤ f
    → int_min (int_min (int_min a b) (int_max d e)) c ≡ int_min a (int_min (int_min b c) (int_max e f))
low-assoc a b c d e f h k l = rw (least a b d e h k, least b c e f k l) (min-assoc a b c)

high-assoc : (a b c d e f : ℤ) → a ≤ℤ d → b ≤ℤ e → c ≤ℤ f
    → int_max (int_max (int_min a b) (int_max d e)) f ≡ int_max d (int_max (int_min b c) (int_max e f))
high-assoc a b c d e f h k l = rw (greatest a b d e h k, greatest b c e f k l) (max-assoc d e f)

around-assoc : (a b c : Rect) → corner_box (corner_box a b) c ≡ corner_box a (corner_box b c)
around-assoc a b c =
    rect_is (corner_box a (corner_box b c)) _ _ _ _
    (low-assoc _ _ _ _ _ _ (ordered a.x1 a.x2) (ordered b.x1 b.x2) (ordered c.x1 c.x2))
    (low-assoc _ _ _ _ _ _ (ordered a.y1 a.y2) (ordered b.y1 b.y2) (ordered c.y1 c.y2))
    (high-assoc _ _ _ _ _ _ (ordered a.x1 a.x2) (ordered b.x1 b.x2) (ordered c.x1 c.x2))
    (high-assoc _ _ _ _ _ _ (ordered a.y1 a.y2) (ordered b.y1 b.y2) (ordered c.y1 c.y2))

box-assoc : (a b c : Rect) → box (box a b) c ≡ box a (box b c)
box-assoc a b c = rw (min-assoc a.x1 b.x1 c.x1, min-assoc a.y1 b.y1 c.y1, max-assoc a.x2 b.x2 c.x2, max-assoc a.y2 b.y2 c.y2) refl

join-assoc : (join : Rect → Rect → Rect) → ((a b c : Rect) → join (join a b) c ≡ join a (join b c))
    → (o p q : Option Rect) → join_boxes join (join_boxes join o p) q ≡ join_boxes join o (join_boxes join p q)
join-assoc join assoc None p q = refl
join-assoc join assoc (Some a) None q = refl
join-assoc join assoc (Some a) (Some b) None = refl
join-assoc join assoc (Some a) (Some b) (Some c) = ap (λ (r : Rect). Some r) (assoc a b c)

pub join-none : (join : Rect → Rect → Rect) (o : Option Rect) → join_boxes join o None ≡ o
join-none join None = refl
join-none join (Some a) = refl

-- ---- behind one another

module _ {A : Type 0} (bounds : A → Rect) where
  pub items_box-append : (xs ys : List A) → items_box bounds (xs ++ ys) ≡ join_boxes box (items_box bounds xs) (items_box bounds ys)
  items_box-append [] ys = refl
  items_box-append (a ∷ xs) ys =
      ap (λ (o : Option Rect). join_boxes box (Some (bounds a)) o) (items_box-append xs ys)
      ∙ sym (join-assoc box box-assoc (Some (bounds a)) (items_box bounds xs) (items_box bounds ys))

  pub extent_box-append : (ms ns : List (Mark A)) → extent_box bounds (ms ++ ns) ≡ join_boxes corner_box (extent_box bounds ms) (extent_box bounds ns)
  extent_box-append [] ns = refl
  extent_box-append (draw a ∷ ms) ns =
      ap (λ (o : Option Rect). join_boxes corner_box (Some (bounds a)) o) (extent_box-append ms ns)
      ∙ sym (join-assoc corner_box around-assoc (Some (bounds a)) (extent_box bounds ms) (extent_box bounds ns))
  extent_box-append (open_presentation l ∷ ms) ns = extent_box-append ms ns
  extent_box-append (open_update h ∷ ms) ns =
      ap (λ (o : Option Rect). join_boxes corner_box (Some h.measures.extent) o) (extent_box-append ms ns)
      ∙ sym (join-assoc corner_box around-assoc (Some h.measures.extent) (extent_box bounds ms) (extent_box bounds ns))
  extent_box-append (close ∷ ms) ns = extent_box-append ms ns

  pub summary-append : (ms ns : List (Mark A)) → summary_of bounds (ms ++ ns) ≡ join_summaries (summary_of bounds ms) (summary_of bounds ns)
  summary-append ms ns =
      let split = drawn-append ms ns in
      let counts = ap (λ (items : List A). length items) split ∙ length-append (items_drawn ms) (items_drawn ns) in
      let items = ap (λ (items : List A). items_box bounds items) split ∙ items_box-append (items_drawn ms) (items_drawn ns) in
      let extents = extent_box-append ms ns in
      λ i. record { count = counts i; items = items i; extents = extents i }

-- ---- elsewhere

min-move : (a b d : ℤ) → int_min a b +ℤ d ≡ int_min (a +ℤ d) (b +ℤ d)
min-move a b d = omega (arith, ints, clamps)

max-move : (a b d : ℤ) → int_max a b +ℤ d ≡ int_max (a +ℤ d) (b +ℤ d)
max-move a b d = omega (arith, ints, clamps)

low-move : (a b c e d : ℤ) → int_min (int_min a b) (int_min c e) +ℤ d ≡ int_min (int_min (a +ℤ d) (b +ℤ d)) (int_min (c +ℤ d) (e +ℤ d))
low-move a b c e d = rw (min-move (int_min a b) (int_min c e) d, min-move a b d, min-move c e d) refl

high-move : (a b c e d : ℤ) → int_max (int_max a b) (int_max c e) +ℤ d ≡ int_max (int_max (a +ℤ d) (b +ℤ d)) (int_max (c +ℤ d) (e +ℤ d))
high-move a b c e d = rw (max-move (int_max a b) (int_max c e) d, max-move a b d, max-move c e d) refl

pub box-move : (v : Shift) (a b : Rect) → move_rect v (box a b) ≡ box (move_rect v a) (move_rect v b)
box-move v a b = rw (min-move a.x1 b.x1 v.dx, min-move a.y1 b.y1 v.dy, max-move a.x2 b.x2 v.dx, max-move a.y2 b.y2 v.dy) refl

pub around-move : (v : Shift) (a b : Rect) → move_rect v (corner_box a b) ≡ corner_box (move_rect v a) (move_rect v b)
around-move v a b =
    rw (low-move a.x1 a.x2 b.x1 b.x2 v.dx, low-move a.y1 a.y2 b.y1 b.y2 v.dy, high-move a.x1 a.x2 b.x1 b.x2 v.dx, high-move a.y1 a.y2 b.y1 b.y2 v.dy) refl

join-move : (join : Rect → Rect → Rect) (v : Shift) → ((a b : Rect) → move_rect v (join a b) ≡ join (move_rect v a) (move_rect v b)) → (o p : Option Rect)
    → option_map (move_rect v) (join_boxes join o p) ≡ join_boxes join (option_map (move_rect v) o) (option_map (move_rect v) p)
join-move join v move None p = refl
join-move join v move (Some a) None = refl
join-move join v move (Some a) (Some b) = ap (λ (r : Rect). Some r) (move a b)

module _ {A : Type 0} (bounds : A → Rect) (move : Shift → A → A) (bounds_move : (v : Shift) (a : A) → bounds (move v a) ≡ move_rect v (bounds a)) where
  pub items_box-move : (v : Shift) (ms : List (Mark A)) → items_box bounds (items_drawn (move_marks move v ms)) ≡ option_map (move_rect v) (items_box bounds (items_drawn ms))
  items_box-move v [] = refl
  items_box-move v (draw a ∷ ms) =
      ap (λ (r : Rect). join_boxes box (Some r) (items_box bounds (items_drawn (move_marks move v ms)))) (bounds_move v a)
      ∙ ap (λ (o : Option Rect). join_boxes box (Some (move_rect v (bounds a))) o) (items_box-move v ms)
      ∙ sym (join-move box v (box-move v) (Some (bounds a)) (items_box bounds (items_drawn ms)))
  items_box-move v (open_presentation l ∷ ms) = items_box-move v ms
  items_box-move v (open_update h ∷ ms) = items_box-move v ms
  items_box-move v (close ∷ ms) = items_box-move v ms

  pub extent_box-move : (v : Shift) (ms : List (Mark A)) → extent_box bounds (move_marks move v ms) ≡ option_map (move_rect v) (extent_box bounds ms)
  extent_box-move v [] = refl
  extent_box-move v (draw a ∷ ms) =
      ap (λ (r : Rect). join_boxes corner_box (Some r) (extent_box bounds (move_marks move v ms))) (bounds_move v a)
      ∙ ap (λ (o : Option Rect). join_boxes corner_box (Some (move_rect v (bounds a))) o) (extent_box-move v ms)
      ∙ sym (join-move corner_box v (around-move v) (Some (bounds a)) (extent_box bounds ms))
  extent_box-move v (open_presentation l ∷ ms) = extent_box-move v ms
  extent_box-move v (open_update h ∷ ms) =
      ap (λ (o : Option Rect). join_boxes corner_box (Some (move_rect v h.measures.extent)) o) (extent_box-move v ms)
      ∙ sym (join-move corner_box v (around-move v) (Some h.measures.extent) (extent_box bounds ms))
  extent_box-move v (close ∷ ms) = extent_box-move v ms

  count-move : (v : Shift) (ms : List (Mark A)) → length (items_drawn (move_marks move v ms)) ≡ length (items_drawn ms)
  count-move v [] = refl
  count-move v (draw a ∷ ms) = ap (λ (n : ℕ). suc n) (count-move v ms)
  count-move v (open_presentation l ∷ ms) = count-move v ms
  count-move v (open_update h ∷ ms) = count-move v ms
  count-move v (close ∷ ms) = count-move v ms

  pub summary-move : (v : Shift) (ms : List (Mark A)) → summary_of bounds (move_marks move v ms) ≡ move_summary v (summary_of bounds ms)
  summary-move v ms =
      let counts = count-move v ms in
      let items = items_box-move v ms in
      let extents = extent_box-move v ms in
      λ i. record { count = counts i; items = items i; extents = extents i }
