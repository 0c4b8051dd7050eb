-- Moves of marks and trees.
use Rattle.std.proofs.Common.{◌≡◌, ℤ, pos, ◌+ℤ◌, Bool, true, false, List, [], ◌∷◌, ◌++◌, Option, Some, None, refl, ◌∙◌, ap, sym, arith}
use Rattle.std.proofs.lemmas.Int.{ints}
use Rattle.std.specs.Prelude.{if◌then◌else◌}
use Rattle.cl_region.specs.Places.{move_rect}
use Rattle.cl_region.specs.declared.rects.Rect.{Rect}
use Rattle.cl_region.specs.declared.rects.Shift.{Shift}
use Rattle.cl_region.proofs.Corners.{and_left, and_right, wrong}
use Rattle.cl_record.specs.Labels.{LabelAt}
use Rattle.cl_record.specs.Heads.{HeadAt, Point, move_head, move_margin, move_origin, move_point}
use Rattle.cl_record.specs.Marks.{Mark, move_marks, open_update, close, draw, move_mark, marks_of, marks_of_all, open_presentation}
use Rattle.cl_record.specs.Shifts.{join_shifts, still}
use Rattle.cl_record.specs.Trees.{Tree, Trees, are_bare, is_bare, leaf, none, update, presentation, tree, move_tree}

pub shift_is : (v : Shift) (a b : ℤ) → a ≡ v.dx → b ≡ v.dy → ◌≡◌ {A = Shift} (record { dx = a; dy = b }) v
shift_is v a b e f = rw (e, f) refl

pub place_is : (P : Point → Type 0) (x y a b : ℤ) → a ≡ x → b ≡ y → P (record { x = a; y = b }) → P (record { x = x; y = y })
place_is P x y a b e f h = rw (← e, ← f) h

joined_up : (a b c : ℤ) → (a +ℤ b) +ℤ c ≡ a +ℤ (b +ℤ c)
joined_up a b c = omega (arith, ints)

unmoved : (a : ℤ) → a +ℤ pos 0 ≡ a
unmoved a = omega (arith, ints)

pub join_shifts-still : (v : Shift) → join_shifts v still ≡ v
join_shifts-still v = rw (unmoved v.dx, unmoved v.dy) refl

pub moved-still : (r : Rect) → move_rect still r ≡ r
moved-still r = rw (unmoved r.x1, unmoved r.y1, unmoved r.x2, unmoved r.y2) refl

module _ {A : Type 0} (move : Shift → A → A) where
  pub all_moved-append : (v : Shift) (ms ns : List (Mark A)) → move_marks move v (ms ++ ns) ≡ move_marks move v ms ++ move_marks move v ns
  all_moved-append v [] ns = refl
  all_moved-append v (m ∷ ms) ns = ap (λ (ks : List (Mark A)). move_mark move v m ∷ ks) (all_moved-append v ms ns)

-- ---- two moves are one

pub moved_twice : (v w : Shift) (r : Rect) → move_rect w (move_rect v r) ≡ move_rect (join_shifts v w) r
moved_twice v w r =
    rw (joined_up r.x1 v.dx w.dx, joined_up r.y1 v.dy w.dy, joined_up r.x2 v.dx w.dx, joined_up r.y2 v.dy w.dy) refl

point_twice : (v w : Shift) (p : Point) → move_point w (move_point v p) ≡ move_point (join_shifts v w) p
point_twice v w p = rw (joined_up p.x v.dx w.dx, joined_up p.y v.dy w.dy) refl

margin_twice : (v w : Shift) (m : Option ℤ) → move_margin w (move_margin v m) ≡ move_margin (join_shifts v w) m
margin_twice v w None = refl
margin_twice v w (Some x) = rw (joined_up x v.dx w.dx) refl

origin_twice : (v w : Shift) (o : Option Point) → move_origin w (move_origin v o) ≡ move_origin (join_shifts v w) o
origin_twice v w None = refl
origin_twice v w (Some p) = ap (λ (q : Point). Some q) (point_twice v w p)

head_twice : (v w : Shift) (h : HeadAt) → move_head w (move_head v h) ≡ move_head (join_shifts v w) h
head_twice v w h =
    let m = h.measures in
    let extents = moved_twice v w m.extent in
    let starts = point_twice v w m.start in
    let ends = point_twice v w m.end in
    let margins = margin_twice v w m.margin in
    let origins = origin_twice v w m.origin in
    λ i. record h {
      measures = record m { extent = extents i; start = starts i; end = ends i; margin = margins i; origin = origins i };
    }

module _ {A : Type 0} (move : Shift → A → A) (twice : (v w : Shift) (a : A) → move w (move v a) ≡ move (record { dx = v.dx +ℤ w.dx; dy = v.dy +ℤ w.dy }) a) where
  mark_twice : (v w : Shift) (m : Mark A) → move_mark move w (move_mark move v m) ≡ move_mark move (join_shifts v w) m
  mark_twice v w (draw a) = ap (λ (b : A). draw b) (twice v w a)
  mark_twice v w (open_presentation l) = refl
  mark_twice v w (open_update h) = ap (λ (k : HeadAt). open_update k) (head_twice v w h)
  mark_twice v w close = refl

  pub all_twice : (v w : Shift) (ms : List (Mark A)) → move_marks move w (move_marks move v ms) ≡ move_marks move (join_shifts v w) ms
  all_twice v w [] = refl
  all_twice v w (m ∷ ms) =
      let first = mark_twice v w m in
      let rest = all_twice v w ms in
      λ i. first i ∷ rest i

  -- what draws no item and no update is the same elsewhere
  bare-around : (v : Shift) (l : LabelAt) (ms : List (Mark A)) → move_marks move v ms ≡ ms
      → move_marks move v (open_presentation l ∷ (ms ++ close ∷ [])) ≡ open_presentation l ∷ (ms ++ close ∷ [])
  bare-around v l ms h =
      ap (λ (ks : List (Mark A)). open_presentation l ∷ ks) (all_moved-append move v ms (close ∷ []) ∙ ap (λ (ks : List (Mark A)). ks ++ close ∷ []) h)

  bare-branch : (v p : Shift) (l : LabelAt) (ms : List (Mark A)) → ((w : Shift) → move_marks move w ms ≡ ms)
      → move_marks move v (move_marks move p (open_presentation l ∷ (ms ++ close ∷ []))) ≡ move_marks move p (open_presentation l ∷ (ms ++ close ∷ []))
  bare-branch v p l ms h =
      ap (λ (ks : List (Mark A)). move_marks move v ks) (bare-around p l ms (h p))
      ∙ (bare-around v l ms (h v) ∙ sym (bare-around p l ms (h p)))

  mutual
    bare-tree : (v : Shift) (t : Tree A) → is_bare t ≡ true → move_marks move v (marks_of move t) ≡ marks_of move t
    bare-tree v (leaf a) e = absurd (wrong e)
    bare-tree v (presentation l p ts) e = bare-branch v p l (marks_of_all move ts) (λ w. bare-row w ts e)
    bare-tree v (update h p ts) e = absurd (wrong e)

    bare-row : (v : Shift) (ts : Trees A) → are_bare ts ≡ true → move_marks move v (marks_of_all move ts) ≡ marks_of_all move ts
    bare-row v none e = refl
    bare-row v (tree t ts) e =
        let first = bare-tree v t (and_left (is_bare t) (are_bare ts) e) in
        let rest = bare-row v ts (and_right (is_bare t) (are_bare ts) e) in
        all_moved-append move v (marks_of move t) (marks_of_all move ts) ∙ (λ i. first i ++ rest i)

  marks-shown : (b : Bool) (v p : Shift) (l : LabelAt) (ts : Trees A) → are_bare ts ≡ b
      → marks_of move (presentation l (if b then p else join_shifts p v) ts) ≡ move_marks move v (marks_of move (presentation l p ts))
  marks-shown true v p l ts e = sym (bare-branch v p l (marks_of_all move ts) (λ w. bare-row w ts e))
  marks-shown false v p l ts e = sym (all_twice p v (open_presentation l ∷ (marks_of_all move ts ++ close ∷ [])))

  -- a tree that is moved draws the same elsewhere
  pub marks-tree_moved : (v : Shift) (t : Tree A) → marks_of move (move_tree move v t) ≡ move_marks move v (marks_of move t)
  marks-tree_moved v (leaf a) = refl
  marks-tree_moved v (presentation l p ts) = marks-shown (are_bare ts) v p l ts refl
  marks-tree_moved v (update h p ts) = sym (all_twice p v (open_update h ∷ (marks_of_all move ts ++ close ∷ [])))

margin-still : (m : Option ℤ) → move_margin still m ≡ m
margin-still None = refl
margin-still (Some x) = ap (λ (z : ℤ). Some z) (unmoved x)

point-still : (p : Point) → move_point still p ≡ p
point-still p = rw (unmoved p.x, unmoved p.y) refl

origin-still : (o : Option Point) → move_origin still o ≡ o
origin-still None = refl
origin-still (Some p) = ap (λ (q : Point). Some q) (point-still p)

head-still : (h : HeadAt) → move_head still h ≡ h
head-still h =
    let m = h.measures in
    let extents = moved-still m.extent in
    let starts = point-still m.start in
    let ends = point-still m.end in
    let margins = margin-still m.margin in
    let origins = origin-still m.origin in
    λ i. record h {
      measures = record m { extent = extents i; start = starts i; end = ends i; margin = margins i; origin = origins i };
    }

module _ {A : Type 0} (move : Shift → A → A) (stays : (a : A) → move (record { dx = pos 0; dy = pos 0 }) a ≡ a) where
  mark-still : (m : Mark A) → move_mark move still m ≡ m
  mark-still (draw a) = ap (λ (b : A). draw b) (stays a)
  mark-still (open_presentation l) = refl
  mark-still (open_update h) = ap (λ (k : HeadAt). open_update k) (head-still h)
  mark-still close = refl

  -- no move changes nothing
  pub all-still : (ms : List (Mark A)) → move_marks move still ms ≡ ms
  all-still [] = refl
  all-still (m ∷ ms) =
      let first = mark-still m in
      let rest = all-still ms in
      λ i. first i ∷ rest i
