-- The walks of a search for what a place touches.
use Rattle.std.proofs.Common.{◌≡◌, ℕ, zero, suc, ℤ, pos, ◌+ℤ◌, Bool, true, false, List, [], ◌∷◌, ◌++◌, Option, Some, None, reverse, refl, ◌∙◌, ap, sym, subst}
use Rattle.std.proofs.lemmas.List.{append-nil, reverse-append}
use Rattle.std.specs.Prelude.{if◌then◌else◌, ◌||◌}
use Rattle.std.specs.List.{slice_get}
use Rattle.std.specs.Option.{option_map}
use Rattle.cl_region.specs.declared.rects.Rect.{Rect}
use Rattle.cl_region.specs.declared.rects.Shift.{Shift}
use Rattle.cl_record.specs.Boxes.{items_box}
use Rattle.cl_record.specs.Heads.{HeadAt, move_head}
use Rattle.cl_record.specs.Labels.{LabelAt}
use Rattle.cl_record.specs.Marks.{Mark, move_marks, open_update, close, marks_of, marks_of_all, open_presentation}
use Rattle.cl_record.specs.Replays.{items_drawn}
use Rattle.cl_record.specs.Shifts.{join_shifts, still}
use Rattle.cl_record.specs.Touches.{box_holds, item_holds, touch_of_label, touched_labels, touched_at, touches}
use Rattle.cl_record.specs.TouchWalks.{Sought, found, passed, seek}
use Rattle.cl_record.specs.Trees.{Tree, Trees, leaf, none, update, presentation, tree}
use Rattle.cl_record.proofs.Moves.{all-still, all_moved-append, all_twice}
use Rattle.cl_record.proofs.Replayed.{drawn-append}
use Rattle.cl_record.proofs.Touched.{AreWhole, begun-alone, closed-labels, drawn-close, item-append, item-outside, whole-both, whole-draw, whole-none, whole-piece, whole-shown, with_label}

-- ---- a search through labels

-- a search that goes on
abbrev pub seek_on : Sought → List LabelAt → Sought
seek_on (found l) ls = found l
seek_on (passed k) ls = seek k ls

pub seek-append : (k : ℕ) (xs ys : List LabelAt) → seek k (xs ++ ys) ≡ seek_on (seek k xs) ys
seek-append k [] ys = refl
seek-append zero (l ∷ xs) ys = refl
seek-append (suc k) (l ∷ xs) ys = seek-append k xs ys

pub seek-found : (k : ℕ) (xs : List LabelAt) (l : LabelAt) → found l ≡ seek k xs → slice_get xs k ≡ Some l
seek-found k [] l e = absurd (cc)
seek-found zero (m ∷ xs) l e = cc
seek-found (suc k) (m ∷ xs) l e = seek-found k xs l e

pub seek-passed : (k : ℕ) (xs : List LabelAt) (left : ℕ) → passed left ≡ seek k xs → slice_get xs k ≡ None
seek-passed k [] left e = refl
seek-passed zero (m ∷ xs) left e = absurd (cc)
seek-passed (suc k) (m ∷ xs) left e = seek-passed k xs left e

reverse-label : (b : Bool) (l : LabelAt) (ls : List LabelAt) → reverse (with_label b l ls) ≡ reverse ls ++ with_label b l []
reverse-label true l ls = reverse-append (l ∷ []) ls
reverse-label false l ls = sym (append-nil (reverse ls))

pub spot_is : (P : (x y : ℤ) → Type 0) (x y a b : ℤ) → a ≡ x → b ≡ y → P a b → P x y
spot_is P x y a b e f h = rw (← e, ← f) h

pub or-false : (b : Bool) → b || false ≡ b
or-false true = refl
or-false false = refl

module _ {A : Type 0} (bounds : A → Rect) (x y : ℤ) (move : Shift → A → A) where
  -- whether an item of marks, moved, holds the place
  abbrev pub held : Shift → List (Mark A) → Bool
  held v ms = item_holds bounds x y (items_drawn (move_marks move v ms))

  pub held-append : (v : Shift) (ms ns : List (Mark A)) → held v (ms ++ ns) ≡ held v ms || held v ns
  held-append v ms ns =
      ap (λ (ks : List (Mark A)). item_holds bounds x y (items_drawn ks)) (all_moved-append move v ms ns)
      ∙ (ap (λ (items : List A). item_holds bounds x y items) (drawn-append (move_marks move v ms) (move_marks move v ns))
      ∙ item-append bounds x y (items_drawn (move_marks move v ms)) (items_drawn (move_marks move v ns)))

  held-inside : (v : Shift) (ms : List (Mark A)) → held v (ms ++ close ∷ []) ≡ held v ms
  held-inside v ms = held-append v ms (close ∷ []) ∙ or-false (held v ms)

  pub held-outside : (v : Shift) (ms : List (Mark A)) → box_holds (items_box bounds (items_drawn (move_marks move v ms))) x y ≡ false → held v ms ≡ false
  held-outside v ms e = item-outside bounds x y (items_drawn (move_marks move v ms)) e

  -- the labels of what marks, moved, have of touched presentations, from the latest on
  abbrev pub latest : Shift → List (Mark A) → List LabelAt
  latest v ms = reverse (touched_labels bounds x y (move_marks move v ms))

  module _ (twice : (v w : Shift) (a : A) → move w (move v a) ≡ move (record { dx = v.dx +ℤ w.dx; dy = v.dy +ℤ w.dy }) a) where
    pub held-shown : (v p : Shift) (l : LabelAt) (ts : Trees A) → held v (marks_of move (presentation l p ts)) ≡ held (join_shifts p v) (marks_of_all move ts)
    held-shown v p l ts =
        ap (λ (ms : List (Mark A)). item_holds bounds x y (items_drawn ms)) (all_twice move twice p v (open_presentation l ∷ (marks_of_all move ts ++ close ∷ [])))
        ∙ held-inside (join_shifts p v) (marks_of_all move ts)

    pub held-piece : (v p : Shift) (h : HeadAt) (ts : Trees A) → held v (marks_of move (update h p ts)) ≡ held (join_shifts p v) (marks_of_all move ts)
    held-piece v p h ts =
        ap (λ (ms : List (Mark A)). item_holds bounds x y (items_drawn ms)) (all_twice move twice p v (open_update h ∷ (marks_of_all move ts ++ close ∷ [])))
        ∙ held-inside (join_shifts p v) (marks_of_all move ts)

    -- a branch that stands moved
    shown-marks : (v p : Shift) (l : LabelAt) (ts : Trees A)
        → move_marks move v (marks_of move (presentation l p ts)) ≡ open_presentation l ∷ (move_marks move (join_shifts p v) (marks_of_all move ts) ++ close ∷ [])
    shown-marks v p l ts =
        all_twice move twice p v (open_presentation l ∷ (marks_of_all move ts ++ close ∷ []))
        ∙ ap (λ (ks : List (Mark A)). open_presentation l ∷ ks) (all_moved-append move (join_shifts p v) (marks_of_all move ts) (close ∷ []))

    piece-marks : (v p : Shift) (h : HeadAt) (ts : Trees A)
        → move_marks move v (marks_of move (update h p ts))
        ≡ open_update (move_head (join_shifts p v) h) ∷ (move_marks move (join_shifts p v) (marks_of_all move ts) ++ close ∷ [])
    piece-marks v p h ts =
        all_twice move twice p v (open_update h ∷ (marks_of_all move ts ++ close ∷ []))
        ∙ ap (λ (ks : List (Mark A)). open_update (move_head (join_shifts p v) h) ∷ ks) (all_moved-append move (join_shifts p v) (marks_of_all move ts) (close ∷ []))

    mutual
      pub whole-tree : (v : Shift) (t : Tree A) → AreWhole bounds x y (move_marks move v (marks_of move t))
      whole-tree v (leaf a) = whole-draw bounds x y (move v a)
      whole-tree v (presentation l p ts) =
          subst (λ (ms : List (Mark A)). AreWhole bounds x y ms) (sym (shown-marks v p l ts))
          (whole-shown bounds x y l (move_marks move (join_shifts p v) (marks_of_all move ts)) (whole-row (join_shifts p v) ts))
      whole-tree v (update h p ts) =
          subst (λ (ms : List (Mark A)). AreWhole bounds x y ms) (sym (piece-marks v p h ts))
          (whole-piece bounds x y (move_head (join_shifts p v) h) (move_marks move (join_shifts p v) (marks_of_all move ts)) (whole-row (join_shifts p v) ts))

      pub whole-row : (v : Shift) (ts : Trees A) → AreWhole bounds x y (move_marks move v (marks_of_all move ts))
      whole-row v none = whole-none bounds x y
      whole-row v (tree t ts) =
          subst (λ (ms : List (Mark A)). AreWhole bounds x y ms) (sym (all_moved-append move v (marks_of move t) (marks_of_all move ts)))
          (whole-both bounds x y (move_marks move v (marks_of move t)) (move_marks move v (marks_of_all move ts)) (whole-tree v t) (whole-row v ts))

    -- a presentation began before all that is inside of it
    pub latest-shown : (v p : Shift) (l : LabelAt) (ts : Trees A)
        → latest v (marks_of move (presentation l p ts))
        ≡ latest (join_shifts p v) (marks_of_all move ts)
        ++ (if touches bounds x y l (items_drawn (move_marks move (join_shifts p v) (marks_of_all move ts))) then l ∷ [] else [])
    latest-shown v p l ts =
        let inside = move_marks move (join_shifts p v) (marks_of_all move ts) in
        ap (λ (ms : List (Mark A)). reverse (touched_labels bounds x y ms)) (shown-marks v p l ts)
        ∙ (ap (λ (ls : List LabelAt). reverse ls) (begun-alone bounds x y l inside (whole-row (join_shifts p v) ts))
        ∙ reverse-label (touches bounds x y l (items_drawn inside)) l (touched_labels bounds x y inside))

    pub latest-piece : (v p : Shift) (h : HeadAt) (ts : Trees A) → latest v (marks_of move (update h p ts)) ≡ latest (join_shifts p v) (marks_of_all move ts)
    latest-piece v p h ts =
        let inside = move_marks move (join_shifts p v) (marks_of_all move ts) in
        ap (λ (ms : List (Mark A)). reverse (touched_labels bounds x y ms)) (piece-marks v p h ts)
        ∙ ap (λ (ls : List LabelAt). reverse ls) (closed-labels bounds x y inside (whole-row (join_shifts p v) ts))

    pub latest-outside : (v : Shift) (ts : Trees A) → box_holds (items_box bounds (items_drawn (move_marks move v (marks_of_all move ts)))) x y ≡ false
        → latest v (marks_of_all move ts) ≡ []
    latest-outside v ts e = ap (λ (ls : List LabelAt). reverse ls) ((whole-row v ts).outside e)

    -- what comes behind others began after them
    pub latest-append : (v : Shift) (ts : Trees A) (ms : List (Mark A)) → latest v (marks_of_all move ts ++ ms) ≡ latest v ms ++ latest v (marks_of_all move ts)
    latest-append v ts ms =
        let first = move_marks move v (marks_of_all move ts) in
        ap (λ (ks : List (Mark A)). reverse (touched_labels bounds x y ks)) (all_moved-append move v (marks_of_all move ts) ms)
        ∙ (ap (λ (ls : List LabelAt). reverse ls) ((whole-row v ts).labels (move_marks move v ms))
        ∙ reverse-append (touched_labels bounds x y first) (touched_labels bounds x y (move_marks move v ms)))

    own-label : (p : Shift) (l : LabelAt) (ts : Trees A)
        → items_drawn (marks_of move (presentation l p ts)) ≡ items_drawn (move_marks move p (marks_of_all move ts))
    own-label p l ts =
        ap (λ (ms : List (Mark A)). items_drawn ms) (all_moved-append move p (marks_of_all move ts) (close ∷ []))
        ∙ drawn-close (move_marks move p (marks_of_all move ts))

    -- a presentation is touched by what it draws, and begins before those inside it
    pub shown-labels : (l : LabelAt) (p : Shift) (ts : Trees A)
        → touched_labels bounds x y (marks_of move (presentation l p ts))
        ≡ with_label (touches bounds x y l (items_drawn (marks_of move (presentation l p ts)))) l (touched_labels bounds x y (move_marks move p (marks_of_all move ts)))
    shown-labels l p ts =
        let inside = move_marks move p (marks_of_all move ts) in
        ap (λ (ms : List (Mark A)). touched_labels bounds x y (open_presentation l ∷ ms)) (all_moved-append move p (marks_of_all move ts) (close ∷ []))
        ∙ (begun-alone bounds x y l inside (whole-row p ts)
        ∙ ap (λ (items : List A). with_label (touches bounds x y l items) l (touched_labels bounds x y inside)) (sym (own-label p l ts)))

    module _ (stays : (a : A) → move (record { dx = pos 0; dy = pos 0 }) a ≡ a) where
      pub none-outside : (ts : Trees A) → box_holds (items_box bounds (items_drawn (marks_of_all move ts))) x y ≡ false → touched_labels bounds x y (marks_of_all move ts) ≡ []
      none-outside ts e =
          (subst (λ (ms : List (Mark A)). AreWhole bounds x y ms) (all-still move stays (marks_of_all move ts)) (whole-row still ts)).outside e

  module _ (stays : (a : A) → move (record { dx = pos 0; dy = pos 0 }) a ≡ a) where
    latest-still : (ms : List (Mark A)) → latest still ms ≡ reverse (touched_labels bounds x y ms)
    latest-still ms = ap (λ (ks : List (Mark A)). reverse (touched_labels bounds x y ks)) (all-still move stays ms)

    -- what a search through all of a history comes to
    pub found_at : (k : ℕ) (ms : List (Mark A)) (l : LabelAt) → found l ≡ seek k (latest still ms) → Some (touch_of_label l) ≡ touched_at bounds x y k ms
    found_at k ms l e =
        let there = seek-found k (reverse (touched_labels bounds x y ms)) l (e ∙ ap (λ (ls : List LabelAt). seek k ls) (latest-still ms)) in
        sym (ap (λ (o : Option LabelAt). option_map touch_of_label o) there)

    pub passed_at : (k : ℕ) (ms : List (Mark A)) (left : ℕ) → passed left ≡ seek k (latest still ms) → None ≡ touched_at bounds x y k ms
    passed_at k ms left e =
        let nowhere = seek-passed k (reverse (touched_labels bounds x y ms)) left (e ∙ ap (λ (ls : List LabelAt). seek k ls) (latest-still ms)) in
        sym (ap (λ (o : Option LabelAt). option_map touch_of_label o) nowhere)
