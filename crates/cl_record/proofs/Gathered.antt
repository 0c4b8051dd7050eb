-- The steps of a walk that gathers all presentations that a place touches.
use Rattle.std.proofs.Common.{◌≡◌, ◌≤◌, ℤ, ◌+ℤ◌, pos, List, [], ◌∷◌, ◌++◌, length, map, reverse, ◌∙◌, ap, sym, arith, append_assoc}
use Rattle.std.proofs.lemmas.List.{append-nil, map-append}
use Rattle.std.specs.Prelude.{if◌then◌else◌}
use Rattle.cl_region.specs.declared.rects.Rect.{Rect}
use Rattle.cl_region.specs.declared.rects.Shift.{Shift}
use Rattle.cl_record.specs.Labels.{LabelAt}
use Rattle.cl_record.specs.Marks.{Mark, move_marks, marks_of, marks_of_all}
use Rattle.cl_record.specs.Ranges.{ArePlaced}
use Rattle.cl_record.specs.Replays.{items_drawn}
use Rattle.cl_record.specs.Seen.{forest_of, tree_of}
use Rattle.cl_record.specs.Shifts.{join_shifts, still}
use Rattle.cl_record.specs.Touches.{TouchAt, touch_of_label, touched_labels, touches}
use Rattle.cl_record.specs.Trees.{Trees, presentation, size_of, size_of_all}
use Rattle.cl_record.specs.declared.nodes.Node.{Node}
use Rattle.cl_record.proofs.Ends.{marks-last, placed-before, size-last}
use Rattle.cl_record.proofs.Moves.{all-still}
use Rattle.cl_record.proofs.TouchWalks.{latest, latest-append, latest-shown}

-- what two lists of labels say, behind one another
pub says-append : (ts : List TouchAt) (ls ks : List LabelAt)
    → ts ++ map touch_of_label (ls ++ ks) ≡ (ts ++ map touch_of_label ls) ++ map touch_of_label ks
says-append ts ls ks =
    ap (λ (us : List TouchAt). ts ++ us) (map-append touch_of_label ls ks)
    ∙ sym (append_assoc ts (map touch_of_label ls) (map touch_of_label ks))

module _ {A : Type 0} (bounds : A → Rect) (x y : ℤ) (move : Shift → A → A) where
  -- what is gathered, and behind it what the nodes that are left touch, is what was there and what all of them touch
  pub record GathersOn (v : Shift) (was now : List TouchAt) (all : Trees A) (left : List (Node A)) : Type 0 where
    pub placed : ArePlaced bounds move v (forest_of left)
    pub fewer : size_of_all (forest_of left) ≤ size_of_all all
    pub whole : now ++ map touch_of_label (latest bounds x y move v (marks_of_all move (forest_of left)))
        ≡ was ++ map touch_of_label (latest bounds x y move v (marks_of_all move all))

  pub gather-fewer : (v : Shift) (was now : List TouchAt) (all : Trees A) (before : List (Node A)) (last : Node A)
      → GathersOn v was now all (before ++ last ∷ []) → size_of (tree_of last) ≤ size_of_all all
  gather-fewer v was now all before last h = omega (arith, h.fewer, size-last before last)

  pub gathers_all : (v : Shift) (was now : List TouchAt) (all : Trees A) (left : List (Node A)) → length left ≡ 0 → GathersOn v was now all left
      → now ≡ was ++ map touch_of_label (latest bounds x y move v (marks_of_all move all))
  gathers_all v was now all [] e h = sym (append-nil now) ∙ h.whole
  gathers_all v was now all (n ∷ left) e h = absurd (cc)

  module _ (twice : (v w : Shift) (a : A) → move w (move v a) ≡ move (record { dx = v.dx +ℤ w.dx; dy = v.dy +ℤ w.dy }) a) where
    -- the last one first
    gather-last : (v : Shift) (now : List TouchAt) (before : List (Node A)) (last : Node A)
        → now ++ map touch_of_label (latest bounds x y move v (marks_of_all move (forest_of (before ++ last ∷ []))))
        ≡ (now ++ map touch_of_label (latest bounds x y move v (marks_of move (tree_of last))))
        ++ map touch_of_label (latest bounds x y move v (marks_of_all move (forest_of before)))
    gather-last v now before last =
        ap (λ (ms : List (Mark A)). now ++ map touch_of_label (latest bounds x y move v ms)) (marks-last bounds move before last)
        ∙ (ap (λ (ls : List LabelAt). now ++ map touch_of_label ls) (latest-append bounds x y move twice v (forest_of before) (marks_of move (tree_of last)))
        ∙ says-append now (latest bounds x y move v (marks_of move (tree_of last))) (latest bounds x y move v (marks_of_all move (forest_of before))))

    pub gathers_on : (v : Shift) (was now : List TouchAt) (all : Trees A) (before : List (Node A)) (last : Node A)
        → GathersOn v was now all (before ++ last ∷ []) → (more : List TouchAt)
        → more ≡ now ++ map touch_of_label (latest bounds x y move v (marks_of move (tree_of last))) → GathersOn v was more all before
    gathers_on v was now all before last h more e = record {
      placed = placed-before bounds move v before last h.placed;
      fewer = omega (arith, h.fewer, size-last before last);
      whole = ap (λ (us : List TouchAt). us ++ map touch_of_label (latest bounds x y move v (marks_of_all move (forest_of before)))) e
          ∙ (sym (gather-last v now before last) ∙ h.whole);
    }

    -- a presentation comes behind all that is inside it
    pub gather-shown : (v p : Shift) (l : LabelAt) (ts : Trees A) (was now more : List TouchAt)
        → now ≡ was ++ map touch_of_label (latest bounds x y move (join_shifts p v) (marks_of_all move ts))
        → more ≡ now ++ map touch_of_label (if touches bounds x y l (items_drawn (move_marks move (join_shifts p v) (marks_of_all move ts))) then l ∷ [] else [])
        → more ≡ was ++ map touch_of_label (latest bounds x y move v (marks_of move (presentation l p ts)))
    gather-shown v p l ts was now more e f =
        let itself = if touches bounds x y l (items_drawn (move_marks move (join_shifts p v) (marks_of_all move ts))) then l ∷ [] else [] in
        f
        ∙ (ap (λ (us : List TouchAt). us ++ map touch_of_label itself) e
        ∙ (sym (says-append was (latest bounds x y move (join_shifts p v) (marks_of_all move ts)) itself)
        ∙ ap (λ (ls : List LabelAt). was ++ map touch_of_label ls) (sym (latest-shown bounds x y move twice v p l ts))))

  module _ (stays : (a : A) → move (record { dx = pos 0; dy = pos 0 }) a ≡ a) where
    pub gathered-still : (ms : List (Mark A)) → map touch_of_label (latest bounds x y move still ms) ≡ map touch_of_label (reverse (touched_labels bounds x y ms))
    gathered-still ms = ap (λ (ks : List (Mark A)). map touch_of_label (reverse (touched_labels bounds x y ks))) (all-still move stays ms)
