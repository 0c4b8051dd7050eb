-- The walk of a replay through trees.
use Rattle.std.proofs.Common.{◌≡◌, ◌≤◌, ℤ, ◌+ℤ◌, Bool, List, [], ◌∷◌, ◌++◌, Option, ◌∙◌, ap, sym, subst, arith}
use Rattle.std.proofs.lemmas.List.{append-nil}
use Rattle.cl_medium.specs.Items.{Painted}
use Rattle.cl_region.specs.Places.{move_rect}
use Rattle.cl_region.specs.declared.rects.Rect.{Rect}
use Rattle.cl_region.specs.declared.rects.Shift.{Shift}
use Rattle.cl_record.specs.Heads.{HeadAt}
use Rattle.cl_record.specs.Labels.{LabelAt}
use Rattle.cl_record.specs.Marks.{Mark, move_marks, open_update, close, marks_of, marks_of_all, open_presentation}
use Rattle.cl_record.specs.Ranges.{ArePlaced}
use Rattle.cl_record.specs.Replays.{Paints, items_drawn, items_touching}
use Rattle.cl_record.specs.Shifts.{join_shifts}
use Rattle.cl_record.specs.Trees.{Tree, Trees, none, update, presentation, size_of_all, tree}
use Rattle.cl_record.proofs.Moves.{all_moved-append, all_twice}
use Rattle.cl_record.proofs.Ranges.{placed-rest}
use Rattle.cl_record.proofs.Replayed.{drawn-append, paints_both, paints_none, touching-append}

module _ {A K : Type 0} (shows : K → ℤ → ℤ → Bool) (at : K → ℤ → ℤ → Painted) (keeps : K → K → Type 0) (cell : A → ℤ → ℤ → Option Painted)
    (bounds : A → Rect) (move : Shift → A → A) (rects : List Rect) where
  -- the items of marks, moved, that touch one of the rectangles
  abbrev pub touched : Shift → List (Mark A) → List A
  touched v ms = items_touching bounds rects (items_drawn (move_marks move v ms))

  touched-append : (v : Shift) (ms ns : List (Mark A)) → touched v (ms ++ ns) ≡ touched v ms ++ touched v ns
  touched-append v ms ns =
      ap (λ (ks : List (Mark A)). items_touching bounds rects (items_drawn ks)) (all_moved-append move v ms ns)
      ∙ (ap (λ (items : List A). items_touching bounds rects items) (drawn-append (move_marks move v ms) (move_marks move v ns))
      ∙ touching-append bounds rects (items_drawn (move_marks move v ms)) (items_drawn (move_marks move v ns)))

  -- from the canvas as it is, what is left of the trees paints what all of them do from the first one
  pub record GoesOn (v : Shift) (first now : K) (all left : Trees A) : Type 0 where
    pub placed : ArePlaced bounds move v left
    pub fewer : size_of_all left ≤ size_of_all all
    pub whole : (k : K) → Paints shows at keeps cell now k (touched v (marks_of_all move left)) → Paints shows at keeps cell first k (touched v (marks_of_all move all))

  pub goes_on : ((first second third : K) → keeps first second → keeps second third → keeps first third)
      → ((v : Shift) (a : A) → bounds (move v a) ≡ move_rect v (bounds a))
      → (v : Shift) (first now next : K) (all : Trees A) (t : Tree A) (left : Trees A) → GoesOn v first now all (tree t left)
      → Paints shows at keeps cell now next (touched v (marks_of move t)) → GoesOn v first next all left
  goes_on through bounds_move v first now next all t left h p = record {
    placed = placed-rest bounds move bounds_move v t left h.placed;
    fewer = omega (arith, h.fewer);
    whole = λ k q. h.whole k (subst (λ (items : List A). Paints shows at keeps cell now k items) (sym (touched-append v (marks_of move t) (marks_of_all move left)))
        (paints_both shows at keeps cell through now next k (touched v (marks_of move t)) (touched v (marks_of_all move left)) p q));
  }

  pub all_done : (v : Shift) (first now : K) (all : Trees A) → keeps now now → GoesOn v first now all none
      → Paints shows at keeps cell first now (touched v (marks_of_all move all))
  all_done v first now all h g = g.whole now (paints_none shows at keeps cell now h)

  module _ (twice : (v w : Shift) (a : A) → move w (move v a) ≡ move (record { dx = v.dx +ℤ w.dx; dy = v.dy +ℤ w.dy }) a) where
    -- a branch paints what it holds, moved by its place too
    touched_inside : (v : Shift) (ms : List (Mark A)) → touched v (ms ++ close ∷ []) ≡ touched v ms
    touched_inside v ms = touched-append v ms (close ∷ []) ∙ append-nil (touched v ms)

    pub touched_shown : (v p : Shift) (l : LabelAt) (ts : Trees A) → touched v (marks_of move (presentation l p ts)) ≡ touched (join_shifts p v) (marks_of_all move ts)
    touched_shown v p l ts =
        ap (λ (ms : List (Mark A)). items_touching bounds rects (items_drawn ms)) (all_twice move twice p v (open_presentation l ∷ (marks_of_all move ts ++ close ∷ [])))
        ∙ touched_inside (join_shifts p v) (marks_of_all move ts)

    pub touched_piece : (v p : Shift) (h : HeadAt) (ts : Trees A) → touched v (marks_of move (update h p ts)) ≡ touched (join_shifts p v) (marks_of_all move ts)
    touched_piece v p h ts =
        ap (λ (ms : List (Mark A)). items_touching bounds rects (items_drawn ms)) (all_twice move twice p v (open_update h ∷ (marks_of_all move ts ++ close ∷ [])))
        ∙ touched_inside (join_shifts p v) (marks_of_all move ts)
