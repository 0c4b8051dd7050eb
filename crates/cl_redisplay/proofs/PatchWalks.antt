-- The walk through records whose items are painted at some places of an area.
use Rattle.std.proofs.Common.{◌≡◌, ◌≤◌, ℤ, ◌+ℤ◌, Bool, List, [], ◌∷◌, ◌++◌, Option, ◌∙◌, ap, sym, subst, arith}
use Rattle.std.proofs.lemmas.List.{append-nil}
use Rattle.cl_medium.specs.Items.{Painted}
use Rattle.cl_raster.specs.Raster.{Picture, SameSize}
use Rattle.cl_region.specs.Places.{move_rect}
use Rattle.cl_region.specs.declared.rects.Rect.{Rect}
use Rattle.cl_region.specs.declared.rects.Shift.{Shift}
use Rattle.cl_record.specs.Heads.{HeadAt}
use Rattle.cl_record.specs.Labels.{LabelAt}
use Rattle.cl_record.specs.Marks.{Mark, close, marks_of, marks_of_all, move_marks, open_presentation, open_update}
use Rattle.cl_record.specs.Ranges.{ArePlaced}
use Rattle.cl_record.specs.Replays.{items_drawn}
use Rattle.cl_record.specs.Shifts.{join_shifts}
use Rattle.cl_record.specs.Trees.{Trees, none, presentation, size_of_all, tree, update}
use Rattle.cl_record.proofs.Moves.{all_moved-append, all_twice}
use Rattle.cl_record.proofs.Ranges.{placed-rest}
use Rattle.cl_record.proofs.Replayed.{drawn-append}
use Rattle.cl_redisplay.specs.Touching.{PaintsThose}
use Rattle.cl_redisplay.specs.declared.areas.Area.{Area}
use Rattle.cl_redisplay.proofs.PartLemmas.{same_size}
use Rattle.cl_redisplay.proofs.PatchLemmas.{those_both, those_none}

module _ {A : Type 0} (cell : A → ℤ → ℤ → Option Painted) (bounds : A → Rect) (move : Shift → A → A) (area : Area) (places : ℤ → ℤ → Bool) where
  -- the items of marks, moved
  abbrev drawn : Shift → List (Mark A) → List A
  drawn v ms = items_drawn (move_marks move v ms)

  moved-append : (v : Shift) (ms ns : List (Mark A)) → drawn v (ms ++ ns) ≡ drawn v ms ++ drawn v ns
  moved-append v ms ns =
      ap (λ (ks : List (Mark A)). items_drawn ks) (all_moved-append move v ms ns)
      ∙ drawn-append (move_marks move v ms) (move_marks move v ns)

  -- from the picture as it is, what is left of the trees paints what all of them do from the first one
  pub record GoesOn (v : Shift) (first now : Picture) (all left : Trees A) : Type 0 where
    pub placed : ArePlaced bounds move v left
    pub fewer : size_of_all left ≤ size_of_all all
    pub size : SameSize first now
    pub whole : (k : Picture) → PaintsThose cell now k area places (drawn v (marks_of_all move left))
        → PaintsThose cell first k area places (drawn v (marks_of_all move all))

  pub goes_on : ((v : Shift) (a : A) → bounds (move v a) ≡ move_rect v (bounds a))
      → (v : Shift) (first now next : Picture) (all : Trees A) (t : _) (left : Trees A) → GoesOn v first now all (tree t left)
      → PaintsThose cell now next area places (drawn v (marks_of move t)) → GoesOn v first next all left
  goes_on bounds_move v first now next all t left h p = record {
    placed = placed-rest bounds move bounds_move v t left h.placed;
    fewer = omega (arith, h.fewer);
    size = same_size first now next h.size p.size;
    whole = λ k q. h.whole k (subst (λ (items : List A). PaintsThose cell now k area places items) (sym (moved-append v (marks_of move t) (marks_of_all move left)))
        (those_both cell now next k area places (drawn v (marks_of move t)) (drawn v (marks_of_all move left)) p q));
  }

  pub all_done : (v : Shift) (first now : Picture) (all : Trees A) → GoesOn v first now all none
      → PaintsThose cell first now area places (drawn v (marks_of_all move all))
  all_done v first now all g = g.whole now (those_none cell now area places)

  module _ (twice : (v w : Shift) (a : A) → move w (move v a) ≡ move (record { dx = v.dx +ℤ w.dx; dy = v.dy +ℤ w.dy }) a) where
    -- a branch draws what it holds, moved by its place too
    drawn_inside : (v : Shift) (ms : List (Mark A)) → drawn v (ms ++ close ∷ []) ≡ drawn v ms
    drawn_inside v ms = moved-append v ms (close ∷ []) ∙ append-nil (drawn v ms)

    pub drawn_shown : (v p : Shift) (l : LabelAt) (ts : Trees A) → drawn v (marks_of move (presentation l p ts)) ≡ drawn (join_shifts p v) (marks_of_all move ts)
    drawn_shown v p l ts =
        ap (λ (ms : List (Mark A)). items_drawn ms) (all_twice move twice p v (open_presentation l ∷ (marks_of_all move ts ++ close ∷ [])))
        ∙ drawn_inside (join_shifts p v) (marks_of_all move ts)

    pub drawn_piece : (v p : Shift) (h : HeadAt) (ts : Trees A) → drawn v (marks_of move (update h p ts)) ≡ drawn (join_shifts p v) (marks_of_all move ts)
    drawn_piece v p h ts =
        ap (λ (ms : List (Mark A)). items_drawn ms) (all_twice move twice p v (open_update h ∷ (marks_of_all move ts ++ close ∷ [])))
        ∙ drawn_inside (join_shifts p v) (marks_of_all move ts)
