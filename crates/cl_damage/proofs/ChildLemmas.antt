-- What the children hold that records are.
use Rattle.std.proofs.Common.{◌≡◌, ◌+ℤ◌, List, [], ◌∷◌, ◌++◌, refl, ◌∙◌, ap, sym, append_assoc}
use Rattle.std.proofs.lemmas.List.{append-nil}
use Rattle.cl_region.specs.declared.rects.Shift.{Shift}
use Rattle.cl_record.specs.Heads.{HeadAt}
use Rattle.cl_record.specs.Labels.{LabelAt}
use Rattle.cl_record.specs.Marks.{Mark, close, marks_of, marks_of_all, move_marks, open_presentation, open_update}
use Rattle.cl_record.specs.Replays.{items_drawn}
use Rattle.cl_record.specs.Shifts.{join_shifts}
use Rattle.cl_record.specs.Trees.{Tree, Trees, leaf, presentation, tree, update}
use Rattle.cl_record.specs.Trees as trees
use Rattle.cl_record.proofs.Moves.{all_moved-append, all_twice}
use Rattle.cl_record.proofs.Replayed.{drawn-append}
use Rattle.cl_damage.specs.Children.{Children, child_before, children_before, items_in, none}

module _ {A : Type 0} (move : Shift → A → A)
    (twice : (v w : Shift) (a : A) → move w (move v a) ≡ move (record { dx = v.dx +ℤ w.dx; dy = v.dy +ℤ w.dy }) a) where
  -- what records draw that stand so far from the start
  abbrev drawn : Shift → List (Mark A) → List A
  drawn at ms = items_drawn (move_marks move at ms)

  drawn_both : (at : Shift) (ms ns : List (Mark A)) → drawn at (ms ++ ns) ≡ drawn at ms ++ drawn at ns
  drawn_both at ms ns =
      ap (λ (ks : List (Mark A)). items_drawn ks) (all_moved-append move at ms ns) ∙ drawn-append (move_marks move at ms) (move_marks move at ns)

  drawn_inside : (at : Shift) (ms : List (Mark A)) → drawn at (ms ++ close ∷ []) ≡ drawn at ms
  drawn_inside at ms = drawn_both at ms (close ∷ []) ∙ append-nil (drawn at ms)

  drawn_presented : (at p : Shift) (l : LabelAt) (ts : Trees A) → drawn at (marks_of move (presentation l p ts)) ≡ drawn (join_shifts p at) (marks_of_all move ts)
  drawn_presented at p l ts =
      ap (λ (ms : List (Mark A)). items_drawn ms) (all_twice move twice p at (open_presentation l ∷ (marks_of_all move ts ++ close ∷ [])))
      ∙ drawn_inside (join_shifts p at) (marks_of_all move ts)

  drawn_updated : (at p : Shift) (h : HeadAt) (ts : Trees A) → drawn at (marks_of move (update h p ts)) ≡ drawn (join_shifts p at) (marks_of_all move ts)
  drawn_updated at p h ts =
      ap (λ (ms : List (Mark A)). items_drawn ms) (all_twice move twice p at (open_update h ∷ (marks_of_all move ts ++ close ∷ [])))
      ∙ drawn_inside (join_shifts p at) (marks_of_all move ts)

  mutual
    child-drawn : (at : Shift) (t : Tree A) (rest : Children A)
        → items_in (child_before move at t rest) ≡ drawn at (marks_of move t) ++ items_in rest
    child-drawn at (leaf a) rest = refl
    child-drawn at (presentation l p ts) rest =
        children-drawn (join_shifts p at) ts rest ∙ ap (λ (items : List A). items ++ items_in rest) (sym (drawn_presented at p l ts))
    child-drawn at (update h p ts) rest =
        ap (λ (items : List A). items ++ items_in rest)
        (children-drawn (join_shifts p at) ts none ∙ (append-nil (drawn (join_shifts p at) (marks_of_all move ts)) ∙ sym (drawn_updated at p h ts)))

    children-drawn : (at : Shift) (ts : Trees A) (rest : Children A)
        → items_in (children_before move at ts rest) ≡ drawn at (marks_of_all move ts) ++ items_in rest
    children-drawn at trees.none rest = refl
    children-drawn at (tree t ts) rest =
        child-drawn at t (children_before move at ts rest)
        ∙ (ap (λ (items : List A). drawn at (marks_of move t) ++ items) (children-drawn at ts rest)
        ∙ (sym (append_assoc (drawn at (marks_of move t)) (drawn at (marks_of_all move ts)) (items_in rest))
        ∙ ap (λ (items : List A). items ++ items_in rest) (sym (drawn_both at (marks_of move t) (marks_of_all move ts)))))

  pub children-hold : (at : Shift) (ts : Trees A) → items_in (children_before move at ts none) ≡ drawn at (marks_of_all move ts)
  children-hold at ts = children-drawn at ts none ∙ append-nil (drawn at (marks_of_all move ts))
