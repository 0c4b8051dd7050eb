-- The children of new records in a row, and the items that they hold.
use Rattle.std.proofs.Common.{◌≡◌, ◌∙◌, ap, sym, refl, List, [], ◌∷◌, ◌++◌, append_assoc}
use Rattle.std.proofs.lemmas.List.{append-nil}
use Rattle.cl_region.specs.declared.rects.Shift.{Shift}
use Rattle.cl_medium.specs.ItemLaws.{item_moves_twice}
use Rattle.cl_medium.specs.Items.{Item, move_item}
use Rattle.cl_record.specs.Heads.{HeadAt}
use Rattle.cl_record.specs.Labels.{LabelAt}
use Rattle.cl_record.specs.Marks.{Mark, close, marks_of, marks_of_all, move_marks, open_presentation, open_update}
use Rattle.cl_record.specs.Replays.{items_drawn}
use Rattle.cl_record.specs.Shifts.{join_shifts}
use Rattle.cl_record.specs.Trees.{Tree, Trees, leaf, presentation, tree, trees_of, update}
use Rattle.cl_record.specs.Trees as records
use Rattle.cl_record.proofs.Moves.{all_moved-append, all_twice}
use Rattle.cl_record.proofs.Replayed.{drawn-append}
use Rattle.cl_damage.specs.Children.{Children, items_in, none}
use Rattle.cl_damage.specs.Keeps.{Keeps, opened}
use Rattle.cl_damage.specs.Keeps as keeps
use Rattle.cl_damage.specs.NewChildren.{new_child_before, new_children_before}

-- rows of trees, one behind the other
pub new-row : (at : Shift) (ts us : List (Tree Item)) (ks : Keeps) (rest : Keeps → Children Item)
    → new_children_before move_item at (trees_of (ts ++ us)) ks rest
    ≡ new_children_before move_item at (trees_of ts) ks (λ left. new_children_before move_item at (trees_of us) left rest)
new-row at [] us ks rest = refl
new-row at (t ∷ ts) us ks rest =
    ap (λ (f : Keeps → Children Item). new_child_before move_item at t ks f) (λ i left. new-row at ts us left rest i)

-- ---- items

-- what records draw that stand so far from the start
abbrev pub drawn : Shift → List (Mark Item) → List Item
drawn at ms = items_drawn (move_marks move_item at ms)

drawn_both : (at : Shift) (ms ns : List (Mark Item)) → drawn at (ms ++ ns) ≡ drawn at ms ++ drawn at ns
drawn_both at ms ns =
    ap (λ (ks : List (Mark Item)). items_drawn ks) (all_moved-append move_item at ms ns)
    ∙ drawn-append (move_marks move_item at ms) (move_marks move_item at ns)

drawn_inside : (at : Shift) (ms : List (Mark Item)) → drawn at (ms ++ close ∷ []) ≡ drawn at ms
drawn_inside at ms = drawn_both at ms (close ∷ []) ∙ append-nil (drawn at ms)

drawn_presented : (at p : Shift) (l : LabelAt) (ts : Trees Item)
    → drawn at (marks_of move_item (presentation l p ts)) ≡ drawn (join_shifts p at) (marks_of_all move_item ts)
drawn_presented at p l ts =
    ap (λ (ms : List (Mark Item)). items_drawn ms)
    (all_twice move_item item_moves_twice p at (open_presentation l ∷ (marks_of_all move_item ts ++ close ∷ [])))
    ∙ drawn_inside (join_shifts p at) (marks_of_all move_item ts)

drawn_updated : (at p : Shift) (h : HeadAt) (ts : Trees Item)
    → drawn at (marks_of move_item (update h p ts)) ≡ drawn (join_shifts p at) (marks_of_all move_item ts)
drawn_updated at p h ts =
    ap (λ (ms : List (Mark Item)). items_drawn ms)
    (all_twice move_item item_moves_twice p at (open_update h ∷ (marks_of_all move_item ts ++ close ∷ [])))
    ∙ drawn_inside (join_shifts p at) (marks_of_all move_item ts)

mutual
  one-items : (at : Shift) (t : Tree Item) (ks : Keeps) (rest : Keeps → Children Item) (more : List Item)
      → ((left : Keeps) → items_in (rest left) ≡ more)
      → items_in (new_child_before move_item at t ks rest) ≡ drawn at (marks_of move_item t) ++ more
  one-items at (leaf a) ks rest more h = ap (λ (items : List Item). move_item at a ∷ items) (h ks)
  one-items at (presentation l p ts) ks rest more h =
      new-items (join_shifts p at) ts ks rest more h ∙ ap (λ (items : List Item). items ++ more) (sym (drawn_presented at p l ts))
  one-items at (update hd p ts) keeps.none rest more h =
      let inside = new-items (join_shifts p at) ts keeps.none (λ _. none) [] (λ _. refl) in
      let whole = inside ∙ (append-nil (drawn (join_shifts p at) (marks_of_all move_item ts)) ∙ sym (drawn_updated at p hd ts)) in
      λ i. whole i ++ h keeps.none i
  one-items at (update hd p ts) (opened v within others) rest more h =
      let inside = new-items (join_shifts p at) ts within (λ _. none) [] (λ _. refl) in
      let whole = inside ∙ (append-nil (drawn (join_shifts p at) (marks_of_all move_item ts)) ∙ sym (drawn_updated at p hd ts)) in
      λ i. whole i ++ h others i

  -- whatever is kept of them, the children hold what the records draw
  pub new-items : (at : Shift) (ts : Trees Item) (ks : Keeps) (rest : Keeps → Children Item) (more : List Item)
      → ((left : Keeps) → items_in (rest left) ≡ more)
      → items_in (new_children_before move_item at ts ks rest) ≡ drawn at (marks_of_all move_item ts) ++ more
  new-items at records.none ks rest more h = h ks
  new-items at (tree t ts) ks rest more h =
      one-items at t ks (λ left. new_children_before move_item at ts left rest) (drawn at (marks_of_all move_item ts) ++ more)
      (λ left. new-items at ts left rest more h)
      ∙ (sym (append_assoc (drawn at (marks_of move_item t)) (drawn at (marks_of_all move_item ts)) more)
      ∙ ap (λ (items : List Item). items ++ more) (sym (drawn_both at (marks_of move_item t) (marks_of_all move_item ts))))
