-- The records that the marks of a history tell: its trees, each branch of which stands at no place of its own.
use Rattle.std.proofs.Common.{◌≡◌, ◌∙◌, ap, sym, refl, List, [], ◌∷◌, ◌++◌, reverse, append_assoc, append-nil}
use Rattle.std.proofs.lemmas.List.{reverse-append}
use Rattle.cl_region.specs.declared.rects.Shift.{Shift}
use Rattle.cl_medium.specs.ItemLaws.{item_moves_twice, item_stays}
use Rattle.cl_medium.specs.Items.{Item, move_item}
use Rattle.cl_record.specs.Heads.{HeadAt, move_head}
use Rattle.cl_record.specs.Marks.{Mark, close, history_marks, marks_of, marks_of_all, move_marks, open_presentation, open_update}
use Rattle.cl_record.specs.Shifts.{join_shifts, still}
use Rattle.cl_record.specs.Trees.{Tree, Trees, leaf, none, presentation, tree, trees_of, update}
use Rattle.cl_record.proofs.Moves.{all-still, all_moved-append, all_twice}
use Rattle.cl_reuse.specs.Records.{Opened, presents, records_from, records_of, updates}

-- a tree that stands so far from the start, with all that it holds in absolute places
abbrev mutual
  pub settled : Shift → Tree Item → Tree Item
  settled at (leaf a) = leaf (move_item at a)
  settled at (presentation l p ts) = presentation l still (all_settled (join_shifts p at) ts)
  settled at (update h p ts) = update (move_head (join_shifts p at) h) still (all_settled (join_shifts p at) ts)

  -- trees in a row
  pub all_settled : Shift → Trees Item → Trees Item
  all_settled at none = none
  all_settled at (tree t ts) = tree (settled at t) (all_settled at ts)

-- trees in a row behind those that stand there so far, the last first
abbrev put_behind : Shift → Trees Item → List (Tree Item) → List (Tree Item)
put_behind at none here = here
put_behind at (tree t ts) here = put_behind at ts (settled at t ∷ here)

-- trees of a list in front of others
abbrev put_before : List (Tree Item) → Trees Item → Trees Item
put_before [] us = us
put_before (t ∷ ts) us = tree t (put_before ts us)

-- ---- rows

before-both : (ts us : List (Tree Item)) (ws : Trees Item) → put_before (ts ++ us) ws ≡ put_before ts (put_before us ws)
before-both [] us ws = refl
before-both (t ∷ ts) us ws = ap (λ (vs : Trees Item). tree t vs) (before-both ts us ws)

before-none : (ts : List (Tree Item)) → trees_of ts ≡ put_before ts none
before-none [] = refl
before-none (t ∷ ts) = ap (λ (vs : Trees Item). tree t vs) (before-none ts)

turned-row : (at : Shift) (ts : Trees Item) (here : List (Tree Item)) → trees_of (reverse (put_behind at ts here)) ≡ put_before (reverse here) (all_settled at ts)
turned-row at none here = before-none (reverse here)
turned-row at (tree t ts) here =
    turned-row at ts (settled at t ∷ here)
    ∙ ap (λ (us : List (Tree Item)). put_before us (all_settled at ts)) (reverse-append (settled at t ∷ []) here)
    ∙ before-both (reverse here) (settled at t ∷ []) (all_settled at ts)

-- ---- marks

-- the marks of a branch that is moved, in front of others
branch-marks : (at p : Shift) (first : Mark Item) (inside ms : List (Mark Item))
    → move_marks move_item at (move_marks move_item p (first ∷ (inside ++ close ∷ []))) ++ ms
    ≡ move_marks move_item (join_shifts p at) (first ∷ []) ++ (move_marks move_item (join_shifts p at) inside ++ close ∷ ms)
branch-marks at p first inside ms =
    let there = join_shifts p at in
    ap (λ (ks : List (Mark Item)). ks ++ ms) (all_twice move_item item_moves_twice p at (first ∷ (inside ++ close ∷ [])))
    ∙ ap (λ (ks : List (Mark Item)). move_marks move_item there (first ∷ []) ++ (ks ++ ms)) (all_moved-append move_item there inside (close ∷ []))
    ∙ ap (λ (ks : List (Mark Item)). move_marks move_item there (first ∷ []) ++ ks) (append_assoc (move_marks move_item there inside) (close ∷ []) ms)

mutual
  -- the marks of a tree are one record more
  tree-told : (at : Shift) (t : Tree Item) (around : List (Opened × List (Tree Item))) (here : List (Tree Item)) (ms : List (Mark Item))
      → records_from around here (move_marks move_item at (marks_of move_item t) ++ ms) ≡ records_from around (settled at t ∷ here) ms
  tree-told at (leaf a) around here ms = refl
  tree-told at (presentation l p ts) around here ms =
      let there = join_shifts p at in
      ap (λ (ks : List (Mark Item)). records_from around here ks) (branch-marks at p (open_presentation l) (marks_of_all move_item ts) ms)
      ∙ row-told there ts ((presents l, here) ∷ around) [] (close ∷ ms)
      ∙ ap (λ (us : Trees Item). records_from around (presentation l still us ∷ here) ms) (turned-row there ts [])
  tree-told at (update h p ts) around here ms =
      let there = join_shifts p at in
      let head : HeadAt = move_head there h in
      ap (λ (ks : List (Mark Item)). records_from around here ks) (branch-marks at p (open_update h) (marks_of_all move_item ts) ms)
      ∙ row-told there ts ((updates head, here) ∷ around) [] (close ∷ ms)
      ∙ ap (λ (us : Trees Item). records_from around (update head still us ∷ here) ms) (turned-row there ts [])

  -- the marks of trees in a row are one record more for each
  row-told : (at : Shift) (ts : Trees Item) (around : List (Opened × List (Tree Item))) (here : List (Tree Item)) (ms : List (Mark Item))
      → records_from around here (move_marks move_item at (marks_of_all move_item ts) ++ ms) ≡ records_from around (put_behind at ts here) ms
  row-told at none around here ms = refl
  row-told at (tree t ts) around here ms =
      ap (λ (ks : List (Mark Item)). records_from around here (ks ++ ms)) (all_moved-append move_item at (marks_of move_item t) (marks_of_all move_item ts))
      ∙ ap (λ (ks : List (Mark Item)). records_from around here ks)
      (append_assoc (move_marks move_item at (marks_of move_item t)) (move_marks move_item at (marks_of_all move_item ts)) ms)
      ∙ tree-told at t around here (move_marks move_item at (marks_of_all move_item ts) ++ ms)
      ∙ row-told at ts around (settled at t ∷ here) ms

-- the marks of a history tell its trees
pub history-told : (old : List (Tree Item)) → trees_of (records_of (history_marks move_item old)) ≡ all_settled still (trees_of old)
history-told old =
    let marks = history_marks move_item old in
    ap (λ (ms : List (Mark Item)). trees_of (records_from [] [] ms)) (sym (append-nil (move_marks move_item still marks) ∙ all-still move_item item_stays marks))
    ∙ ap (λ (ts : List (Tree Item)). trees_of ts) (row-told still (trees_of old) [] [] [])
    ∙ turned-row still (trees_of old) []

-- ---- the same marks

-- those of a branch, where what it holds draws the same
branch-settled : (at p : Shift) (first : Mark Item) (inside ms : List (Mark Item)) → ms ≡ move_marks move_item (join_shifts p at) inside
    → move_marks move_item still (move_marks move_item (join_shifts p at) (first ∷ []) ++ (ms ++ close ∷ []))
    ≡ move_marks move_item at (move_marks move_item p (first ∷ (inside ++ close ∷ [])))
branch-settled at p first inside ms e =
    let there = join_shifts p at in
    let one = move_marks move_item there (first ∷ []) in
    all-still move_item item_stays (one ++ (ms ++ close ∷ []))
    ∙ ap (λ (ks : List (Mark Item)). one ++ (ks ++ close ∷ [])) e
    ∙ ap (λ (ks : List (Mark Item)). one ++ ks) (sym (all_moved-append move_item there inside (close ∷ [])))
    ∙ sym (all_twice move_item item_moves_twice p at (first ∷ (inside ++ close ∷ [])))

mutual
  tree-marks : (at : Shift) (t : Tree Item) → marks_of move_item (settled at t) ≡ move_marks move_item at (marks_of move_item t)
  tree-marks at (leaf a) = refl
  tree-marks at (presentation l p ts) =
      branch-settled at p (open_presentation l) (marks_of_all move_item ts) (marks_of_all move_item (all_settled (join_shifts p at) ts))
      (row-marks (join_shifts p at) ts)
  tree-marks at (update h p ts) =
      branch-settled at p (open_update h) (marks_of_all move_item ts) (marks_of_all move_item (all_settled (join_shifts p at) ts))
      (row-marks (join_shifts p at) ts)

  -- what trees in a row draw is the same
  pub row-marks : (at : Shift) (ts : Trees Item) → marks_of_all move_item (all_settled at ts) ≡ move_marks move_item at (marks_of_all move_item ts)
  row-marks at none = refl
  row-marks at (tree t ts) =
      let one = tree-marks at t in
      let more = row-marks at ts in
      (λ i. one i ++ more i) ∙ sym (all_moved-append move_item at (marks_of move_item t) (marks_of_all move_item ts))
