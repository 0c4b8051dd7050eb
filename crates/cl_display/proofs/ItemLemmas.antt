-- Parts with one more item, and parts behind one another.
use Rattle.std.proofs.Common.{◌≡◌, ℕ, ◌≤◌, ◌+◌, true, nat_le, List, [], ◌∷◌, ◌++◌, Ok, refl, ap, sym, ◌∙◌, append_assoc, append-nil, arith}
use Rattle.std.proofs.lemmas.Bool.Decides.{nat_tests}
use Rattle.cl_region.specs.declared.rects.Shift.{Shift}
use Rattle.cl_medium.specs.Items.{move_item, Item}
use Rattle.cl_medium.specs.ItemLaws.{item_stays}
use Rattle.cl_record.specs.Heads.{HeadAt}
use Rattle.cl_record.specs.Labels.{LabelAt}
use Rattle.cl_record.specs.Marks.{Mark, close, history_marks, marks_of, move_marks, open_presentation, open_update}
use Rattle.cl_record.specs.Shifts.{still}
use Rattle.cl_record.specs.Trees.{Tree, presentation, trees_of, update}
use Rattle.cl_record.proofs.Moves.{all-still}
use Rattle.cl_display.specs.Drawings.{DrawingAt, add_item, with_item}

module _ {A : Type 0} (move : Shift → A → A) where
  pub marks-append : (ts us : List (Tree A)) → history_marks move (ts ++ us) ≡ history_marks move ts ++ history_marks move us
  marks-append [] us = refl
  marks-append (t ∷ ts) us =
      ap (λ (ms : List (Mark A)). marks_of move t ++ ms) (marks-append ts us)
      ∙ sym (append_assoc (marks_of move t) (history_marks move ts) (history_marks move us))

-- an item of this weight is added where the whole is not too heavy
pub add_item-light : (most : ℕ) (l : Item) (weight whole : ℕ) (s : DrawingAt) → whole ≡ s.weight + weight → whole ≤ most
    → add_item most l weight s ≡ Ok (record s { weight = whole; part = with_item l s.part })
add_item-light most l weight whole s e h =
    let fits : nat_le (s.weight + weight) most ≡ true = grind (arith, nat_tests, e, h) in
    rw (e, fits) refl

-- the marks of records behind others
pub marks_behind : (ts us : List (Tree Item)) → history_marks move_item (ts ++ us) ≡ history_marks move_item ts ++ history_marks
    move_item us
marks_behind = marks-append move_item

-- the marks of one record that presents others and stands where they are
pub marks-presented : (label : LabelAt) (ts : List (Tree Item))
    → history_marks move_item (presentation label still (trees_of ts) ∷ []) ≡ open_presentation label ∷ (history_marks move_item ts ++ close ∷ [])
marks-presented label ts =
    let marks = open_presentation label ∷ (history_marks move_item ts ++ close ∷ []) in
    append-nil (move_marks move_item still marks) ∙ all-still move_item item_stays marks

-- the marks of one record that is an update and stands where it is
pub marks-updated : (head : HeadAt) (ts : List (Tree Item))
    → history_marks move_item (update head still (trees_of ts) ∷ []) ≡ open_update head ∷ (history_marks move_item ts ++ close ∷ [])
marks-updated head ts =
    let marks = open_update head ∷ (history_marks move_item ts ++ close ∷ []) in
    append-nil (move_marks move_item still marks) ∙ all-still move_item item_stays marks
