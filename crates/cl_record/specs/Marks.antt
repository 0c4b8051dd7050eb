-- A history as one flat list of marks in absolute places.
use Rattle.std.specs.Prelude.{List, [], ◌∷◌, ◌++◌}
use Rattle.cl_region.specs.declared.rects.Shift.{Shift}
use Rattle.cl_record.specs.Heads.{HeadAt, move_head}
use Rattle.cl_record.specs.Labels.{LabelAt}
use Rattle.cl_record.specs.Trees.{Tree, Trees, leaf, none, update, presentation, tree, trees_of}

-- over the items A: an item that is drawn, the opening of a presentation or of an update, or a closing; they pair
pub data Mark (A : Type 0) : Type 0 where
  draw : A → Mark A
  open_presentation : LabelAt → Mark A
  open_update : HeadAt → Mark A
  close : Mark A

module _ {A : Type 0} (move : Shift → A → A) where
  -- a mark elsewhere
  abbrev pub move_mark : Shift → Mark A → Mark A
  move_mark v (draw a) = draw (move v a)
  move_mark v (open_presentation l) = open_presentation l
  move_mark v (open_update h) = open_update (move_head v h)
  move_mark v close = close

  -- marks elsewhere
  abbrev pub move_marks : Shift → List (Mark A) → List (Mark A)
  move_marks v [] = []
  move_marks v (m ∷ ms) = move_mark v m ∷ move_marks v ms

  -- what a tree draws, from left to right; a branch stands at its place
  abbrev mutual
    pub marks_of : Tree A → List (Mark A)
    marks_of (leaf a) = draw a ∷ []
    marks_of (presentation l p ts) = move_marks p (open_presentation l ∷ (marks_of_all ts ++ close ∷ []))
    marks_of (update h p ts) = move_marks p (open_update h ∷ (marks_of_all ts ++ close ∷ []))

    -- the marks of a row of trees, one tree after another
    pub marks_of_all : Trees A → List (Mark A)
    marks_of_all none = []
    marks_of_all (tree t ts) = marks_of t ++ marks_of_all ts

  -- the marks of trees in a row, in the coordinates in which these stand
  abbrev pub history_marks : List (Tree A) → List (Mark A)
  history_marks ts = marks_of_all (trees_of ts)
