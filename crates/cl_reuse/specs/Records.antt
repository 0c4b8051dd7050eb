-- The records that marks tell: each branch stands at no place of its own, so all that it holds is in absolute places.
use Rattle.std.specs.Prelude.{List, [], ◌∷◌, reverse}
use Rattle.cl_medium.specs.Items.{Item}
use Rattle.cl_record.specs.Heads.{HeadAt}
use Rattle.cl_record.specs.Labels.{LabelAt}
use Rattle.cl_record.specs.Marks.{Mark, draw, open_presentation, open_update, close}
use Rattle.cl_record.specs.Shifts.{still}
use Rattle.cl_record.specs.Trees.{Tree, Trees, leaf, presentation, trees_of, update}
use Rattle.cl_display.specs.Outcomes.{DrawOutcome}
use Rattle.cl_reuse.specs.Kept.{KeptAt, kept}

-- a branch that is open: what it presents, or what the update says of itself
pub data Opened : Type 0 where
  presents : LabelAt → Opened
  updates : HeadAt → Opened

-- the branch, once it is closed
abbrev pub closed : Opened → Trees Item → Tree Item
closed (presents l) ts = presentation l still ts
closed (updates h) ts = update h still ts

-- the records of marks: by what is open around, innermost first, each with what stands before it; and by what stands there so far, the last first
abbrev pub records_from : List (Opened × List (Tree Item)) → List (Tree Item) → List (Mark Item) → List (Tree Item)
records_from around here [] = reverse here
records_from around here (draw a ∷ ms) = records_from around (leaf a ∷ here) ms
records_from around here (open_presentation l ∷ ms) = records_from ((presents l, here) ∷ around) [] ms
records_from around here (open_update h ∷ ms) = records_from ((updates h, here) ∷ around) [] ms
records_from [] here (close ∷ ms) = records_from [] here ms
records_from (o ∷ around) here (close ∷ ms) = records_from around (closed o.0 (trees_of (reverse here)) ∷ o.1) ms

-- the records of marks that pair
abbrev pub records_of : List (Mark Item) → List (Tree Item)
records_of ms = records_from [] [] ms

-- what is kept of a history with these marks where a display is drawn anew
abbrev pub kept_among : List (Mark Item) → DrawOutcome → List KeptAt
kept_among ms o = kept (records_of ms) o
