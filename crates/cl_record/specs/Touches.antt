-- Which presentations a place touches.
use Rattle.std.specs.Prelude.{ℕ, zero, suc, ℤ, Bool, false, ◌||◌, if◌then◌else◌, List, [], ◌∷◌, reverse, Option, Some, None, option_map}
use Rattle.std.specs.List.{slice_get}
use Rattle.cl_region.specs.Places.{holds}
use Rattle.cl_region.specs.declared.rects.Rect.{Rect}
use Rattle.cl_syntax.specs.TypeSpecTree.{TypeSpecTree}
use Rattle.cl_value.specs.Data.{Data}
use Rattle.cl_record.specs.Boxes.{items_box}
use Rattle.cl_record.specs.Labels.{LabelAt}
use Rattle.cl_record.specs.Marks.{Mark, open_update, close, draw, open_presentation}

-- what a presentation at a place presents, and the specifier of its type
pub record TouchAt : Type 0 where
  pub object : Data
  pub spec : TypeSpecTree

-- what a label says of that
abbrev pub touch_of_label : LabelAt → TouchAt
touch_of_label l = record { object = l.object; spec = l.spec }

-- a box holds the place; where there is no box nothing does
abbrev pub box_holds : Option Rect → (x y : ℤ) → Bool
box_holds None x y = false
box_holds (Some r) x y = holds r x y

module _ {A : Type 0} where
  -- the items that are drawn before what is open is closed, below so many levels that are open inside it
  abbrev pub items_inside : (levels : ℕ) → List (Mark A) → List A
  items_inside levels [] = []
  items_inside levels (draw a ∷ ms) = a ∷ items_inside levels ms
  items_inside levels (open_presentation l ∷ ms) = items_inside (suc levels) ms
  items_inside levels (open_update h ∷ ms) = items_inside (suc levels) ms
  items_inside zero (close ∷ ms) = []
  items_inside (suc levels) (close ∷ ms) = items_inside levels ms

module _ {A : Type 0} (bounds : A → Rect) (x y : ℤ) where
  -- the bounds of one of the items hold the place
  abbrev pub item_holds : List A → Bool
  item_holds [] = false
  item_holds (a ∷ items) = holds (bounds a) x y || item_holds items

  -- the place touches a presentation of these items: the box of all of them holds it where the label wants a single box, else one of them
  abbrev pub touches : LabelAt → List A → Bool
  touches l items = if l.single_box then box_holds (items_box bounds items) x y else item_holds items

  -- the labels of the presentations that the place touches, in the order in which they begin
  abbrev pub touched_labels : List (Mark A) → List LabelAt
  touched_labels [] = []
  touched_labels (draw a ∷ ms) = touched_labels ms
  touched_labels (open_presentation l ∷ ms) = if touches l (items_inside 0 ms) then l ∷ touched_labels ms else touched_labels ms
  touched_labels (open_update h ∷ ms) = touched_labels ms
  touched_labels (close ∷ ms) = touched_labels ms

  -- what the presentation with number k of them presents, where the one that began latest has number 0
  abbrev pub touched_at : (k : ℕ) → List (Mark A) → Option TouchAt
  touched_at k ms = option_map touch_of_label (slice_get (reverse (touched_labels ms)) k)
