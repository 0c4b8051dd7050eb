-- Which trees hold together, and where they may stand.
use Rattle.std.specs.Prelude.{◌≡◌, ◌≤ℤ◌, List, [], ◌∷◌, Option, Some, None, IfSome}
use Rattle.cl_medium.specs.declared.leaves.Leaf.{Ghosts}
use Rattle.cl_region.specs.Places.{IsInRange, move_rect}
use Rattle.cl_region.specs.declared.rects.Rect.{Rect}
use Rattle.cl_region.specs.declared.rects.Shift.{Shift}
use Rattle.cl_record.specs.Boxes.{extent_box, summary_of}
use Rattle.cl_record.specs.Heads.{HeadAt, MeasuresAt, Point}
use Rattle.cl_record.specs.Marks.{Mark, open_update, close, draw, marks_of, marks_of_all, open_presentation}
use Rattle.cl_record.specs.Shifts.{IsShift, still}
use Rattle.cl_record.specs.Trees.{Tree, Trees, leaf, none, update, presentation, tree}
use Rattle.cl_record.specs.declared.summaries.Summary.{Summary}

-- a place lies between the sides of a rectangle, or on them
pub record HoldsPoint (r : Rect) (p : Point) : Type 0 where
  pub left : r.x1 ≤ℤ p.x
  pub right : p.x ≤ℤ r.x2
  pub top : r.y1 ≤ℤ p.y
  pub bottom : p.y ≤ℤ r.y2

-- all corners of a rectangle, also of one without cells, do so
pub record HoldsCorners (r other : Rect) : Type 0 where
  pub first : HoldsPoint r (record { x = other.x1; y = other.y1 })
  pub last : HoldsPoint r (record { x = other.x2; y = other.y2 })

-- an extent is in the range and holds the start and the end, and the box of the items and of the extents of the updates inside
pub record IsHeld (m : MeasuresAt) (inside_box : Option Rect) : Type 0 where
  pub range : IsInRange m.extent
  pub start : HoldsPoint m.extent m.start
  pub end : HoldsPoint m.extent m.end
  pub inside : IfSome inside_box (HoldsCorners m.extent)

-- where what a branch holds is in the range, if it holds an item or an update; else it does not move
abbrev pub IsPlaceOf : Shift → Option Rect → Type 0
IsPlaceOf p None = p ≡ still
IsPlaceOf p (Some r) = IsInRange (move_rect p r)

module _ {A : Type 0} (bounds : A → Rect) where
  -- each item and the extent of each update that begins
  abbrev pub AreInRange : List (Mark A) → Type 0
  AreInRange [] = Unit {0}
  AreInRange (draw a ∷ marks) = IsInRange (bounds a) × AreInRange marks
  AreInRange (open_presentation l ∷ marks) = AreInRange marks
  AreInRange (open_update h ∷ marks) = IsInRange h.measures.extent × AreInRange marks
  AreInRange (close ∷ marks) = AreInRange marks

module _ {A : Type 0} (bounds : A → Rect) (move : Shift → A → A) where
  -- what the head of an update says is so
  abbrev pub IsMeasured : HeadAt → Trees A → Type 0
  IsMeasured h ts = IsHeld h.measures (extent_box bounds (marks_of_all move ts))

  -- what each tree keeps: all that it holds is in the range, and each update is measured
  abbrev mutual
    pub IsSound : Tree A → Type 0
    IsSound (leaf a) = IsInRange (bounds a)
    IsSound (presentation l p ts) = AreSound ts × IsPlaceOf p (extent_box bounds (marks_of_all move ts))
    IsSound (update h p ts) = AreSound ts × (IsMeasured h ts × IsInRange (move_rect p h.measures.extent))

    -- each tree of a row is sound
    pub AreSound : Trees A → Type 0
    AreSound none = Unit {0}
    AreSound (tree t ts) = IsSound t × AreSound ts

  -- moved so far, its items and the extents of its updates, at any depth, are in the range
  abbrev pub StaysInRange : Shift → Tree A → Type 0
  StaysInRange v t = IfSome (extent_box bounds (marks_of move t)) (λ r. IsInRange (move_rect v r))

  -- the same of trees in a row
  abbrev pub StayInRange : Shift → Trees A → Type 0
  StayInRange v ts = IfSome (extent_box bounds (marks_of_all move ts)) (λ r. IsInRange (move_rect v r))

  -- a tree that holds together stands moved so far
  pub record IsPlaced (v : Shift) (t : Tree A) : Type 0 where
    pub shift : IsShift v
    pub sound : IsSound t
    pub range : StaysInRange v t

  -- trees in a row do
  pub record ArePlaced (v : Shift) (ts : Trees A) : Type 0 where
    pub shift : IsShift v
    pub sound : AreSound ts
    pub range : StayInRange v ts

-- ---- what the types of records keep: records over all members of the leaf's trait, since a fact over some of them leaves callers at a
-- concrete leaf without a proof

-- a tree that holds together
pub record IsKept {A : Type 0} (g : Ghosts A) (t : Tree A) : Type 0 where
  pub sound : IsSound g.bounds g.moved_by t

-- trees in a row with the summary of their marks
pub record IsRow {A : Type 0} (g : Ghosts A) (ts : Trees A) (summary : Summary) : Type 0 where
  pub sound : AreSound g.bounds g.moved_by ts
  pub summary_is : summary ≡ summary_of g.bounds (marks_of_all g.moved_by ts)
