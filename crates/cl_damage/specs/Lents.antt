-- The children of a level, as records lend them.
use Rattle.std.specs.Prelude.{List, Option, None}
use Rattle.cl_region.specs.Places.{IsInRange, move_rect}
use Rattle.cl_region.specs.declared.rects.Rect.{Rect}
use Rattle.cl_region.specs.declared.rects.Shift.{Shift}
use Rattle.cl_record.specs.Ranges.{ArePlaced}
use Rattle.cl_record.specs.Trees.{trees_of}
use Rattle.cl_damage.specs.Agreement.{Each}
use Rattle.cl_damage.specs.Children.{Child, item, none, updated}
use Rattle.cl_damage.specs.KeepRows.{keeps_of}
use Rattle.cl_damage.specs.Keeps.{Keeps, opened}
use Rattle.cl_damage.specs.Keeps as keeps
use Rattle.cl_damage.specs.NewChildren.{new_children_before}
use Rattle.cl_damage.specs.declared.lents.Lent.{Lent}
use Rattle.cl_damage.specs.declared.lents.Lent.TheVariants as lent

-- how far the first update was moved, if it was kept; nothing of none
abbrev pub first_moved : Keeps → Option Shift
first_moved keeps.none = None
first_moved (opened v inside rest) = v

-- what holds of the updates inside of the first one
abbrev pub first_inside : Keeps → Keeps
first_inside keeps.none = keeps.none
first_inside (opened v inside rest) = inside

-- all but the first update
abbrev pub all_but_first : Keeps → Keeps
all_but_first keeps.none = keeps.none
all_but_first (opened v inside rest) = rest

module _ {A : Type 0} (move : Shift → A → A) where
  -- the child that is lent
  abbrev pub child_lent : Lent A → Child A
  child_lent (lent.Item at a) = item (move at a.now)
  child_lent (lent.Update b) =
      updated (b.piece.now.head.site, b.piece.now.head.id) b.moved
      (new_children_before move b.place (trees_of b.piece.now.inside) (keeps_of b.inside.now) (λ _. none))

module _ {A : Type 0} (bounds : A → Rect) (move : Shift → A → A) where
  -- where it stands, all of its items are in the range
  abbrev pub Stands : Lent A → Type 0
  Stands (lent.Item at a) = IsInRange (move_rect at (bounds a.now))
  Stands (lent.Update b) = ArePlaced bounds move b.place (trees_of b.piece.now.inside)

  -- the same of each of a level
  abbrev pub AllStand : List (Lent A) → Type 0
  AllStand ls = Each Stands ls
