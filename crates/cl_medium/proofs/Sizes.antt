-- Areas by their fields.
use Rattle.std.proofs.Common.{◌≡◌, ℤ, ◌-ℤ◌, Bool, true, false, Option, Some, None, if◌then◌else◌, refl, subst, sym, ap, ◌∙◌, ◌↔◌}
use Rattle.std.specs.Prelude.{IsTrue}
use Rattle.cl_region.specs.Places.{IsInRange, holds, move_rect}
use Rattle.cl_region.specs.declared.rects.Shift.{Shift}
use Rattle.cl_medium.specs.declared.areas.Area.{Area}
use Rattle.cl_medium.specs.ItemLaws.{bounds_move, same_cell}
use Rattle.cl_medium.specs.declared.shapes.LeafShape.{LeafShape}
use Rattle.cl_medium.specs.Items.{IsArea, IsDistance, Item, Painted, bounds_of, item_cell, move_area, shape_glyph, with_ink}

pub area_is : (r : Area) (a b c d : ℤ) → a ≡ r.x → b ≡ r.y → c ≡ r.width → d ≡ r.height
    → ◌≡◌ {A = Area} (record { x = a; y = b; width = c; height = d; ink = r.ink }) r
area_is r a b c d e f g h = rw (e, f, g, h) refl

pub area_same : (a b : Area) → a ≡ b → IsArea b → IsArea a
area_same a b e h = rw e h

pub area_moved : (v : Shift) (a : Area) → IsArea a → IsInRange (move_rect v (bounds_of a)) → IsArea (move_area v a)
area_moved v a h r = record { range = subst IsInRange (sym (bounds_move v a)) r; width = h.width; height = h.height; ink = h.ink }

-- what an item paints at a place of its area, and outside
pub at_area : (s : LeafShape) (a : Area) (x y across down : ℤ) → IsDistance a x y (Some (across, down))
    → with_ink a.ink (shape_glyph s a.width a.height across down) ≡ item_cell (record { area = a; shape = s }) x y
at_area s a x y across down d =
    same_cell a.ink s a.width a.height true (holds (bounds_of a) x y) across (x -ℤ a.x) down (y -ℤ a.y) (sym d.0) d.1 d.2

none_there : (b : Bool) (o : Option Painted) → b ≡ false → ◌≡◌ {A = Option Painted} None (if b then o else None)
none_there b o h = rw h refl

pub outside_area : (s : LeafShape) (a : Area) (x y : ℤ) → IsDistance a x y None → ◌≡◌ {A = Option Painted} None (item_cell (record { area = a; shape = s }) x y)
outside_area s a x y h = none_there (holds (bounds_of a) x y) (with_ink a.ink (shape_glyph s a.width a.height (x -ℤ a.x) (y -ℤ a.y))) h

-- ---- items by their parts

pub items_same : (a b : Area) (s t : LeafShape) (i j : Item) (r : Bool) → ◌≡◌ {A = Item} (record { area = a; shape = s }) i → ◌≡◌ {A = Item} (record { area = b; shape = t }) j
    → a ≡ b → (IsTrue r ↔ (s ≡ t)) → (IsTrue r ↔ (i ≡ j))
items_same a b s t i j r e f areas shapes = (
  λ told. sym e ∙ (λ k. record { area = areas k; shape = shapes.0 told k }) ∙ f,
  λ same. shapes.1 (ap (λ (m : Item). m.shape) (e ∙ same ∙ sym f)),
)

pub items_apart : (a b : Area) (s t : LeafShape) (i j : Item) → ◌≡◌ {A = Item} (record { area = a; shape = s }) i → ◌≡◌ {A = Item} (record { area = b; shape = t }) j
    → (a ≡ b → ⊥) → IsTrue false ↔ (i ≡ j)
items_apart a b s t i j e f apart = (λ told. cc, λ same. absurd (apart (ap (λ (m : Item). m.area) (e ∙ same ∙ sym f))))

pub same_areas : (a b : Area) (r : Bool) → r ≡ true → (IsTrue r ↔ (a ≡ b)) → a ≡ b
same_areas a b r is areas = areas.0 is

pub unequal_areas : (a b : Area) (r : Bool) → r ≡ false → (IsTrue r ↔ (a ≡ b)) → a ≡ b → ⊥
unequal_areas a b r is areas same = let told : IsTrue r = areas.1 same in cc
