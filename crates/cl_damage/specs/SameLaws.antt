-- Items are the same exactly where they are equal.
use Rattle.std.specs.Prelude.{◌≡◌, Bool, true, false, ◌&&◌, refl}
use Rattle.std.proofs.Common.{ap}
use Rattle.std.specs.Bool.{Decides}
use Rattle.std.specs.Cmp.{signed_Decides, unsigned_Decides}
use Rattle.std.specs.Cmp.Lexicographic.{bytes_decides}
use Rattle.cl_medium.specs.Items.{Item}
use Rattle.cl_medium.specs.declared.areas.Area.{Area}
use Rattle.cl_medium.specs.declared.shapes.Direction.{Direction}
use Rattle.cl_medium.specs.declared.shapes.Direction.TheVariants.{Horizontal, Vertical}
use Rattle.cl_medium.specs.declared.shapes.LeafShape.{LeafShape}
use Rattle.cl_medium.specs.declared.shapes.LeafShape.TheVariants.{Fill, Line, Outline, Point, Text}
use Rattle.cl_damage.specs.SameItems.{same_area, same_item, same_shape, same_way}

-- two tests tell two facts
both : {P Q : Type 0} (b c : Bool) → Decides b P → Decides c Q → Decides (b && c) (P × Q)
both true true h k = (λ e. (h.0 e, k.0 e), λ p. refl)
both true false h k = (λ e. absurd (cc), λ p. k.1 p.1)
both false c h k = (λ e. absurd (cc), λ p. h.1 p.0)

-- a test of one fact tests each that comes to the same
as_well : {P Q : Type 0} (b : Bool) → (P → Q) → (Q → P) → Decides b P → Decides b Q
as_well b f g h = (λ e. f (h.0 e), λ q. h.1 (g q))

-- the test of two areas tells that they are equal
area_told : (a b : Area) → Decides (same_area a b) (a ≡ b)
area_told a b =
    as_well (same_area a b)
    (λ h i. record { x = h.0.0 i; y = h.0.1 i; width = h.1.0.0 i; height = h.1.0.1 i; ink = h.1.1 i })
    (λ e. (
      (ap (λ (r : Area). r.x) e, ap (λ (r : Area). r.y) e),
      ((ap (λ (r : Area). r.width) e, ap (λ (r : Area). r.height) e), ap (λ (r : Area). r.ink) e),
    ))
    (both _ _ (both _ _ (signed_Decides a.x b.x) (signed_Decides a.y b.y))
    (both _ _ (both _ _ (signed_Decides a.width b.width) (signed_Decides a.height b.height)) (unsigned_Decides a.ink b.ink)))

-- ways that are found the same are one way
way_means : (a b : Direction) → same_way a b ≡ true → a ≡ b
way_means Horizontal Horizontal e = refl
way_means Horizontal Vertical e = absurd (cc)
way_means Vertical Horizontal e = absurd (cc)
way_means Vertical Vertical e = refl

-- a way is found the same as itself
way_itself : (a : Direction) → same_way a a ≡ true
way_itself Horizontal = refl
way_itself Vertical = refl

-- shapes that are found the same are one shape
shape_means : (s t : LeafShape) → same_shape s t ≡ true → s ≡ t
shape_means (Text s) (Text t) e = ap Text ((bytes_decides s t).0 e)
shape_means (Point a) (Point b) e = ap Point ((unsigned_Decides a b).0 e)
shape_means (Line a) (Line b) e = ap Line (way_means a b e)
shape_means Outline Outline e = refl
shape_means (Fill a) (Fill b) e = ap Fill ((unsigned_Decides a b).0 e)
shape_means s t e = absurd (cc)

-- a shape is found the same as itself
shape_itself : (s : LeafShape) → same_shape s s ≡ true
shape_itself (Text s) = (bytes_decides s s).1 refl
shape_itself (Point a) = (unsigned_Decides a a).1 refl
shape_itself (Line a) = way_itself a
shape_itself Outline = refl
shape_itself (Fill a) = (unsigned_Decides a a).1 refl

-- whether items are the same is told by their areas and shapes
parts_told : (i j : Item) → Decides (same_item i j) ((i.area ≡ j.area) × (same_shape i.shape j.shape ≡ true))
parts_told i j = both (same_area i.area j.area) (same_shape i.shape j.shape) (area_told i.area j.area) (λ e. e, λ e. e)

-- what counts as the same is equal
pub item_same_means : (i j : Item) → same_item i j ≡ true → i ≡ j
item_same_means i j e =
    let parts = (parts_told i j).0 e in
    let shapes = shape_means i.shape j.shape parts.1 in
    λ k. record { area = parts.0 k; shape = shapes k }

-- each item counts as the same as itself
pub item_same_itself : (i : Item) → same_item i i ≡ true
item_same_itself i = (parts_told i i).1 (refl, shape_itself i.shape)
