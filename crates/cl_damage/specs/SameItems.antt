-- Items that are the same: of the same kind, at the same place, and with the same size, bytes and ink.
use Rattle.std.specs.Prelude.{◌==◌, Bool, true, false, ◌&&◌}
use Rattle.std.specs.Cmp.Lexicographic.{pointwise}
use Rattle.std.specs.Ordering.{int_eq}
use Rattle.cl_medium.specs.Items.{Item}
use Rattle.cl_medium.specs.declared.areas.Area.{Area}
use Rattle.cl_medium.specs.declared.shapes.Direction.{Direction}
use Rattle.cl_medium.specs.declared.shapes.Direction.TheVariants.{Horizontal, Vertical}
use Rattle.cl_medium.specs.declared.shapes.LeafShape.{LeafShape}
use Rattle.cl_medium.specs.declared.shapes.LeafShape.TheVariants.{Fill, Line, Outline, Point, Text}

-- two areas have the same corner
abbrev pub same_corner : Area → Area → Bool
same_corner a b = int_eq a.x b.x && int_eq a.y b.y

-- two areas have the same sizes
abbrev pub same_size : Area → Area → Bool
same_size a b = int_eq a.width b.width && int_eq a.height b.height

-- two areas have the same corner, the same sizes and the same ink
abbrev pub same_area : Area → Area → Bool
same_area a b = same_corner a b && (same_size a b && a.ink == b.ink)

-- two lines have the same way
abbrev pub same_way : Direction → Direction → Bool
same_way Horizontal Horizontal = true
same_way Horizontal Vertical = false
same_way Vertical Horizontal = false
same_way Vertical Vertical = true

-- two shapes are of the same kind, and have the same bytes or the same way
abbrev pub same_shape : LeafShape → LeafShape → Bool
same_shape (Text s) (Text t) = pointwise ◌==◌ s t
same_shape (Point a) (Point b) = a == b
same_shape (Line a) (Line b) = same_way a b
same_shape Outline Outline = true
same_shape (Fill a) (Fill b) = a == b
same_shape s t = false

-- two items have the same area and the same shape
abbrev pub same_item : Item → Item → Bool
same_item i j = same_area i.area j.area && same_shape i.shape j.shape
