-- Parts of an area, and what an item paints in them.
use Rattle.std.proofs.Common.{◌≡◌, ℕ, ◌+◌, ◌-◌, ◌<◌, ◌≤◌, ℤ, pos, negsuc, ◌==◌, ◌&&◌, ◌||◌, if◌then◌else◌, Bool, true, false, Option, Some, None, [], ◌∷◌, refl, sym, ◌∙◌, arith}
use Rattle.std.specs.Prelude.{option_map, unwrap_or}
use Rattle.std.proofs.lemmas.Bool.Decides.{nat_tests}
use Rattle.cl_medium.specs.Items.{Painted, painted_of}
use Rattle.cl_outside.specs.declared.cells.Cell.{Cell}
use Rattle.cl_raster.proofs.Boxes.{clipped_high, clipped_low, high_clipped, low_clipped}
use Rattle.cl_raster.specs.Raster.{Picture, SameSize, Sets, clip_to, glyph_at, ink_at}
use Rattle.cl_region.specs.Places.{holds, is_between}
use Rattle.cl_region.specs.declared.rects.Rect.{Rect}
use Rattle.cl_region.proofs.Corners.{and_left, and_right, both, false_holds, from_between, same_bool, to_between, wrong}
use Rattle.cl_redisplay.specs.Paint.{cell_at, covers, is_among}
use Rattle.cl_redisplay.specs.Parts.{IsPart, PaintsAll, PaintsPart, over}
use Rattle.cl_redisplay.specs.declared.areas.Area.{Area}

pub same_size : (p q r : Picture) → SameSize p q → SameSize q r → SameSize p r
same_size p q r a b = record { width = b.width ∙ a.width; height = b.height ∙ a.height }

pub by_cases : {P : Type 0} (b : Bool) → (b ≡ true → P) → (b ≡ false → P) → P
by_cases true f g = f refl
by_cases false f g = g refl

pub taken : (b : Bool) (r p q : Painted) → b ≡ true → r ≡ p → r ≡ (if b then p else q)
taken true r p q h e = e
taken false r p q h e = absurd (wrong h)

pub passed : (b : Bool) (r p q : Painted) → b ≡ false → r ≡ q → r ≡ (if b then p else q)
passed true r p q h e = absurd (wrong (sym h))
passed false r p q h e = e

-- ---- clipping

pub clipped_most : (z : ℤ) (w : ℕ) → clip_to z w ≤ w
clipped_most (pos n) w = omega arith
clipped_most (negsuc n) w = omega arith

among : (from count n : ℕ) → is_among from count n ≡ true → (from ≤ n) × (n < from + count)
among from count n h = (grind (arith, nat_tests, h), grind (arith, nat_tests, h))

is_in : (from count n : ℕ) → from ≤ n → n < from + count → is_among from count n ≡ true
is_in from count n h k = grind (arith, nat_tests)

-- one side of a part
side : (from size : ℕ) (a b : ℤ) (n : ℕ)
    → is_among (from + clip_to a size) (clip_to b size - clip_to a size) n ≡ is_among from size n && is_between a (pos (n - from)) b
side from size a b n =
    same_bool (is_among (from + clip_to a size) (clip_to b size - clip_to a size) n) (is_among from size n && is_between a (pos (n - from)) b)
    (λ h. let r = among (from + clip_to a size) (clip_to b size - clip_to a size) n h in
    let most = clipped_most b size in
    let low : clip_to a size ≤ n - from = omega (arith, r) in
    let high : n - from < clip_to b size = omega (arith, r) in
    let within : n - from < size = omega (arith, high, most) in
    both (is_among from size n) (is_between a (pos (n - from)) b) (is_in from size n (omega (arith, r)) (omega (arith, r, most)))
    (to_between a (pos (n - from)) b (low_clipped a size (n - from) within low) (high_clipped b size (n - from) high)))
    (λ h. let r = among from size n (and_left (is_among from size n) (is_between a (pos (n - from)) b) h) in
    let s = from_between a (pos (n - from)) b (and_right (is_among from size n) (is_between a (pos (n - from)) b) h) in
    let within : n - from < size = omega (arith, r) in
    let low = clipped_low a size (n - from) s.0 in
    let high = clipped_high b size (n - from) within s.1 in
    is_in (from + clip_to a size) (clip_to b size - clip_to a size) n (omega (arith, r, low)) (omega (arith, r, low, high)))

crossed : (a b c d : Bool) → (a && b) && (c && d) ≡ (a && c) && (b && d)
crossed true true c d = refl
crossed true false true d = refl
crossed true false false d = refl
crossed false b c d = refl

pub part_of : (area : Area) (r : Rect) (left right top bottom width height : ℕ)
    → left ≡ clip_to r.x1 area.width → right ≡ clip_to r.x2 area.width → top ≡ clip_to r.y1 area.height → bottom ≡ clip_to r.y2 area.height
    → width ≡ right - left → height ≡ bottom - top
    → IsPart (record { x = area.x + left; y = area.y + top; width = width; height = height }) area r
part_of area r left right top bottom width height l ri t b w h =
    let x_most = clipped_most r.x2 area.width in
    let y_most = clipped_most r.y2 area.height in
    let x_low = clipped_most r.x1 area.width in
    let y_low = clipped_most r.y1 area.height in
    rw (w, h, l, ri, t, b) (record {
      inside = record {
        left = omega arith;
        right = omega (arith, x_most, x_low);
        top = omega arith;
        bottom = omega (arith, y_most, y_low);
      };
      places = λ x y. rw (side area.x area.width r.x1 r.x2 x, side area.y area.height r.y1 r.y2 y)
          (crossed (is_among area.x area.width x) (is_between r.x1 (pos (x - area.x)) r.x2) (is_among area.y area.height y) (is_between r.y1 (pos (y - area.y)) r.y2));
    })

-- ---- one place

pub pair : (p : Picture) (x y glyph ink : ℕ) → glyph_at p x y ≡ glyph → ink_at p x y ≡ ink → cell_at p x y ≡ record { glyph = glyph; ink = ink }
pair p x y glyph ink g i = λ k. record { glyph = g k; ink = i k }

same_pair : (p q : Picture) (x y : ℕ) → glyph_at p x y ≡ glyph_at q x y → ink_at p x y ≡ ink_at q x y → cell_at p x y ≡ cell_at q x y
same_pair p q x y g i = pair p x y (glyph_at q x y) (ink_at q x y) g i

abbrev pub place : (x y : ℕ) → Area
place x y = record { x = x; y = y; width = 1; height = 1 }

at_place : (x y i j : ℕ) → covers (place x y) i j ≡ true → (i ≡ x) × (j ≡ y)
at_place x y i j h = (grind (arith, nat_tests, h), grind (arith, nat_tests, h))

if_then : (b : Bool) (m n : ℕ) → b ≡ true → (if b then m else n) ≡ m
if_then true m n h = refl
if_then false m n h = absurd (wrong h)

if_else : (b : Bool) (m n : ℕ) → b ≡ false → (if b then m else n) ≡ n
if_else true m n h = absurd (wrong (sym h))
if_else false m n h = refl

over_some : (o : Option Painted) (c under : Painted) → o ≡ Some c → c ≡ unwrap_or o under
over_some o c under e = rw e refl

over_none : (o : Option Painted) (under : Painted) → o ≡ None → under ≡ unwrap_or o under
over_none o under e = rw e refl

module _ {A : Type 0} (cell : A → ℤ → ℤ → Option Painted) where
  pub set_place : (p q : Picture) (area : Area) (item : A) (x y glyph ink : ℕ)
      → cell item (pos (x - area.x)) (pos (y - area.y)) ≡ Some (record { glyph = glyph; ink = ink })
      → Sets p q x y glyph ink → PaintsPart cell p q area (place x y) item
  set_place p q area item x y glyph ink e s = record {
    size = s.size;
    cells = λ i j hi hj.
        by_cases (covers (place x y) i j)
        (λ here. let at = at_place x y i j here in
        let test : (i == x) && (j == y) ≡ true = grind (arith, nat_tests, at) in
        taken (covers (place x y) i j) (cell_at q i j) (over cell area item i j (cell_at p i j)) (cell_at p i j) here
        (pair q i j glyph ink (s.glyphs i j hi ∙ if_then ((i == x) && (j == y)) glyph (glyph_at p i j) test)
        (s.inks i j hi ∙ if_then ((i == x) && (j == y)) ink (ink_at p i j) test)
        ∙ over_some (cell item (pos (i - area.x)) (pos (j - area.y))) (record { glyph = glyph; ink = ink }) (cell_at p i j) (rw (at.0, at.1) e)))
        (λ apart. let test : (i == x) && (j == y) ≡ false = grind (arith, nat_tests, apart) in
        passed (covers (place x y) i j) (cell_at q i j) (over cell area item i j (cell_at p i j)) (cell_at p i j) apart
        (same_pair q p i j (s.glyphs i j hi ∙ if_else ((i == x) && (j == y)) glyph (glyph_at p i j) test)
        (s.inks i j hi ∙ if_else ((i == x) && (j == y)) ink (ink_at p i j) test)));
  }

  pub no_place : (p : Picture) (area : Area) (item : A) (x y : ℕ)
      → cell item (pos (x - area.x)) (pos (y - area.y)) ≡ None → PaintsPart cell p p area (place x y) item
  no_place p area item x y e = record {
    size = record { width = refl; height = refl };
    cells = λ i j hi hj.
        by_cases (covers (place x y) i j)
        (λ here. let at = at_place x y i j here in
        taken (covers (place x y) i j) (cell_at p i j) (over cell area item i j (cell_at p i j)) (cell_at p i j) here
        (over_none (cell item (pos (i - area.x)) (pos (j - area.y))) (cell_at p i j) (rw (at.0, at.1) e)))
        (λ apart. passed (covers (place x y) i j) (cell_at p i j) (over cell area item i j (cell_at p i j)) (cell_at p i j) apart refl);
  }

pub found : {A : Type 0} (cell : A → ℤ → ℤ → Option Painted) (item : A) (a b x y : ℤ) (o : Option Cell) (c : Cell) → a ≡ x → b ≡ y
    → option_map painted_of o ≡ cell item a b → o ≡ Some c → cell item x y ≡ Some (painted_of c)
found cell item a b x y o c e f h is = rw (← e, ← f, ← h, is) refl

pub missed : {A : Type 0} (cell : A → ℤ → ℤ → Option Painted) (item : A) (a b x y : ℤ) (o : Option Cell) → a ≡ x → b ≡ y
    → option_map painted_of o ≡ cell item a b → o ≡ None → cell item x y ≡ None
missed cell item a b x y o e f h is = rw (← e, ← f, ← h, is) refl

-- ---- a part, place by place

module _ {A : Type 0} (cell : A → ℤ → ℤ → Option Painted) where
  pub paints_empty : (p : Picture) (area part : Area) (item : A) → ((x y : ℕ) → covers part x y ≡ false) → PaintsPart cell p p area part item
  paints_empty p area part item empty = record {
    size = record { width = refl; height = refl };
    cells = λ x y hx hy. passed (covers part x y) (cell_at p x y) (over cell area item x y (cell_at p x y)) (cell_at p x y) (empty x y) refl;
  }

-- painted once more there is no change
pub twice : (o : Option Painted) (a b c : Bool) (p q r : Painted) → c ≡ a || b → q ≡ (if a then unwrap_or o p else p)
    → r ≡ (if b then unwrap_or o q else q) → r ≡ (if c then unwrap_or o p else p)
twice None true true c p q r e f g = rw e (g ∙ f)
twice None true false c p q r e f g = rw e (g ∙ f)
twice None false true c p q r e f g = rw e (g ∙ f)
twice None false false c p q r e f g = rw e (g ∙ f)
twice (Some d) true true c p q r e f g = rw e g
twice (Some d) true false c p q r e f g = rw e (g ∙ f)
twice (Some d) false true c p q r e f g = rw e g
twice (Some d) false false c p q r e f g = rw e (g ∙ f)

module _ {A : Type 0} (cell : A → ℤ → ℤ → Option Painted) where
  pub paints_parts : (p q r : Picture) (area a b c : Area) (item : A) → PaintsPart cell p q area a item → PaintsPart cell q r area b item
      → ((x y : ℕ) → covers c x y ≡ covers a x y || covers b x y) → PaintsPart cell p r area c item
  paints_parts p q r area a b c item s t e = record {
    size = same_size p q r s.size t.size;
    cells = λ x y hx hy.
        twice (cell item (pos (x - area.x)) (pos (y - area.y))) (covers a x y) (covers b x y) (covers c x y) (cell_at p x y) (cell_at q x y) (cell_at r x y)
        (e x y) (s.cells x y hx hy) (t.cells x y (omega (arith, s.size.width, hx)) (omega (arith, s.size.height, hy)));
  }

pub no_columns : (x y height i j : ℕ) → covers (record { x = x; y = y; width = 0; height = height }) i j ≡ false
no_columns x y height i j = grind (arith, nat_tests)

pub no_rows : (x y width i j : ℕ) → covers (record { x = x; y = y; width = width; height = 0 }) i j ≡ false
no_rows x y width i j = grind (arith, nat_tests)

pub column_more : (x y width height i j : ℕ) → height ≡ 1
    → covers (record { x = x; y = y; width = width + 1; height = height }) i j
    ≡ covers (record { x = x; y = y; width = width; height = height }) i j || covers (place (x + width) y) i j
column_more x y width height i j one = grind (arith, nat_tests)

pub row_more : (x y width height i j : ℕ)
    → covers (record { x = x; y = y; width = width; height = height + 1 }) i j
    ≡ covers (record { x = x; y = y; width = width; height = height }) i j || covers (record { x = x; y = y + height; width = width; height = 1 }) i j
row_more x y width height i j = grind (arith, nat_tests)

-- ---- the whole area

nowhere : (o : Option Painted) (b : Bool) (under : Painted) → b ≡ false → ((c : Painted) → o ≡ Some c → b ≡ true) → unwrap_or o under ≡ under
nowhere None b under h f = refl
nowhere (Some c) b under h f = absurd (false_holds b h (f c refl))

-- a part that has all places of the area in which something can be painted
pub whole : (o : Option Painted) (in_part in_area in_bounds : Bool) (p q : Painted) → in_part ≡ in_area && in_bounds
    → ((c : Painted) → o ≡ Some c → in_bounds ≡ true) → q ≡ (if in_part then unwrap_or o p else p) → q ≡ (if in_area then unwrap_or o p else p)
whole o in_part true true p q e f g = rw e at g
whole o in_part true false p q e f g = (rw e at g) ∙ sym (nowhere o false p refl f)
whole o in_part false b p q e f g = rw e at g

module _ {A : Type 0} (bounds : A → Rect) (cell : A → ℤ → ℤ → Option Painted) (within : (a : A) (x y : ℤ) (c : Painted) → cell a x y ≡ Some c → holds (bounds a) x y ≡ true) where
  -- where a place is outside of the item's bounds it paints nothing
  pub paints_item : (p q : Picture) (area part : Area) (item : A) → IsPart part area (bounds item) → PaintsPart cell p q area part item
      → PaintsAll cell p q area (item ∷ [])
  paints_item p q area part item h s = record {
    size = s.size;
    cells = λ x y hx hy.
        whole (cell item (pos (x - area.x)) (pos (y - area.y))) (covers part x y) (covers area x y) (holds (bounds item) (pos (x - area.x)) (pos (y - area.y)))
        (cell_at p x y) (cell_at q x y) (h.places x y) (within item (pos (x - area.x)) (pos (y - area.y))) (s.cells x y hx hy);
  }
