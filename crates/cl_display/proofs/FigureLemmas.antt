-- A figure of values that it does not ask for is refused by trap 1, and no other figure is.
use Rattle.std.proofs.Common.{◌≡◌, ℕ, ◌+◌, pos, Bool, true, false, if◌then◌else◌, List, [], ◌∷◌, Option, Some, None, Result, Ok, Err}
use Rattle.std.proofs.Common.{nat_le, refl}
use Rattle.std.specs.Option.{option_and_then}
use Rattle.std.specs.Prelude.{◌⊎◌, ◌↔◌, int_le, int_lt, ◌||◌}
use mathlib.Core.Logic.{inl, inr}
use Rattle.cl_value.specs.Data as value
use Rattle.cl_value.specs.Data.{Data}
use Rattle.cl_syntax.specs.declared.figures.Figure.{Figure}
use Rattle.cl_syntax.specs.declared.figures.Figure.TheVariants as figure
use Rattle.cl_medium.specs.Items.{bounds_of, Item}
use Rattle.cl_medium.specs.declared.areas.Area.{Area}
use Rattle.cl_display.specs.Drawings.{DrawingAt, add_item, is_in_range, with_item}
use Rattle.cl_display.specs.Figures.{IsByte, IsFigure, IsNumber, area_at, byte_of, draw_figure, draw_parts, draw_shape, figure_parts}
use Rattle.cl_display.specs.Figures.{leaf_in, number_of, parts_at, with_origin_used}
use Rattle.cl_display.specs.declared.figures.FigureItem.{FigureItem}
use Rattle.cl_display.specs.declared.figures.FigureItem.TheVariants as item
use Rattle.cl_display.specs.declared.figures.FigureParts.{FigureParts}

-- ---- a shape is not refused by trap 1

abbrev NotTrap1 : Result DrawingAt ℕ → Type 0
NotTrap1 r = r ≡ Err 1 → ⊥

other_choice : (b : Bool) (q r : Result DrawingAt ℕ) → NotTrap1 q → NotTrap1 r → NotTrap1 (if b then q else r)
other_choice true q r g h = g
other_choice false q r g h = h

other_item : (b : Bool) (t : DrawingAt) → NotTrap1 (with_origin_used (if b then Ok t else Err 10))
other_item true t p = cc
other_item false t p = cc

other_range : NotTrap1 (Err 9)
other_range p = cc

other_end : (s : DrawingAt) → NotTrap1 (Ok s)
other_end s p = cc

other_shape : (most : ℕ) (leaf : Item) (area : Area) (s : DrawingAt) → NotTrap1 (draw_shape most leaf area s)
other_shape most leaf area s =
    other_choice (int_lt area.width (pos 0) || int_lt area.height (pos 0)) (Err 9) _ other_range
    (other_choice (int_le area.width (pos 0) || int_le area.height (pos 0)) (Ok s) _ (other_end s)
    (other_choice (is_in_range (bounds_of area)) (with_origin_used (add_item most leaf 1 s)) (Err 9)
    (other_item (nat_le (s.weight + 1) most) (record s { weight = s.weight + 1; part = with_item leaf s.part })) other_range))

-- ---- right values

record Found {A : Type 0} (o : Option A) : Type 0 where
  value : A
  is : o ≡ Some value

found-number : (d : Data) → IsNumber d → Found (number_of d)
found-number (value.int z) h = record { value = z; is = refl }
found-number d h = absurd h

found-byte : (d : Data) → IsByte d → Found (byte_of d)
found-byte (value.text (byte ∷ [])) h = record { value = byte; is = refl }
found-byte d h = absurd h

found-figure : (f : Figure) (ds : List Data) → IsFigure f ds → Found (figure_parts f ds)
found-figure figure.Point (a ∷ b ∷ c ∷ []) h =
    let x = found-number a h.0 in
    let y = found-number b h.1 in
    let byte = found-byte c h.2 in
    record { value = record { x = x.value; y = y.value; item = item.Point byte.value }; is = rw (byte.is, x.is, y.is) refl }
found-figure figure.HorizontalLine (a ∷ b ∷ c ∷ []) h =
    let x = found-number a h.0 in
    let y = found-number b h.1 in
    let n = found-number c h.2 in
    record { value = record { x = x.value; y = y.value; item = item.HorizontalLine n.value }; is = rw (n.is, x.is, y.is) refl }
found-figure figure.VerticalLine (a ∷ b ∷ c ∷ []) h =
    let x = found-number a h.0 in
    let y = found-number b h.1 in
    let n = found-number c h.2 in
    record { value = record { x = x.value; y = y.value; item = item.VerticalLine n.value }; is = rw (n.is, x.is, y.is) refl }
found-figure figure.Outline (a ∷ b ∷ c ∷ d ∷ []) h =
    let x = found-number a h.0 in
    let y = found-number b h.1 in
    let w = found-number c h.2 in
    let t = found-number d h.3 in
    record { value = record { x = x.value; y = y.value; item = item.Outline w.value t.value }; is = rw (w.is, t.is, x.is, y.is) refl }
found-figure figure.Filled (a ∷ b ∷ c ∷ d ∷ e ∷ []) h =
    let x = found-number a h.0 in
    let y = found-number b h.1 in
    let w = found-number c h.2 in
    let t = found-number d h.3 in
    let byte = found-byte e h.4 in
    record {
      value = record { x = x.value; y = y.value; item = item.Filled w.value t.value byte.value };
      is =
          rw (w.is, t.is, byte.is, x.is, y.is) refl;
    }
found-figure f ds h = absurd h

-- ---- wrong values

number-or : (d : Data) → (number_of d ≡ None) ⊎ IsNumber d
number-or (value.int z) = inr tt
number-or d = inl refl

byte-or : (d : Data) → (byte_of d ≡ None) ⊎ IsByte d
byte-or (value.text (byte ∷ [])) = inr tt
byte-or d = inl refl

-- nothing is made of a part that is not there, or in no way
then-none : {A B : Type 0} (o : Option A) (f : A → Option B) → ((x : A) → f x ≡ None) → option_and_then f o ≡ None
then-none None f h = refl
then-none (Some x) f h = h x

none-none : {A B : Type 0} (o : Option A) (f : A → Option B) → o ≡ None → option_and_then f o ≡ None
none-none o f p = rw p refl

either-none : {A B K : Type 0} (o : Option A) (f : A → Option B) → (o ≡ None) ⊎ K → (K → (x : A) → f x ≡ None) → option_and_then f o ≡ None
either-none o f (inl p) h = none-none o f p
either-none o f (inr k) h = then-none o f (h k)

wrong-place : (a b : Data) (i : FigureItem) → (IsNumber a → IsNumber b → ⊥) → parts_at a b i ≡ None
wrong-place a b i h =
    either-none (number_of a) (λ x. option_and_then (λ y. Some (record { x = x; y = y; item = i })) (number_of b)) (number-or a)
    (λ m x. either-none (number_of b) (λ y. Some (record { x = x; y = y; item = i })) (number-or b) (λ n y. absurd (h m n)))

wrong-figure : (f : Figure) (ds : List Data) → (IsFigure f ds → ⊥) → figure_parts f ds ≡ None
wrong-figure figure.Point (a ∷ b ∷ c ∷ []) h =
    either-none (byte_of c) (λ byte. parts_at a b (item.Point byte)) (byte-or c)
    (λ k byte. wrong-place a b (item.Point byte) (λ m n. h (m, n, k)))
wrong-figure figure.HorizontalLine (a ∷ b ∷ c ∷ []) h =
    either-none (number_of c) (λ length. parts_at a b (item.HorizontalLine length)) (number-or c)
    (λ k length. wrong-place a b (item.HorizontalLine length) (λ m n. h (m, n, k)))
wrong-figure figure.VerticalLine (a ∷ b ∷ c ∷ []) h =
    either-none (number_of c) (λ length. parts_at a b (item.VerticalLine length)) (number-or c)
    (λ k length. wrong-place a b (item.VerticalLine length) (λ m n. h (m, n, k)))
wrong-figure figure.Outline (a ∷ b ∷ c ∷ d ∷ []) h =
    either-none (number_of c) (λ width. option_and_then (λ height. parts_at a b (item.Outline width height)) (number_of d)) (number-or c)
    (λ k width. either-none (number_of d) (λ height. parts_at a b (item.Outline width height)) (number-or d)
    (λ l height. wrong-place a b (item.Outline width height) (λ m n. h (m, n, k, l))))
wrong-figure figure.Filled (a ∷ b ∷ c ∷ d ∷ e ∷ []) h =
    either-none (number_of c)
    (λ width. option_and_then (λ height. option_and_then (λ byte. parts_at a b (item.Filled width height byte)) (byte_of e)) (number_of d))
    (number-or c)
    (λ k width. either-none (number_of d) (λ height. option_and_then (λ byte. parts_at a b (item.Filled width height byte)) (byte_of e))
    (number-or d)
    (λ l height. either-none (byte_of e) (λ byte. parts_at a b (item.Filled width height byte)) (byte-or e)
    (λ i byte. wrong-place a b (item.Filled width height byte) (λ m n. h (m, n, k, l, i)))))
wrong-figure f ds h = refl

-- ---- both

never-1 : (most : ℕ) (s : DrawingAt) (o : Option FigureParts) → Found o → draw_parts most o s ≡ Err 1 → ⊥
never-1 most s (Some p) h q = other_shape most (leaf_in (area_at s.ambient p) p.item) (area_at s.ambient p) s q
never-1 most s None h q = absurd (no-part h.value h.is)
  where
    no-part : (p : FigureParts) → None ≡ Some p → ⊥
    no-part p e = cc

pub refused-figure : (most : ℕ) (f : Figure) (ds : List Data) (s : DrawingAt) → (draw_figure most f ds s ≡ Err 1) ↔ (IsFigure f ds → ⊥)
refused-figure most f ds s = (λ p h. never-1 most s (figure_parts f ds) (found-figure f ds h) p, λ h. rw (wrong-figure f ds h) refl)
