-- Why no leaf outside of a region is missed in it.
use Rattle.std.proofs.Common.{◌≡◌, ℤ, Bool, true, false, List, [], ◌∷◌, Option, Some, None, refl, ◌∙◌, ap, sym}
use Rattle.std.specs.Prelude.{if◌then◌else◌, unwrap_or, not}
use Rattle.cl_medium.specs.Items.{Painted}
use Rattle.cl_region.specs.Places.{intersection, one_holds, holds, is_thin}
use Rattle.cl_region.specs.declared.rects.Rect.{Rect}
use Rattle.cl_region.proofs.Corners.{both, common-holds, false_holds, thin_test, wrong}
use Rattle.cl_region.proofs.Cuts.{is_not, or_elim, or_left, or_right}
use Rattle.cl_record.specs.Replays.{meets_one, cell_after, items_touching}

thin_none : (r : Rect) (x y : ℤ) → holds r x y ≡ true → is_thin r ≡ true → ⊥
thin_none r x y h t = false_holds (holds r x y) (((thin_test r (is_thin r) refl).0 t).holds_none x y) h

-- rectangles that hold a place of another one meet it
meets_held : (rects : List Rect) (r : Rect) (x y : ℤ) → one_holds rects x y ≡ true → holds r x y ≡ true → meets_one rects r ≡ true
meets_held [] r x y h k = absurd (wrong h)
meets_held (p ∷ ps) r x y h k =
    or_elim (holds p x y) (one_holds ps x y)
    (λ e. or_left (not (is_thin (intersection p r))) (meets_one ps r)
    (is_not (is_thin (intersection p r)) (thin_none (intersection p r) x y (common-holds p r x y ∙ both (holds p x y) (holds r x y) e k))))
    (λ e. or_right (not (is_thin (intersection p r))) (meets_one ps r) (meets_held ps r x y e k))
    h

module _ {A : Type 0} (bounds : A → Rect) (cell : A → ℤ → ℤ → Option Painted) (within : (a : A) (x y : ℤ) (c : Painted) → cell a x y ≡ Some c → holds (bounds a) x y ≡ true) where
  -- an item that is left out paints nothing there
  skipped : (b : Bool) (o : Option Painted) (under : Painted) → ((c : Painted) → o ≡ Some c → b ≡ true) → b ≡ false → unwrap_or o under ≡ under
  skipped b None under f h = refl
  skipped b (Some c) under f h = absurd (false_holds b h (f c refl))

  step : (b : Bool) (a : A) (rest : List A) (x y : ℤ) (under : Painted) → (b ≡ false → unwrap_or (cell a x y) under ≡ under)
      → cell_after cell (if b then a ∷ rest else rest) x y under ≡ cell_after cell rest x y (unwrap_or (cell a x y) under)
  step true a rest x y under f = refl
  step false a rest x y under f = ap (λ (p : Painted). cell_after cell rest x y p) (sym (f refl))

  pub painted-touching : (rects : List Rect) (items : List A) (x y : ℤ) (under : Painted) → one_holds rects x y ≡ true
      → cell_after cell (items_touching bounds rects items) x y under ≡ cell_after cell items x y under
  painted-touching rects [] x y under h = refl
  painted-touching rects (a ∷ items) x y under h =
      step (meets_one rects (bounds a)) a (items_touching bounds rects items) x y under
      (skipped (meets_one rects (bounds a)) (cell a x y) under (λ c e. meets_held rects (bounds a) x y h (within a x y c e)))
      ∙ painted-touching rects items x y (unwrap_or (cell a x y) under) h

-- a place that is shown
pub shown_cell : (b : Bool) (o p q : Painted) → b ≡ true → o ≡ (if b then p else q) → o ≡ p
shown_cell true o p q h e = e
shown_cell false o p q h e = absurd (wrong h)
