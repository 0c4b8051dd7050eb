-- What is painted by items behind others.
use Rattle.std.proofs.Common.{◌≡◌, ℤ, Bool, true, false, List, [], ◌∷◌, ◌++◌, Option, refl, ◌∙◌, ap, sym}
use Rattle.std.specs.Prelude.{if◌then◌else◌, unwrap_or}
use Rattle.cl_medium.specs.Items.{Painted}
use Rattle.cl_region.specs.declared.rects.Rect.{Rect}
use Rattle.cl_record.specs.Marks.{Mark, open_update, close, draw, open_presentation}
use Rattle.cl_record.specs.Replays.{Paints, items_drawn, meets_one, cell_after, items_touching}

module _ {A : Type 0} where
  pub drawn-append : (ms ns : List (Mark A)) → items_drawn (ms ++ ns) ≡ items_drawn ms ++ items_drawn ns
  drawn-append [] ns = refl
  drawn-append (draw a ∷ ms) ns = ap (λ (items : List A). a ∷ items) (drawn-append ms ns)
  drawn-append (open_presentation l ∷ ms) ns = drawn-append ms ns
  drawn-append (open_update h ∷ ms) ns = drawn-append ms ns
  drawn-append (close ∷ ms) ns = drawn-append ms ns

  touching_test : (b : Bool) (a : A) (xs ys zs : List A) → xs ≡ ys ++ zs
      → ◌≡◌ {A = List A} (if b then a ∷ xs else xs) ((if b then a ∷ ys else ys) ++ zs)
  touching_test true a xs ys zs e = ap (λ (items : List A). a ∷ items) e
  touching_test false a xs ys zs e = e

  pub touching-append : (bounds : A → Rect) (rects : List Rect) (xs ys : List A)
      → items_touching bounds rects (xs ++ ys) ≡ items_touching bounds rects xs ++ items_touching bounds rects ys
  touching-append bounds rects [] ys = refl
  touching-append bounds rects (a ∷ xs) ys =
      touching_test (meets_one rects (bounds a)) a _ _ _ (touching-append bounds rects xs ys)

  painted-append : (cell : A → ℤ → ℤ → Option Painted) (xs ys : List A) (x y : ℤ) (under : Painted)
      → cell_after cell (xs ++ ys) x y under ≡ cell_after cell ys x y (cell_after cell xs x y under)
  painted-append cell [] ys x y under = refl
  painted-append cell (a ∷ xs) ys x y under = painted-append cell xs ys x y (unwrap_or (cell a x y) under)

same_either : (b : Bool) (p : Painted) → p ≡ (if b then p else p)
same_either true p = refl
same_either false p = refl

module _ {A K : Type 0} (shows : K → ℤ → ℤ → Bool) (at : K → ℤ → ℤ → Painted) (keeps : K → K → Type 0) (cell : A → ℤ → ℤ → Option Painted) where
  pub paints_none : (k : K) → keeps k k → Paints shows at keeps cell k k []
  paints_none k h = record { kept = h; same_places = λ x y. refl; cells = λ x y. same_either (shows k x y) (at k x y) }

  -- painted twice where it is shown
  both : (b c : Bool) (xs ys : List A) (x y : ℤ) (p q r : Painted) → c ≡ b → q ≡ (if b then cell_after cell xs x y p else p)
      → r ≡ (if c then cell_after cell ys x y q else q) → r ≡ (if b then cell_after cell (xs ++ ys) x y p else p)
  both true c xs ys x y p q r e f g =
      g ∙ (ap (λ (d : Bool). if d then cell_after cell ys x y q else q) e ∙ (ap (λ (o : Painted). cell_after cell ys x y o) f ∙ sym (painted-append cell xs ys x y p)))
  both false c xs ys x y p q r e f g = g ∙ (ap (λ (d : Bool). if d then cell_after cell ys x y q else q) e ∙ f)

  pub paints_both : ((first second third : K) → keeps first second → keeps second third → keeps first third)
      → (j k l : K) (xs ys : List A) → Paints shows at keeps cell j k xs → Paints shows at keeps cell k l ys → Paints shows at keeps cell j l (xs ++ ys)
  paints_both through j k l xs ys p q = record {
    kept = through j k l p.kept q.kept;
    same_places = λ x y. q.same_places x y ∙ p.same_places x y;
    cells = λ x y. both (shows j x y) (shows k x y) xs ys x y (at j x y) (at k x y) (at l x y) (p.same_places x y) (p.cells x y) (q.cells x y);
  }
