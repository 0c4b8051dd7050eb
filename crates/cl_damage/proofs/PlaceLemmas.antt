-- The items at a place that no given rectangle holds.
use Rattle.std.proofs.Common.{◌≡◌, ℤ, Bool, true, false, List, [], ◌∷◌, ◌++◌, Option, Some, None, refl, ◌∙◌, ap, sym, append_assoc}
use Rattle.std.specs.Prelude.{◌||◌, cond, map, unwrap_or}
use Rattle.cl_region.specs.Places.{holds, one_holds}
use Rattle.cl_region.specs.declared.rects.Rect.{Rect}
use Rattle.cl_medium.specs.Items.{Painted}
use Rattle.cl_record.specs.Replays.{cell_after}
use Rattle.cl_damage.specs.Children.{Child, items_at, items_of}
use Rattle.cl_damage.specs.Touched.{all_give, gives}

left_false : (b c : Bool) → b || c ≡ false → b ≡ false
left_false true c e = e
left_false false c e = refl

right_false : (b c : Bool) → b || c ≡ false → c ≡ false
right_false true c e = absurd (cc)
right_false false c e = e

both_false : (b c : Bool) → b ≡ false → c ≡ false → b || c ≡ false
both_false true c e f = absurd (cc)
both_false false c e f = f

pub outside_left : (rs ss : List Rect) (x y : ℤ) → one_holds (rs ++ ss) x y ≡ false → one_holds rs x y ≡ false
outside_left [] ss x y e = refl
outside_left (r ∷ rs) ss x y e =
    both_false (holds r x y) (one_holds rs x y) (left_false (holds r x y) (one_holds (rs ++ ss) x y) e)
    (outside_left rs ss x y (right_false (holds r x y) (one_holds (rs ++ ss) x y) e))

pub outside_right : (rs ss : List Rect) (x y : ℤ) → one_holds (rs ++ ss) x y ≡ false → one_holds ss x y ≡ false
outside_right [] ss x y e = e
outside_right (r ∷ rs) ss x y e = outside_right rs ss x y (right_false (holds r x y) (one_holds (rs ++ ss) x y) e)

module _ {A : Type 0} (bounds : A → Rect) (x y : ℤ) where
  test_append : (b : Bool) (a : A) (items more others : List A) → items ≡ more ++ others → cond b (a ∷ items) items ≡ cond b (a ∷ more) more ++ others
  test_append true a items more others e = ap (λ (ks : List A). a ∷ ks) e
  test_append false a items more others e = e

  pub at-append : (items more : List A) → items_at bounds x y (items ++ more) ≡ items_at bounds x y items ++ items_at bounds x y more
  at-append [] more = refl
  at-append (a ∷ items) more = test_append (holds (bounds a) x y) a _ _ _ (at-append items more)

  test_none : (b : Bool) (a : A) (items : List A) → b ≡ false → items ≡ [] → cond b (a ∷ items) items ≡ []
  test_none true a items e f = absurd (cc)
  test_none false a items e f = f

  pub none-at : (items : List A) → one_holds (map bounds items) x y ≡ false → items_at bounds x y items ≡ []
  none-at [] e = refl
  none-at (a ∷ items) e =
      test_none (holds (bounds a) x y) a (items_at bounds x y items) (left_false (holds (bounds a) x y) (one_holds (map bounds items) x y) e)
      (none-at items (right_false (holds (bounds a) x y) (one_holds (map bounds items) x y) e))

  -- the items of a child at the place
  abbrev pub seen : Child A → List A
  seen k = items_at bounds x y (items_of k)

  -- of lists, one list
  abbrev pub joined : List (List A) → List A
  joined [] = []
  joined (l ∷ ls) = l ++ joined ls

  -- the items of children at the place
  abbrev pub all_seen : List (Child A) → List A
  all_seen ks = joined (map seen ks)

  pub joined-append : (ls ms : List (List A)) → joined (ls ++ ms) ≡ joined ls ++ joined ms
  joined-append [] ms = refl
  joined-append (l ∷ ls) ms = ap (λ (items : List A). l ++ items) (joined-append ls ms) ∙ sym (append_assoc l (joined ls) (joined ms))

  pub seen-none : (k : Child A) → one_holds (gives bounds k) x y ≡ false → seen k ≡ []
  seen-none k e = none-at (items_of k) e

  pub all_seen-none : (ks : List (Child A)) → one_holds (all_give bounds ks) x y ≡ false → all_seen ks ≡ []
  all_seen-none [] e = refl
  all_seen-none (k ∷ ks) e =
      ap (λ (items : List A). items ++ all_seen ks) (seen-none k (outside_left (gives bounds k) (all_give bounds ks) x y e))
      ∙ all_seen-none ks (outside_right (gives bounds k) (all_give bounds ks) x y e)

  -- ---- the cell

  test_cell : (cell : A → ℤ → ℤ → Option Painted) (b : Bool) (a : A) (items : List A) (under : Painted) (found : Option Painted) → cell a x y ≡ found
      → (b ≡ false → found ≡ None) → (left : List A)
      → ((below : Painted) → cell_after cell left x y below ≡ cell_after cell items x y below)
      → cell_after cell (cond b (a ∷ left) left) x y under ≡ cell_after cell (a ∷ items) x y under
  test_cell cell true a items under found e f left h = h (unwrap_or (cell a x y) under)
  test_cell cell false a items under found e f left h =
      h under ∙ ap (λ (o : Option Painted). cell_after cell items x y (unwrap_or o under)) (sym (e ∙ f refl))

  unheld : (cell : A → ℤ → ℤ → Option Painted) (a : A) → ((c : Painted) → cell a x y ≡ Some c → holds (bounds a) x y ≡ true)
      → (found : Option Painted) → cell a x y ≡ found → holds (bounds a) x y ≡ false → found ≡ None
  unheld cell a within None e f = refl
  unheld cell a within (Some c) e f =
      let held : holds (bounds a) x y ≡ true = within c e in
      absurd (cc)

  -- only the items that hold the place paint it
  pub cell-at : (cell : A → ℤ → ℤ → Option Painted) → ((a : A) (c : Painted) → cell a x y ≡ Some c → holds (bounds a) x y ≡ true)
      → (items : List A) (under : Painted) → cell_after cell (items_at bounds x y items) x y under ≡ cell_after cell items x y under
  cell-at cell within [] under = refl
  cell-at cell within (a ∷ items) under =
      test_cell cell (holds (bounds a) x y) a items under (cell a x y) refl (unheld cell a (within a) (cell a x y) refl)
      (items_at bounds x y items) (λ below. cell-at cell within items below)
