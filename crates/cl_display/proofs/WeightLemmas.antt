-- What a form draws under some weight it draws under every weight that the drawing at its end does not pass.
use Rattle.std.proofs.Common.{◌≡◌, ap, ℕ, ◌+◌, ◌≤◌, Bool, true, false, if◌then◌else◌, nat_le, [], ◌∷◌, length}
use Rattle.std.proofs.Common.{Option, Some, None, Result, Ok, Err, arith, refl}
use Rattle.std.proofs.lemmas.Bool.Decides.{nat_tests}
use Rattle.std.specs.Prelude.{pos, int_le, int_lt, ◌||◌}
use Rattle.cl_value.specs.Data.{Data, text}
use Rattle.cl_medium.specs.Ambients.{AmbientAt}
use Rattle.cl_medium.specs.Drawing.{text_leaf}
use Rattle.cl_medium.specs.Items.{bounds_of, item_bounds, Item}
use Rattle.cl_display.specs.Drawings.{DrawingAt, add_item, after_text, is_in_range, then_to, with_item}
use Rattle.cl_display.specs.Figures.{area_at, draw_parts, leaf_in, with_origin_used}
use Rattle.cl_display.specs.declared.figures.FigureParts.{FigureParts}
use Rattle.cl_display.proofs.SumLemmas.{AddsTo, adds-write_value}
use Rattle.std.proofs.Common.{subst}
use Rattle.cl_eval.specs.Statements.{Member}
use Rattle.cl_record.specs.Labels.{LabelAt}
use Rattle.cl_display.specs.Drawings.{PartAt, start}
use Rattle.cl_display.specs.Siblings.{Siblings, is_taken, note}
use Rattle.cl_display.specs.Updates.{KeyAt, enter_update, key_weight}
use Rattle.cl_display.specs.Presentations.{enter_presentation, label_weight, leave_after, present_text, write_inside, write_value}

-- ---- answers

-- an answer that gives a drawing gives it, too, where all may weigh so much as it does
abbrev pub Keeps : ℕ → Result DrawingAt ℕ → Result DrawingAt ℕ → Type 0
Keeps most r r' = (t : DrawingAt) → r ≡ Ok t → t.weight ≤ most → r' ≡ Ok t

-- the weight of an answer
abbrev weight_in : Result DrawingAt ℕ → ℕ
weight_in (Ok t) = t.weight
weight_in (Err k) = 0

no_drawing : (k : ℕ) (t : DrawingAt) → Err k ≡ Ok t → ⊥
no_drawing k t p = cc

-- an answer that does not weigh less than what was there
abbrev pub Rises : DrawingAt → Result DrawingAt ℕ → Type 0
Rises s (Ok t) = s.weight ≤ t.weight
Rises s (Err k) = Unit {0}

-- every value as a member of every type
abbrev pub any : Member
any d spec = true

-- what adds marks does not lose weight
pub rises-adds : (w : ℕ) (s : DrawingAt) (r : Result DrawingAt ℕ) → AddsTo w any s r → Rises s r
rises-adds w s (Ok t) a = omega (arith, a.weight)
rises-adds w s (Err k) a = tt

module _ (most : ℕ) where
  keeps-item : (b : Bool) (k weight : ℕ) (u s : DrawingAt) → u.weight ≡ s.weight + weight
      → Keeps most (if b then Ok u else Err k) (if nat_le (s.weight + weight) most then Ok u else Err k)
  keeps-item true k weight u s e t p h =
      let same : u.weight ≡ t.weight = ap weight_in p in
      let fits : nat_le (s.weight + weight) most ≡ true = grind (arith, nat_tests, e, h, same) in
      rw fits p
  keeps-item false k weight u s e t p h = absurd (no_drawing k t p)

  keeps-add_item : (w : ℕ) (leaf : Item) (weight : ℕ) (s : DrawingAt)
      → Keeps most (add_item w leaf weight s) (add_item most leaf weight s)
  keeps-add_item w leaf weight s =
      keeps-item (nat_le (s.weight + weight) w) 10 weight (record s { weight = s.weight + weight; part = with_item leaf s.part }) s refl

  keeps-then_to : (a : AmbientAt) (r r' : Result DrawingAt ℕ) → Keeps most r r' → Keeps most (then_to a r) (then_to a r')
  keeps-then_to a (Ok u) r' g t p h =
      let same : u.weight ≡ t.weight = ap weight_in p in
      let goes : r' ≡ Ok u = g u refl (omega (arith, h, same)) in
      rw goes p
  keeps-then_to a (Err k) r' g t p h = absurd (no_drawing k t p)

  keeps-origin : (r r' : Result DrawingAt ℕ) → Keeps most r r' → Keeps most (with_origin_used r) (with_origin_used r')
  keeps-origin (Ok u) r' g t p h =
      let same : u.weight ≡ t.weight = ap weight_in p in
      let goes : r' ≡ Ok u = g u refl (omega (arith, h, same)) in
      rw goes p
  keeps-origin (Err k) r' g t p h = absurd (no_drawing k t p)

  keeps-choice : (b : Bool) (q q' r r' : Result DrawingAt ℕ) → Keeps most q q' → Keeps most r r'
      → Keeps most (if b then q else r) (if b then q' else r')
  keeps-choice true q q' r r' g h = g
  keeps-choice false q q' r r' g h = h

  pub keeps-same : (r : Result DrawingAt ℕ) → Keeps most r r
  keeps-same r t p h = p

  pub keeps-write_value : (w : ℕ) (s : DrawingAt) (d : Data) → Keeps most (write_value w s d) (write_value most s d)
  keeps-write_value w s (text []) = keeps-same (Ok s)
  keeps-write_value w s (text (b ∷ bs)) =
      let leaf = text_leaf s.ambient (b ∷ bs) in
      let weight = length (b ∷ bs) + 1 in
      let after = after_text s.ambient (b ∷ bs) in
      keeps-choice (is_in_range (item_bounds leaf)) (then_to after (add_item w leaf weight s)) (then_to after (add_item most leaf weight s))
      (Err 9) (Err 9)
      (keeps-then_to after (add_item w leaf weight s) (add_item most leaf weight s) (keeps-add_item w leaf weight s)) (keeps-same (Err 9))
  keeps-write_value w s d = keeps-same (Err 1)

  pub keeps-draw_parts : (w : ℕ) (parts : Option FigureParts) (s : DrawingAt) → Keeps most (draw_parts w parts s) (draw_parts most parts s)
  keeps-draw_parts w None s = keeps-same (Err 1)
  keeps-draw_parts w (Some p) s =
      let area = area_at s.ambient p in
      let leaf = leaf_in area p.item in
      let first = with_origin_used (add_item w leaf 1 s) in
      let second = with_origin_used (add_item most leaf 1 s) in
      let drawn = keeps-origin (add_item w leaf 1 s) (add_item most leaf 1 s) (keeps-add_item w leaf 1 s) in
      let placed = keeps-choice (is_in_range (bounds_of area)) first second (Err 9) (Err 9) drawn (keeps-same (Err 9)) in
      keeps-choice (int_lt area.width (pos 0) || int_lt area.height (pos 0)) (Err 9) (Err 9) _ _ (keeps-same (Err 9))
      (keeps-choice (int_le area.width (pos 0) || int_le area.height (pos 0)) (Ok s) (Ok s) _ _ (keeps-same (Ok s)) placed)

  -- ---- presentations

  risen : (u t : DrawingAt) (r : Result DrawingAt ℕ) → r ≡ Ok t → Rises u r → u.weight ≤ t.weight
  risen u t r p h = subst (Rises u) p h

  keeps-inside : (w : ℕ) (x : Data) (r r' : Result DrawingAt ℕ) → Keeps most r r' → Keeps most (write_inside w x r) (write_inside most x r')
  keeps-inside w x (Ok u) r' g t p h =
      let heavier = risen u t (write_value w u x) p (rises-adds w u (write_value w u x) (adds-write_value w any u x)) in
      let goes : r' ≡ Ok u = g u refl (omega (arith, h, heavier)) in
      rw goes (keeps-write_value w u x t p h)
  keeps-inside w x (Err k) r' g t p h = absurd (no_drawing k t p)

  keeps-left : (label : LabelAt) (outer : PartAt) (r r' : Result DrawingAt ℕ) → Keeps most r r'
      → Keeps most (leave_after label outer r) (leave_after label outer r')
  keeps-left label outer (Ok u) r' g t p h =
      let same : u.weight ≡ t.weight = ap weight_in p in
      let goes : r' ≡ Ok u = g u refl (omega (arith, h, same)) in
      rw goes p
  keeps-left label outer (Err k) r' g t p h = absurd (no_drawing k t p)

  pub keeps-entered : (w : ℕ) (d : Data) (s : DrawingAt) → Keeps most (enter_presentation w d s) (enter_presentation most d s)
  keeps-entered w d s =
      keeps-item (nat_le (s.weight + label_weight d) w) 10 (label_weight d) (start (record s { weight = s.weight + label_weight d })) s refl

  pub keeps-enter_update : (w : ℕ) (key : KeyAt) (s : DrawingAt) → Keeps most (enter_update w key s) (enter_update most key s)
  keeps-enter_update w key s =
      keeps-choice (is_taken key.site key.id s.siblings) (Err 8) (Err 8) _ _ (keeps-same (Err 8))
      (keeps-item (nat_le (s.weight + key_weight key) w) 10 (key_weight key)
      (record s { weight = s.weight + key_weight key; siblings = note key.site key.id s.siblings }) s refl)

  pub keeps-present_text : (w : ℕ) (label : LabelAt) (s : DrawingAt) (x : Data) → Keeps most (present_text w label s x) (present_text most label s x)
  keeps-present_text w label s x =
      keeps-left label s.part (write_inside w x (enter_presentation w label.object s)) (write_inside most x (enter_presentation most label.object s))
      (keeps-inside w x (enter_presentation w label.object s) (enter_presentation most label.object s) (keeps-entered w label.object s))

entered-risen : (s : DrawingAt) (weight : ℕ) (b : Bool) → Rises s (if b then Ok (start (record s { weight = s.weight + weight })) else Err 10)
entered-risen s weight true = omega arith
entered-risen s weight false = tt

pub rises-entered : (w : ℕ) (d : Data) (s : DrawingAt) → Rises s (enter_presentation w d s)
rises-entered w d s = entered-risen s (label_weight d) (nat_le (s.weight + label_weight d) w)

updated-risen : (s : DrawingAt) (weight : ℕ) (siblings : Siblings) (taken fits : Bool)
    → Rises s (if taken then Err 8 else (if fits then Ok (record s { weight = s.weight + weight; siblings = siblings }) else Err 10))
updated-risen s weight siblings true fits = tt
updated-risen s weight siblings false true = omega arith
updated-risen s weight siblings false false = tt

pub rises-enter_update : (w : ℕ) (key : KeyAt) (s : DrawingAt) → Rises s (enter_update w key s)
rises-enter_update w key s =
    updated-risen s (key_weight key) (note key.site key.id s.siblings) (is_taken key.site key.id s.siblings) (nat_le (s.weight + key_weight key) w)
