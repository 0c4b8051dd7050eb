-- The least box of two rectangles and of a list, to which one without places adds nothing.
use Rattle.std.proofs.Common.{◌≡◌, ℤ, Bool, true, false, if◌then◌else◌, List, [], ◌∷◌, ◌++◌, refl, sym, ◌∙◌, ap, arith}
use Rattle.std.specs.Prelude.{All}
use Rattle.std.specs.Int.{int_min, int_max}
use Rattle.std.proofs.lemmas.Int.{ints, clamps}
use Rattle.std.proofs.lemmas.List.Elements.{All-cons, All-nil}
use Rattle.cl_region.specs.declared.rects.Rect.{Rect}
use Rattle.cl_region.specs.Places.{Covers, IsEmpty, box, is_thin}
use Rattle.cl_region.proofs.Corners.{HasCell, Inside, box-left, box-right, box-least, covers_empty, covers_same, false_holds, has_cell, inside, none_held, not_empty, rect_is, thin_test}
use Rattle.cl_index.proofs.Walked.{by_bool}
use Rattle.cl_index.specs.Looks.{box_from, box_in, joined_box, empty_rect}

thin_empty : (r : Rect) → is_thin r ≡ true → IsEmpty r
thin_empty r h = (thin_test r (is_thin r) refl).0 h

thick_cell : (r : Rect) → is_thin r ≡ false → HasCell r
thick_cell r h = has_cell r (λ e. false_holds (is_thin r) h ((thin_test r (is_thin r) refl).1 e))

cell_thick : (r : Rect) → HasCell r → is_thin r ≡ false
cell_thick r c = none_held (is_thin r) (λ h. not_empty r c (thin_empty r h))

not_thick : (r : Rect) → is_thin r ≡ false → IsEmpty r → ⊥
not_thick r h e = not_empty r (thick_cell r h) e

choice_first : (p : Bool) (x y : Rect) → p ≡ true → (if p then x else y) ≡ x
choice_first true x y h = refl
choice_first false x y h = absurd (false_holds false refl h)

choice_second : (p : Bool) (x y : Rect) → p ≡ false → (if p then x else y) ≡ y
choice_second true x y h = absurd (false_holds true h refl)
choice_second false x y h = refl

pub joined_other : (a b : Rect) → is_thin a ≡ true → joined_box a b ≡ b
joined_other a b h = choice_first (is_thin a) b (if is_thin b then a else box a b) h

pub joined_self : (a b : Rect) → is_thin a ≡ false → is_thin b ≡ true → joined_box a b ≡ a
joined_self a b h k = choice_second (is_thin a) b (if is_thin b then a else box a b) h ∙ choice_first (is_thin b) a (box a b) k

pub joined_both : (a b : Rect) → is_thin a ≡ false → is_thin b ≡ false → joined_box a b ≡ box a b
joined_both a b h k = choice_second (is_thin a) b (if is_thin b then a else box a b) h ∙ choice_second (is_thin b) a (box a b) k

box_cell : (a b : Rect) → HasCell a → HasCell b → HasCell (box a b)
box_cell a b c d = record { columns = omega (arith, ints, clamps, c.columns, d.columns); rows = omega (arith, ints, clamps, c.rows, d.rows) }

box_thick : (a b : Rect) → is_thin a ≡ false → is_thin b ≡ false → is_thin (box a b) ≡ false
box_thick a b h k = cell_thick (box a b) (box_cell a b (thick_cell a h) (thick_cell b k))

same_rects : (r s : Rect) → Inside r s → Inside s r → r ≡ s
same_rects r s f g =
    rect_is s r.x1 r.y1 r.x2 r.y2 (omega (arith, ints, f.x1, g.x1)) (omega (arith, ints, f.y1, g.y1)) (omega (arith, ints, f.x2, g.x2)) (omega (arith, ints, f.y2, g.y2))

both_is : (a b r : Rect) → HasCell a → HasCell b → Covers r a → Covers r b → ((s : Rect) → Covers s a → Covers s b → Covers s r) → r ≡ box a b
both_is a b r c d f g least =
    let i = inside r a c f in
    let cell : HasCell r = record { columns = omega (arith, ints, i.x1, i.x2, c.columns); rows = omega (arith, ints, i.y1, i.y2, c.rows) } in
    same_rects r (box a b)
    (inside r (box a b) (box_cell a b c d) (box-least a b r c d f g))
    (inside (box a b) r cell (least (box a b) (box-left a b) (box-right a b)))

-- what `join_box` promises is this box
pub joined_is : (a b r : Rect) → (IsEmpty a → r ≡ b) → ((IsEmpty a → ⊥) → IsEmpty b → r ≡ a) → Covers r a → Covers r b
    → ((s : Rect) → Covers s a → Covers s b → Covers s r) → r ≡ joined_box a b
joined_is a b r first second f g least =
    by_bool (is_thin a)
    (λ h. first (thin_empty a h) ∙ sym (joined_other a b h))
    (λ h. by_bool (is_thin b)
    (λ k. second (not_thick a h) (thin_empty b k) ∙ sym (joined_self a b h k))
    (λ k. both_is a b r (thick_cell a h) (thick_cell b k) f g least ∙ sym (joined_both a b h k)))

min-assoc : (a b c : ℤ) → int_min a (int_min b c) ≡ int_min (int_min a b) c
min-assoc a b c = omega (arith, ints, clamps)

max-assoc : (a b c : ℤ) → int_max a (int_max b c) ≡ int_max (int_max a b) c
max-assoc a b c = omega (arith, ints, clamps)

box-assoc : (a b c : Rect) → box a (box b c) ≡ box (box a b) c
box-assoc a b c = rw (min-assoc a.x1 b.x1 c.x1, min-assoc a.y1 b.y1 c.y1, max-assoc a.x2 b.x2 c.x2, max-assoc a.y2 b.y2 c.y2) refl

pub joined-assoc : (a b c : Rect) → joined_box (joined_box a b) c ≡ joined_box a (joined_box b c)
joined-assoc a b c =
    by_bool (is_thin a)
    (λ h. ap (λ r. joined_box r c) (joined_other a b h) ∙ sym (joined_other a (joined_box b c) h))
    (λ h. by_bool (is_thin b)
    (λ k. ap (λ r. joined_box r c) (joined_self a b h k) ∙ sym (ap (λ r. joined_box a r) (joined_other b c k)))
    (λ k. by_bool (is_thin c)
    (λ l. ap (λ r. joined_box r c) (joined_both a b h k)
    ∙ (joined_self (box a b) c (box_thick a b h k) l
    ∙ sym (ap (λ r. joined_box a r) (joined_self b c k l) ∙ joined_both a b h k)))
    (λ l. ap (λ r. joined_box r c) (joined_both a b h k)
    ∙ (joined_both (box a b) c (box_thick a b h k) l
    ∙ sym (ap (λ r. joined_box a r) (joined_both b c k l) ∙ (joined_both a (box b c) h (box_thick b c k l) ∙ box-assoc a b c))))))

from_joined : (a b : Rect) (rs : List Rect) → box_from (joined_box a b) rs ≡ joined_box a (box_from b rs)
from_joined a b [] = refl
from_joined a b (r ∷ rs) = ap (λ s. box_from s rs) (joined-assoc a b r) ∙ from_joined a (joined_box b r) rs

pub from-append : (a : Rect) (xs ys : List Rect) → box_from a (xs ++ ys) ≡ box_from (box_from a xs) ys
from-append a [] ys = refl
from-append a (x ∷ xs) ys = from-append (joined_box a x) xs ys

-- the box of two lists, of which the second has rectangles
pub box-append : (xs : List Rect) (y : Rect) (ys : List Rect) → box_in (xs ++ y ∷ ys) ≡ joined_box (box_in xs) (box_in (y ∷ ys))
box-append xs y ys =
    from-append empty_rect xs (y ∷ ys)
    ∙ (from_joined (box_in xs) y ys ∙ ap (λ r. joined_box (box_in xs) (box_from r ys)) (sym (joined_other empty_rect y refl)))

joined_left : (a b : Rect) → Covers (joined_box a b) a
joined_left a b =
    by_bool (is_thin a)
    (λ h. covers_empty (joined_box a b) a (thin_empty a h))
    (λ h. by_bool (is_thin b)
    (λ k. rw (joined_self a b h k) (covers_same a))
    (λ k. rw (joined_both a b h k) (box-left a b)))

joined_right : (a b : Rect) → Covers (joined_box a b) b
joined_right a b =
    by_bool (is_thin a)
    (λ h. rw (joined_other a b h) (covers_same b))
    (λ h. by_bool (is_thin b)
    (λ k. covers_empty (joined_box a b) b (thin_empty b k))
    (λ k. rw (joined_both a b h k) (box-right a b)))

pub covers_further : (a b c : Rect) → Covers a b → Covers b c → Covers a c
covers_further a b c f g = record { holds_each = λ x y h. f.holds_each x y (g.holds_each x y h) }

from_covers_first : (a : Rect) (rs : List Rect) → Covers (box_from a rs) a
from_covers_first a [] = covers_same a
from_covers_first a (r ∷ rs) = covers_further _ (joined_box a r) a (from_covers_first (joined_box a r) rs) (joined_left a r)

pub from_covers : (a : Rect) (rs : List Rect) → All (Covers (box_from a rs)) rs
from_covers a [] = All-nil (Covers a)
from_covers a (r ∷ rs) =
    All-cons (Covers (box_from (joined_box a r) rs)) r rs
    (covers_further _ (joined_box a r) r (from_covers_first (joined_box a r) rs) (joined_right a r))
    (from_covers (joined_box a r) rs)
