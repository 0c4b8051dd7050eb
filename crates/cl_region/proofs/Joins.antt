-- Rectangles that share no place with others, and two that make one.
use Rattle.std.proofs.Common.{◌≡◌, ℤ, Bool, true, false, ◌&&◌, ◌||◌, IsTrue, ◌↔◌, Result, Ok, Err, List, [], ◌∷◌, ◌++◌, inl, inr, refl, sym, ◌∙◌, ap, arith}
use Rattle.std.specs.Prelude.{OnErr, OnOk}
use Rattle.std.proofs.lemmas.Int.{ints, clamps, by_lt_z}
use Rattle.cl_region.specs.declared.rects.Rect.{Rect}
use Rattle.cl_region.specs.Places.{IsEmpty, box, one_holds, holds}
use Rattle.cl_region.specs.Pieces.{ArePieces, ArePiecesOf, IsApart, IsPiece}
use Rattle.cl_region.specs.Cutting.{Continues, IsBelow, IsBeside}
use Rattle.cl_region.proofs.Corners.{HasCell, Within, and_left, and_right, both, box-left, box-right, corner_held, false_holds, has_cell}
use Rattle.cl_region.proofs.Corners.{holds_within, same_bool, within, wrong}
use Rattle.cl_region.proofs.Cuts.{held-append, or_elim, or_left, or_right, pieces-append}

or_swap : (p q : Bool) → p || (q || false) ≡ q || p
or_swap true true = refl
or_swap true false = refl
or_swap false true = refl
or_swap false false = refl

or_comm : (p q : Bool) → p || q ≡ q || p
or_comm true true = refl
or_comm true false = refl
or_comm false true = refl
or_comm false false = refl

or_turn : (p q r : Bool) → (p || q) || r ≡ q || (r || (p || false))
or_turn true true r = refl
or_turn true false true = refl
or_turn true false false = refl
or_turn false true r = refl
or_turn false false true = refl
or_turn false false false = refl

-- a rectangle that holds a place has both bounds in order
piece_cell : (r : Rect) → IsPiece r → HasCell r
piece_cell r p =
    let w = within r p.x p.y p.is_held in
    record { columns = omega (arith, ints, w.x1, w.x2); rows = omega (arith, ints, w.y1, w.y2) }

from_beside : (a b : Rect) (x y : ℤ) → IsBeside a b → HasCell a → HasCell b → Within (box a b) x y → holds a x y || holds b x y ≡ true
from_beside a b x y s h k w =
    by_lt_z {P = holds a x y || holds b x y ≡ true} x a.x2
    (λ west. or_left (holds a x y) (holds b x y)
    (holds_within a x y (record {
      x1 = omega (arith, ints, clamps, w.x1, s.side, h.columns);
      x2 = west;
      y1 = omega (arith, ints, clamps, w.y1, s.top);
      y2 = omega (arith, ints, clamps, w.y2, s.bottom);
    })))
    (λ east. or_right (holds a x y) (holds b x y)
    (holds_within b x y (record {
      x1 = omega (arith, ints, east, s.side);
      x2 = omega (arith, ints, clamps, w.x2, s.side, k.columns);
      y1 = omega (arith, ints, clamps, w.y1, s.top);
      y2 = omega (arith, ints, clamps, w.y2, s.bottom);
    })))

from_below : (a b : Rect) (x y : ℤ) → IsBelow a b → HasCell a → HasCell b → Within (box a b) x y → holds a x y || holds b x y ≡ true
from_below a b x y s h k w =
    by_lt_z {P = holds a x y || holds b x y ≡ true} y a.y2
    (λ up. or_left (holds a x y) (holds b x y)
    (holds_within a x y (record {
      x1 = omega (arith, ints, clamps, w.x1, s.left);
      x2 = omega (arith, ints, clamps, w.x2, s.right);
      y1 = omega (arith, ints, clamps, w.y1, s.side, h.rows);
      y2 = up;
    })))
    (λ down. or_right (holds a x y) (holds b x y)
    (holds_within b x y (record {
      x1 = omega (arith, ints, clamps, w.x1, s.left);
      x2 = omega (arith, ints, clamps, w.x2, s.right);
      y1 = omega (arith, ints, down, s.side);
      y2 = omega (arith, ints, clamps, w.y2, s.side, k.rows);
    })))

from_box : (a b : Rect) (x y : ℤ) → Continues a b → HasCell a → HasCell b → Within (box a b) x y → holds a x y || holds b x y ≡ true
from_box a b x y (inl s) h k w = from_beside a b x y s h k w
from_box a b x y (inr s) h k w = from_below a b x y s h k w

-- two that make one rectangle are the box of both
held-box : (a b : Rect) (x y : ℤ) → Continues a b → HasCell a → HasCell b → holds (box a b) x y ≡ holds a x y || holds b x y
held-box a b x y s h k =
    same_bool (holds (box a b) x y) (holds a x y || holds b x y)
    (λ e. from_box a b x y s h k (within (box a b) x y e))
    (or_elim (holds a x y) (holds b x y) ((box-left a b).holds_each x y) ((box-right a b).holds_each x y))

-- the last of the pieces, apart from those before it
pieces_last : (ps : List Rect) (a : Rect) → ArePieces (ps ++ a ∷ []) → ArePieces (a ∷ ps)
pieces_last [] a h = h
pieces_last (p ∷ ps) a h =
    let rest = pieces_last ps a h.2 in
    let places = λ (x y : ℤ). held-append ps (a ∷ []) x y in (
      rest.0,
      record {
        not_both = λ x y k l.
            or_elim (holds p x y) (one_holds ps x y)
            (λ e. h.1.not_both x y e (places x y ∙ or_right (one_holds ps x y) (holds a x y || false) (or_left (holds a x y) false k)))
            (rest.1.not_both x y k)
            l;
      },
      (h.0, record { not_both = λ x y k l. h.1.not_both x y k (places x y ∙ or_left (one_holds ps x y) (holds a x y || false) l) }, rest.2),
    )

joined_pieces : (ps : List Rect) (a w : Rect) → Continues a w → ArePieces (w ∷ (ps ++ a ∷ [])) → ArePieces (box a w ∷ ps)
joined_pieces ps a w s h =
    let rest = pieces_last ps a h.2 in
    let same = λ (x y : ℤ). held-box a w x y s (piece_cell a rest.0) (piece_cell w h.0) in (
      record { x = h.0.x; y = h.0.y; is_held = (box-right a w).holds_each h.0.x h.0.y h.0.is_held },
      record {
        not_both = λ x y k l.
            or_elim (holds a x y) (holds w x y)
            (λ e. rest.1.not_both x y e l)
            (λ e. h.1.not_both x y e (held-append ps (a ∷ []) x y ∙ or_left (one_holds ps x y) (holds a x y || false) l))
            (sym (same x y) ∙ k);
      },
      rest.2,
    )

-- the rectangle in front is joined with the last of the others, which it continues
pub joined : (rs ps : List Rect) (a w b : Rect) → b ≡ box a w → Continues a w → ArePiecesOf rs (w ∷ (ps ++ a ∷ [])) → ArePiecesOf rs (b ∷ ps)
joined rs ps a w b e s h =
    rw e (record {
      pieces = joined_pieces ps a w s h.pieces;
      places = λ x y.
          ap (λ b. b || one_holds ps x y) (held-box a w x y s (piece_cell a (pieces_last ps a h.pieces.2).0) (piece_cell w h.pieces.0))
          ∙ (or_turn (holds a x y) (holds w x y) (one_holds ps x y)
          ∙ (ap (λ b. holds w x y || b) (sym (held-append ps (a ∷ []) x y)) ∙ h.places x y));
    })

-- the rectangle in front is put behind the others
pub put_behind : (rs ps : List Rect) (w : Rect) → ArePiecesOf rs (w ∷ ps) → ArePiecesOf rs (ps ++ w ∷ [])
put_behind rs ps w h = record {
  pieces =
      pieces-append ps (w ∷ []) h.pieces.2 (h.pieces.0, record { not_both = λ x y k l. wrong l }, tt)
      (λ x y k l. h.pieces.1.not_both x y (or_elim (holds w x y) false (λ e. e) (λ e. absurd (wrong e)) l) k);
  places = λ x y. held-append ps (w ∷ []) x y ∙ (or_swap (one_holds ps x y) (holds w x y) ∙ h.places x y);
}

-- one that shares no place with a rectangle is apart from the list exactly where it is from the others
pub apart_more : (r p : Rect) (ps : List Rect) → ((x : ℤ) × ((y : ℤ) × (holds p x y && holds r x y ≡ true)) → ⊥) → IsApart r (p ∷ ps) ↔ IsApart r ps
apart_more r p ps f = (
  (λ h. record { not_both = λ x y k l. h.not_both x y k (or_right (holds p x y) (one_holds ps x y) l) }),
  (λ h. record {
    not_both = λ x y k. or_elim (holds p x y) (one_holds ps x y) (λ e. f (x, (y, both (holds p x y) (holds r x y) e k))) (h.not_both x y k);
  }),
)

pub not_apart : (r p : Rect) (ps : List Rect) → (x : ℤ) × ((y : ℤ) × (holds p x y && holds r x y ≡ true)) → IsApart r (p ∷ ps) → ⊥
not_apart r p ps (x, (y, e)) h =
    h.not_both x y (and_right (holds p x y) (holds r x y) e) (or_left (holds p x y) (one_holds ps x y) (and_left (holds p x y) (holds r x y) e))

-- a rectangle that is not empty holds a place
pub some_piece : (r : Rect) (b : Bool) → IsTrue b ↔ IsEmpty r → b ≡ false → IsPiece r
some_piece r b k e =
    let cell = has_cell r (λ h. false_holds b e (k.1 h)) in
    record { x = r.x1; y = r.y1; is_held = corner_held r cell }

-- what is put in is a sum, or nothing has changed
pub put_in_holds : {A E : Type 0} (result : Result A E) (r : Rect) (rs ps : List Rect) → OnOk result (ArePiecesOf (r ∷ rs) ps)
    → OnOk result ((x y : ℤ) → one_holds ps x y ≡ one_holds rs x y || holds r x y)
put_in_holds (Ok v) r rs ps h = λ x y. h.places x y ∙ or_comm (holds r x y) (one_holds rs x y)
put_in_holds (Err e) r rs ps h = h

pub put_in_pieces : {A E : Type 0} (result : Result A E) (r : Rect) (rs ps : List Rect) → OnOk result (ArePiecesOf (r ∷ rs) ps)
    → OnErr result (ps ≡ rs) → ArePieces rs → ArePieces ps
put_in_pieces (Ok v) r rs ps h k a = h.pieces
put_in_pieces (Err e) r rs ps h k a = rw k a
