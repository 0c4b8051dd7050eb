-- What is left of rectangles outside of another one: its places, and that the pieces share none.
use Rattle.std.proofs.Common.{◌≡◌, ◌*◌, ◌≤◌, ℤ, ◌≤ℤ◌, Bool, true, false, not, ◌&&◌, ◌||◌, if◌then◌else◌, List, [], ◌∷◌, ◌++◌, length, refl, sym, ◌∙◌}
use Rattle.std.proofs.Common.{ap, arith, length-append}
use Rattle.std.proofs.lemmas.Int.{ints, clamps, by_lt_z}
use Rattle.cl_region.specs.declared.rects.Rect.{Rect}
use Rattle.cl_region.specs.Places.{intersection, one_holds, holds, is_thin}
use Rattle.cl_region.specs.Pieces.{ArePieces}
use Rattle.cl_region.specs.Cutting.{unless_thin, parts_around, cut_rect, cut_all}
use Rattle.cl_region.proofs.Corners.{HasCell, Within, and_left, and_right, both, common-holds, corner_held, false_holds, has_cell, holds_within}
use Rattle.cl_region.proofs.Corners.{same_bool, thin_test, within, wrong}

by_test : (P : List Rect → Type 0) (b : Bool) (x y : List Rect) → (b ≡ true → P x) → (b ≡ false → P y) → P (if b then x else y)
by_test P b x y =
    elim b as (λ v. (v ≡ true → P x) → (v ≡ false → P y) → P (if v then x else y)) [ true ↦ λ f g. f refl | false ↦ λ f g. g refl ]

pub or_elim : {P : Type 0} (p q : Bool) → (p ≡ true → P) → (q ≡ true → P) → p || q ≡ true → P
or_elim true q f g h = f refl
or_elim false q f g h = g h

pub or_left : (p q : Bool) → p ≡ true → p || q ≡ true
or_left p q h = rw h refl

pub or_right : (p q : Bool) → q ≡ true → p || q ≡ true
or_right true q h = refl
or_right false q h = h

or_assoc : (p q r : Bool) → (p || q) || r ≡ p || (q || r)
or_assoc true q r = refl
or_assoc false q r = refl

or_false : (p : Bool) → p || false ≡ p
or_false true = refl
or_false false = refl

outside_both : (p q n : Bool) → (p && n) || (q && n) ≡ (p || q) && n
outside_both true true true = refl
outside_both true true false = refl
outside_both true false true = refl
outside_both true false false = refl
outside_both false q n = refl

outside_two : (p m n : Bool) → (p && not m) && not n ≡ p && not (m || n)
outside_two true true n = refl
outside_two true false n = refl
outside_two false m n = refl

outside_other : (p m n : Bool) → (p ≡ true → m ≡ true → ⊥) → p && not n ≡ p && not (m || n)
outside_other true true n f = absurd (f refl refl)
outside_other true false n f = refl
outside_other false m n f = refl

outside_common : (p q : Bool) → p && not (p && q) ≡ p && not q
outside_common true q = refl
outside_common false q = refl

outside_none : (p q : Bool) → p && q ≡ false → p ≡ p && not q
outside_none true q h = rw h refl
outside_none false q h = refl

or_new : (p q : Bool) → p || (q && not p) ≡ p || q
or_new true q = refl
or_new false true = refl
or_new false false = refl

not_held : (b : Bool) → not b ≡ true → b ≡ true → ⊥
not_held true h k = wrong h
not_held false h k = wrong k

pub is_not : (b : Bool) → (b ≡ true → ⊥) → not b ≡ true
is_not true h = absurd (h refl)
is_not false h = refl

pub held-append : (ps qs : List Rect) (x y : ℤ) → one_holds (ps ++ qs) x y ≡ one_holds ps x y || one_holds qs x y
held-append [] qs x y = refl
held-append (p ∷ ps) qs x y =
    ap (λ b. holds p x y || b) (held-append ps qs x y) ∙ sym (or_assoc (holds p x y) (one_holds ps x y) (one_holds qs x y))

thin_none : (r : Rect) (x y : ℤ) → is_thin r ≡ true → holds r x y ≡ false
thin_none r x y h = ((thin_test r (is_thin r) refl).0 h).holds_none x y

thick_cell : (r : Rect) → is_thin r ≡ false → HasCell r
thick_cell r h = has_cell r (λ e. false_holds (is_thin r) h ((thin_test r (is_thin r) refl).1 e))

pub held-kept : (r : Rect) (x y : ℤ) → one_holds (unless_thin r) x y ≡ holds r x y
held-kept r x y =
    by_test (λ rs. one_holds rs x y ≡ holds r x y) (is_thin r) [] (r ∷ [])
    (λ h. sym (thin_none r x y h))
    (λ h. or_false (holds r x y))

-- the part lies inside
record IsPart (r part : Rect) : Type 0 where
  x1 : r.x1 ≤ℤ part.x1
  y1 : r.y1 ≤ℤ part.y1
  x2 : part.x2 ≤ℤ r.x2
  y2 : part.y2 ≤ℤ r.y2
  cell : HasCell part

abbrev above : Rect → Rect → Rect
above r part = record r { y2 = part.y1 }

abbrev left_of : Rect → Rect → Rect
left_of r part = record r { y1 = part.y1; y2 = part.y2; x2 = part.x1 }

abbrev right_of : Rect → Rect → Rect
right_of r part = record r { y1 = part.y1; y2 = part.y2; x1 = part.x2 }

abbrev below : Rect → Rect → Rect
below r part = record r { y1 = part.y2 }

held_around : (r part : Rect) (x y : ℤ)
    → one_holds (parts_around r part) x y ≡ ((holds (above r part) x y || holds (left_of r part) x y) || holds (right_of r part) x y) || holds (below r part) x y
held_around r part x y =
    held-append ((unless_thin (above r part) ++ unless_thin (left_of r part)) ++ unless_thin (right_of r part)) (unless_thin (below r part)) x y
    ∙ (ap (λ b. b || one_holds (unless_thin (below r part)) x y) (held-append (unless_thin (above r part) ++ unless_thin (left_of r part)) (unless_thin (right_of r part)) x y)
    ∙ (ap (λ b. (b || one_holds (unless_thin (right_of r part)) x y) || one_holds (unless_thin (below r part)) x y) (held-append (unless_thin (above r part)) (unless_thin (left_of r part)) x y)
    ∙ rw (held-kept (above r part) x y, held-kept (left_of r part) x y, held-kept (right_of r part) x y, held-kept (below r part) x y) refl))

is_outside : (r part : Rect) (x y : ℤ) → IsPart r part → Within r x y → (Within part x y → ⊥) → holds r x y && not (holds part x y) ≡ true
is_outside r part x y p w f =
    both (holds r x y) (not (holds part x y)) (holds_within r x y w) (is_not (holds part x y) (λ h. f (within part x y h)))

around_outside : (r part : Rect) (x y : ℤ) → IsPart r part
    → ((holds (above r part) x y || holds (left_of r part) x y) || holds (right_of r part) x y) || holds (below r part) x y ≡ true
    → holds r x y && not (holds part x y) ≡ true
around_outside r part x y p =
    or_elim ((holds (above r part) x y || holds (left_of r part) x y) || holds (right_of r part) x y) (holds (below r part) x y)
    (or_elim (holds (above r part) x y || holds (left_of r part) x y) (holds (right_of r part) x y)
    (or_elim (holds (above r part) x y) (holds (left_of r part) x y)
    (λ h. let w = within (above r part) x y h in
    is_outside r part x y p
    (record { x1 = w.x1; x2 = w.x2; y1 = w.y1; y2 = omega (arith, ints, w.y2, p.cell.rows, p.y2) })
    (λ v. omega (arith, ints, v.y1, w.y2)))
    (λ h. let w = within (left_of r part) x y h in
    is_outside r part x y p
    (record { x1 = w.x1; x2 = omega (arith, ints, w.x2, p.cell.columns, p.x2); y1 = omega (arith, ints, w.y1, p.y1); y2 = omega (arith, ints, w.y2, p.y2) })
    (λ v. omega (arith, ints, v.x1, w.x2))))
    (λ h. let w = within (right_of r part) x y h in
    is_outside r part x y p
    (record { x1 = omega (arith, ints, w.x1, p.cell.columns, p.x1); x2 = w.x2; y1 = omega (arith, ints, w.y1, p.y1); y2 = omega (arith, ints, w.y2, p.y2) })
    (λ v. omega (arith, ints, v.x2, w.x1))))
    (λ h. let w = within (below r part) x y h in
    is_outside r part x y p
    (record { x1 = w.x1; x2 = w.x2; y1 = omega (arith, ints, w.y1, p.cell.rows, p.y1); y2 = w.y2 })
    (λ v. omega (arith, ints, v.y2, w.y1)))

outside_around : (r part : Rect) (x y : ℤ) → Within r x y → (Within part x y → ⊥)
    → ((holds (above r part) x y || holds (left_of r part) x y) || holds (right_of r part) x y) || holds (below r part) x y ≡ true
outside_around r part x y w f =
    let a = holds (above r part) x y in
    let b = holds (left_of r part) x y in
    let d = holds (right_of r part) x y in
    let e = holds (below r part) x y in
    by_lt_z {P = ((a || b) || d) || e ≡ true} y part.y1
    (λ up. or_left ((a || b) || d) e (or_left (a || b) d (or_left a b (holds_within (above r part) x y (record { x1 = w.x1; x2 = w.x2; y1 = w.y1; y2 = up })))))
    (λ down. by_lt_z {P = ((a || b) || d) || e ≡ true} y part.y2
    (λ beside. by_lt_z {P = ((a || b) || d) || e ≡ true} x part.x1
    (λ west. or_left ((a || b) || d) e (or_left (a || b) d (or_right a b (holds_within (left_of r part) x y (record { x1 = w.x1; x2 = west; y1 = down; y2 = beside })))))
    (λ east. by_lt_z {P = ((a || b) || d) || e ≡ true} x part.x2
    (λ middle. absurd (f (record { x1 = east; x2 = middle; y1 = down; y2 = beside })))
    (λ far. or_left ((a || b) || d) e (or_right (a || b) d (holds_within (right_of r part) x y (record { x1 = far; x2 = w.x2; y1 = down; y2 = beside }))))))
    (λ low. or_right ((a || b) || d) e (holds_within (below r part) x y (record { x1 = w.x1; x2 = w.x2; y1 = low; y2 = w.y2 }))))

held-around : (r part : Rect) (x y : ℤ) → IsPart r part → one_holds (parts_around r part) x y ≡ holds r x y && not (holds part x y)
held-around r part x y p =
    held_around r part x y
    ∙ same_bool (((holds (above r part) x y || holds (left_of r part) x y) || holds (right_of r part) x y) || holds (below r part) x y)
    (holds r x y && not (holds part x y))
    (around_outside r part x y p)
    (λ h. outside_around r part x y
    (within r x y (and_left (holds r x y) (not (holds part x y)) h))
    (λ w. not_held (holds part x y) (and_right (holds r x y) (not (holds part x y)) h) (holds_within part x y w)))

common_part : (r hole : Rect) → is_thin (intersection r hole) ≡ false → IsPart r (intersection r hole)
common_part r hole h = record {
  x1 = omega (arith, ints, clamps);
  y1 = omega (arith, ints, clamps);
  x2 = omega (arith, ints, clamps);
  y2 = omega (arith, ints, clamps);
  cell = thick_cell (intersection r hole) h;
}

pub held-cut : (hole r : Rect) (x y : ℤ) → one_holds (cut_rect hole r) x y ≡ holds r x y && not (holds hole x y)
held-cut hole r x y =
    by_test (λ rs. one_holds rs x y ≡ holds r x y && not (holds hole x y)) (is_thin (intersection r hole)) (unless_thin r) (parts_around r (intersection r hole))
    (λ h. held-kept r x y ∙ outside_none (holds r x y) (holds hole x y) (sym (common-holds r hole x y) ∙ thin_none (intersection r hole) x y h))
    (λ h. held-around r (intersection r hole) x y (common_part r hole h)
    ∙ (ap (λ b. holds r x y && not b) (common-holds r hole x y) ∙ outside_common (holds r x y) (holds hole x y)))

pub held-cut_all : (hole : Rect) (rs : List Rect) (x y : ℤ) → one_holds (cut_all hole rs) x y ≡ one_holds rs x y && not (holds hole x y)
held-cut_all hole [] x y = refl
held-cut_all hole (r ∷ rs) x y =
    held-append (cut_rect hole r) (cut_all hole rs) x y
    ∙ (rw (held-cut hole r x y, held-cut_all hole rs x y) (outside_both (holds r x y) (one_holds rs x y) (not (holds hole x y))))

pub pieces-append : (ps qs : List Rect) → ArePieces ps → ArePieces qs → ((x y : ℤ) → one_holds ps x y ≡ true → one_holds qs x y ≡ true → ⊥) → ArePieces (ps ++ qs)
pieces-append [] qs a b f = b
pieces-append (p ∷ ps) qs a b f = (
  a.0,
  record {
    not_both = λ x y h k.
        or_elim (one_holds ps x y) (one_holds qs x y) (a.1.not_both x y h) (f x y (or_left (holds p x y) (one_holds ps x y) h)) (sym (held-append ps qs x y) ∙ k);
  },
  pieces-append ps qs a.2 b (λ x y h. f x y (or_right (holds p x y) (one_holds ps x y) h)),
)

pub pieces-kept : (r : Rect) → ArePieces (unless_thin r)
pieces-kept r =
    by_test ArePieces (is_thin r) [] (r ∷ []) (λ h. tt)
    (λ h. (record { x = r.x1; y = r.y1; is_held = corner_held r (thick_cell r h) }, record { not_both = λ x y h k. wrong k }, tt))

in_kept : (r : Rect) (x y : ℤ) → one_holds (unless_thin r) x y ≡ true → Within r x y
in_kept r x y h = within r x y (sym (held-kept r x y) ∙ h)

pieces-around : (r part : Rect) → IsPart r part → ArePieces (parts_around r part)
pieces-around r part p =
    let a = unless_thin (above r part) in
    let b = unless_thin (left_of r part) in
    let d = unless_thin (right_of r part) in
    let e = unless_thin (below r part) in
    pieces-append ((a ++ b) ++ d) e
    (pieces-append (a ++ b) d
    (pieces-append a b (pieces-kept (above r part)) (pieces-kept (left_of r part))
    (λ x y h k. let v = in_kept (above r part) x y h in let w = in_kept (left_of r part) x y k in omega (arith, ints, v.y2, w.y1)))
    (pieces-kept (right_of r part))
    (λ x y h k. let w = in_kept (right_of r part) x y k in
    or_elim (one_holds a x y) (one_holds b x y)
    (λ h. let v = in_kept (above r part) x y h in omega (arith, ints, v.y2, w.y1))
    (λ h. let v = in_kept (left_of r part) x y h in omega (arith, ints, v.x2, w.x1, p.cell.columns))
    (sym (held-append a b x y) ∙ h)))
    (pieces-kept (below r part))
    (λ x y h k. let w = in_kept (below r part) x y k in
    or_elim (one_holds (a ++ b) x y) (one_holds d x y)
    (λ h. or_elim (one_holds a x y) (one_holds b x y)
    (λ h. let v = in_kept (above r part) x y h in omega (arith, ints, v.y2, w.y1, p.cell.rows))
    (λ h. let v = in_kept (left_of r part) x y h in omega (arith, ints, v.y2, w.y1))
    (sym (held-append a b x y) ∙ h))
    (λ h. let v = in_kept (right_of r part) x y h in omega (arith, ints, v.y2, w.y1))
    (sym (held-append (a ++ b) d x y) ∙ h))

pub pieces-cut : (hole r : Rect) → ArePieces (cut_rect hole r)
pieces-cut hole r =
    by_test ArePieces (is_thin (intersection r hole)) (unless_thin r) (parts_around r (intersection r hole))
    (λ h. pieces-kept r)
    (λ h. pieces-around r (intersection r hole) (common_part r hole h))

pub pieces-cut_all : (hole : Rect) (rs : List Rect) → ArePieces rs → ArePieces (cut_all hole rs)
pieces-cut_all hole [] a = tt
pieces-cut_all hole (r ∷ rs) a =
    pieces-append (cut_rect hole r) (cut_all hole rs) (pieces-cut hole r) (pieces-cut_all hole rs a.2)
    (λ x y h k. a.1.not_both x y
    (and_left (holds r x y) (not (holds hole x y)) (sym (held-cut hole r x y) ∙ h))
    (and_left (one_holds rs x y) (not (holds hole x y)) (sym (held-cut_all hole rs x y) ∙ k)))

few_kept : (r : Rect) → length (unless_thin r) ≤ 1
few_kept r = by_test (λ rs. length rs ≤ 1) (is_thin r) [] (r ∷ []) (λ h. omega arith) (λ h. omega arith)

few_around : (r part : Rect) → length (parts_around r part) ≤ 4
few_around r part =
    rw (length-append, length-append, length-append)
    (omega (arith, few_kept (above r part), few_kept (left_of r part), few_kept (right_of r part), few_kept (below r part)))

few_cut : (hole r : Rect) → length (cut_rect hole r) ≤ 4
few_cut hole r =
    by_test (λ rs. length rs ≤ 4) (is_thin (intersection r hole)) (unless_thin r) (parts_around r (intersection r hole))
    (λ h. omega (arith, few_kept r))
    (λ h. few_around r (intersection r hole))

pub few_pieces : (hole : Rect) (rs : List Rect) → length (cut_all hole rs) ≤ 4 * length rs
few_pieces hole [] = omega arith
few_pieces hole (r ∷ rs) = rw length-append (omega (arith, few_cut hole r, few_pieces hole rs))

-- parts of a rectangle, which are what it has outside of the holes once those that are left are taken away too
pub record IsRest (r : Rect) (holes parts left : List Rect) : Type 0 where
  pub pieces : ArePieces parts
  pub inside : (x y : ℤ) → one_holds parts x y ≡ true → holds r x y ≡ true
  pub places : (x y : ℤ) → one_holds parts x y && not (one_holds left x y) ≡ holds r x y && not (one_holds holes x y)

pub rest_first : (r : Rect) (holes : List Rect) → IsRest r holes (unless_thin r) holes
rest_first r holes = record {
  pieces = pieces-kept r;
  inside = λ x y h. sym (held-kept r x y) ∙ h;
  places = λ x y. ap (λ b. b && not (one_holds holes x y)) (held-kept r x y);
}

-- a hole that shares no place with the rectangle cuts nothing off
pub rest_skip : (r : Rect) (holes parts : List Rect) (hole : Rect) (left : List Rect)
    → ((x y : ℤ) → holds r x y ≡ true → holds hole x y ≡ true → ⊥)
    → IsRest r holes parts (hole ∷ left) → IsRest r holes parts left
rest_skip r holes parts hole left f h = record {
  pieces = h.pieces;
  inside = h.inside;
  places = λ x y. outside_other (one_holds parts x y) (holds hole x y) (one_holds left x y) (λ k. f x y (h.inside x y k)) ∙ h.places x y;
}

pub rest_cut : (r : Rect) (holes parts : List Rect) (hole : Rect) (left : List Rect)
    → IsRest r holes parts (hole ∷ left) → IsRest r holes (cut_all hole parts) left
rest_cut r holes parts hole left h = record {
  pieces = pieces-cut_all hole parts h.pieces;
  inside = λ x y k. h.inside x y (and_left (one_holds parts x y) (not (holds hole x y)) (sym (held-cut_all hole parts x y) ∙ k));
  places = λ x y.
      ap (λ b. b && not (one_holds left x y)) (held-cut_all hole parts x y)
      ∙ (outside_two (one_holds parts x y) (holds hole x y) (one_holds left x y) ∙ h.places x y);
}

-- the rectangles, and behind them what is new of another one
pub added_holds : (rs new : List Rect) (r : Rect) → ((x y : ℤ) → one_holds new x y ≡ holds r x y && not (one_holds rs x y))
    → (x y : ℤ) → one_holds (rs ++ new) x y ≡ one_holds rs x y || holds r x y
added_holds rs new r h x y = held-append rs new x y ∙ (rw (h x y) (or_new (one_holds rs x y) (holds r x y)))

pub added_pieces : (rs new : List Rect) (r : Rect) → ((x y : ℤ) → one_holds new x y ≡ holds r x y && not (one_holds rs x y))
    → ArePieces rs → ArePieces new → ArePieces (rs ++ new)
added_pieces rs new r h a b =
    pieces-append rs new a b (λ x y k l. not_held (one_holds rs x y) (and_right (holds r x y) (not (one_holds rs x y)) (sym (h x y) ∙ l)) k)
