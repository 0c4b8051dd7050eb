-- What is under a box.
use Rattle.std.proofs.Common.{◌≡◌, ℕ, zero, suc, ◌+◌, ◌/◌, ◌<◌, ◌≤◌, ℤ, Bool, true, false, if◌then◌else◌, List, [], ◌∷◌, ◌++◌, length, Some, None, refl, sym, ◌∙◌, ap, subst, arith}
use Rattle.std.specs.Prelude.{All, nat_le}
use Rattle.std.proofs.lemmas.List.{drop_at, length-append, take_at}
use Rattle.std.proofs.lemmas.List.Elements.{All-weaker}
use Rattle.cl_region.specs.declared.rects.Rect.{Rect}
use Rattle.cl_region.specs.Places.{Covers, intersection, holds, is_thin}
use Rattle.cl_region.proofs.Corners.{and_left, and_right, both, common-holds, none_held, false_holds, some_common, thin_test}
use Rattle.cl_index.specs.declared.trees.Tree.{Tree}
use Rattle.cl_index.specs.declared.trees.Tree.TheVariants.{Few, Many'}
use Rattle.cl_index.specs.Found.{is_at, overlaps, places_from}
use Rattle.cl_index.specs.declared.trees.TheConstants.{FEW}
use Rattle.cl_index.specs.Looks.{box_in, joined_box, looked_in, empty_rect}
use Rattle.cl_index.proofs.Joined.{box-append, from_covers}
use Rattle.cl_index.specs.Boxes.{IsFork, IsSound, after, before, box_of, head_of, looked_at, rects_in}
use Rattle.cl_index.proofs.Walked.{le_false, le_true, after-append, after-none, before-append, before-none, few_places, head-append, head_behind, head_none, places-append, places_none}

-- what does not pass at a box does not pass at what the box covers
pub record IsWide (p : Rect → Bool) : Type 0 where
  pub passes : (a r : Rect) → Covers a r → p r ≡ true → p a ≡ true

pub overlaps_wide : (q : Rect) → IsWide (overlaps q)
overlaps_wide q = record {
  passes = λ a r f h.
      let inner = some_common (intersection q r) q r (common-holds q r) (is_thin (intersection q r)) (thin_test (intersection q r) (is_thin (intersection q r)) refl) in
      let outer = some_common (intersection q a) q a (common-holds q a) (is_thin (intersection q a)) (thin_test (intersection q a) (is_thin (intersection q a)) refl) in
      let cell = inner.0 h in
      let x = cell.0 in
      let y = cell.1.0 in
      outer.1 (
        x,
        (
          y,
          both (holds q x y) (holds a x y) (and_left (holds q x y) (holds r x y) cell.1.1)
              (f.holds_each x y (and_right (holds q x y) (holds r x y) cell.1.1)),
        ),
      );
}

pub is_at_wide : (x y : ℤ) → IsWide (is_at x y)
is_at_wide x y = record { passes = λ a r f h. f.holds_each x y h }

sound_covers : (t : Tree) → IsSound t → All (Covers (box_of t)) (rects_in t)
sound_covers (Few around rects) s = subst (λ r. All (Covers r) rects.items) (sym s.box_is) (from_covers empty_rect rects.items)
sound_covers (Many' around count p first q second) s =
    subst (λ r. All (Covers r) (rects_in first ++ rects_in second)) (sym s.0.box_is) (from_covers empty_rect (rects_in first ++ rects_in second))

-- nothing under a box passes where the box does not
pub passed : (p : Rect → Bool) → IsWide p → (n : ℕ) (t : Tree) → IsSound t → p (box_of t) ≡ false → places_from p n (rects_in t) ≡ []
passed p w n t s h =
    places_none p n (rects_in t)
    (All-weaker (Covers (box_of t)) (λ r. p r ≡ false) (λ r f. none_held (p r) (λ k. false_holds (p (box_of t)) h (w.passes (box_of t) r f k))) (rects_in t) (sound_covers t s))

pub none_after : (p : Rect → Bool) → IsWide p → (k n : ℕ) (t : Tree) → IsSound t → p (box_of t) ≡ false → None ≡ head_of (after k p n (rects_in t))
none_after p w k n t s h = rw (passed p w n t s h) refl

pub none_before : (p : Rect → Bool) → IsWide p → (k n : ℕ) (t : Tree) → IsSound t → p (box_of t) ≡ false → None ≡ head_of (before k p n (rects_in t))
none_before p w k n t s h = rw (passed p w n t s h) refl

-- ---- two halves

module _ (p : Rect → Bool) (k n m : ℕ) (xs ys : List Rect) (middle : m ≡ n + length xs) where
  pub after_first : (i : ℕ) → Some i ≡ head_of (after k p n xs) → Some i ≡ head_of (after k p n (xs ++ ys))
  after_first i e = sym (ap head_of (after-append p k n xs ys) ∙ head-append (after k p n xs) (after k p (n + length xs) ys) i (sym e))

  after_none_first : after k p n xs ≡ [] → head_of (after k p m ys) ≡ head_of (after k p n (xs ++ ys))
  after_none_first e =
      ap (λ j. head_of (after k p j ys)) middle
      ∙ sym (ap head_of (after-append p k n xs ys) ∙ head_behind (after k p n xs) (after k p (n + length xs) ys) e)

  pub after_second : None ≡ head_of (after k p n xs) → head_of (after k p m ys) ≡ head_of (after k p n (xs ++ ys))
  after_second e = after_none_first (head_none (after k p n xs) (sym e))

  pub after_middle : m ≤ k → head_of (after k p m ys) ≡ head_of (after k p n (xs ++ ys))
  after_middle h = after_none_first (after-none p k n xs (omega arith))

  halves : before k p n (xs ++ ys) ≡ before k p m ys ++ before k p n xs
  halves = before-append p k n xs ys ∙ ap (λ j. before k p j ys ++ before k p n xs) (sym middle)

  pub before_second : (i : ℕ) → Some i ≡ head_of (before k p m ys) → Some i ≡ head_of (before k p n (xs ++ ys))
  before_second i e = sym (ap head_of halves ∙ head-append (before k p m ys) (before k p n xs) i (sym e))

  before_none_second : before k p m ys ≡ [] → head_of (before k p n xs) ≡ head_of (before k p n (xs ++ ys))
  before_none_second e = sym (ap head_of halves ∙ head_behind (before k p m ys) (before k p n xs) e)

  pub before_first : None ≡ head_of (before k p m ys) → head_of (before k p n xs) ≡ head_of (before k p n (xs ++ ys))
  before_first e = before_none_second (head_none (before k p m ys) (sym e))

  pub before_middle : k ≤ m → head_of (before k p n xs) ≡ head_of (before k p n (xs ++ ys))
  before_middle h = before_none_second (before-none p k m ys h)

-- ---- how many are looked at

by_test : (P : ℕ → Type 0) (b : Bool) (x y : ℕ) → (b ≡ true → P x) → (b ≡ false → P y) → P (if b then x else y)
by_test P true x y f g = f refl
by_test P false x y f g = g refl

pub looked_most : (q : Rect) (t : Tree) → looked_at q t ≤ length (rects_in t)
looked_most q (Few around rects) = by_test (λ m. m ≤ length rects.items) (overlaps q around) (length rects.items) 0 (λ h. omega arith) (λ h. omega arith)
looked_most q (Many' around count p first s second) =
    by_test (λ m. m ≤ length (rects_in first ++ rects_in second)) (overlaps q around) (looked_at q first + looked_at q second) 0
    (λ h. omega (arith, looked_most q first, looked_most q second, length-append (rects_in first) (rects_in second)))
    (λ h. omega arith)

pub looked_least : (q : Rect) (n : ℕ) (t : Tree) → IsSound t → length (places_from (overlaps q) n (rects_in t)) ≤ looked_at q t
looked_least q n (Few around rects) s =
    by_test (λ m. length (places_from (overlaps q) n rects.items) ≤ m) (overlaps q around) (length rects.items) 0
    (λ h. few_places (overlaps q) n rects.items)
    (λ h. rw (passed (overlaps q) (overlaps_wide q) n (Few around rects) s h) (omega arith))
looked_least q n (Many' around count p first t second) s =
    by_test (λ m. length (places_from (overlaps q) n (rects_in first ++ rects_in second)) ≤ m) (overlaps q around) (looked_at q first + looked_at q second) 0
    (λ h. rw (places-append (overlaps q) n (rects_in first) (rects_in second), length-append)
    (omega (arith, looked_least q n first s.1, looked_least q (n + length (rects_in first)) second s.2)))
    (λ h. rw (passed (overlaps q) (overlaps_wide q) n (Many' around count p first t second) s h) (omega arith))

-- ---- a box of two

box_is_in : (t : Tree) → IsSound t → box_of t ≡ box_in (rects_in t)
box_is_in (Few around rects) s = s.box_is
box_is_in (Many' around count p first q second) s = s.0.box_is

two_boxes : (xs ys : List Rect) → 0 < length ys → box_in (xs ++ ys) ≡ joined_box (box_in xs) (box_in ys)
two_boxes xs [] h = absurd (omega (arith, h))
two_boxes xs (y ∷ ys) h = box-append xs y ys

pub fork_of : (around : Rect) (count : ℕ) (a b : Tree) → around ≡ joined_box (box_of a) (box_of b) → count ≡ length (rects_in a)
    → count ≡ (length (rects_in a) + length (rects_in b)) / 2 → FEW < length (rects_in a) + length (rects_in b) → IsSound a → IsSound b
    → IsFork around count (rects_in a) (rects_in b) × IsSound a × IsSound b
fork_of around count a b e f half many s t =
    let long = length-append (rects_in a) (rects_in b) in
    let some : 0 < length (rects_in b) = omega (arith, f, half, many) in (
      record {
        box_is = e ∙ (rw (box_is_in a s, box_is_in b t) (sym (two_boxes (rects_in a) (rects_in b) some)));
        count_is = f;
        half = half ∙ ap (λ n. n / 2) (sym long);
        many = rw long many;
      },
      s,
      t,
    )

-- ---- what is looked at, by the list

few_looked : (b c : Bool) (n m : ℕ) → c ≡ true → (if b then n else 0) ≡ (if b then (if c then n else m) else 0)
few_looked true c n m h = rw h refl
few_looked false c n m h = refl

many_looked : (b c : Bool) (l n j m k : ℕ) → c ≡ false → l ≡ m → n ≡ k → (if b then l + n else 0) ≡ (if b then (if c then j else m + k) else 0)
many_looked true c l n j m k h e f = rw (h, e, f) refl
many_looked false c l n j m k h e f = refl

none_looked : (b : Bool) (n : ℕ) → n ≤ 0 → (if b then n else 0) ≡ 0
none_looked true n h = omega (arith, h)
none_looked false n h = refl

pub looked_same : (q : Rect) (d : ℕ) (t : Tree) → IsSound t → length (rects_in t) ≤ d → looked_at q t ≡ looked_in q d (rects_in t)
looked_same q zero (Few around rects) s h = none_looked (overlaps q around) (length rects.items) h
looked_same q (suc d) (Few around rects) s h =
    ap (λ r. if overlaps q r then length rects.items else 0) s.box_is
    ∙ few_looked (overlaps q (box_in rects.items)) (nat_le (length rects.items) FEW) (length rects.items) _ (le_true (length rects.items) FEW s.few)
looked_same q zero (Many' around count p first t second) s h = absurd (omega (arith, s.0.many, h))
looked_same q (suc d) (Many' around count p first t second) s h =
    let xs = rects_in first in
    let ys = rects_in second in
    let n = length (xs ++ ys) / 2 in
    let long = length-append xs ys in
    let front : length xs ≡ n = sym s.0.count_is ∙ s.0.half in
    let few_first : length xs ≤ d = omega (arith, front, long, h, s.0.many) in
    let few_second : length ys ≤ d = omega (arith, front, long, h, s.0.many) in
    ap (λ r. if overlaps q r then looked_at q first + looked_at q second else 0) s.0.box_is
    ∙ many_looked (overlaps q (box_in (xs ++ ys))) (nat_le (length (xs ++ ys)) FEW) (looked_at q first) (looked_at q second) _ _ _ (le_false (length (xs ++ ys)) FEW s.0.many)
    (looked_same q d first s.1 few_first ∙ ap (λ rs. looked_in q d rs) (sym (take_at xs ys n front)))
    (looked_same q d second s.2 few_second ∙ ap (λ rs. looked_in q d rs) (sym (drop_at xs ys n front)))
