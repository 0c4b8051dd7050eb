-- The steps of a search through records in a row.
use Rattle.std.proofs.Common.{◌≡◌, ◌≤◌, ℕ, ℤ, ◌+ℤ◌, Bool, true, false, List, [], ◌∷◌, ◌++◌, refl, ◌∙◌, ap, sym, arith}
use Rattle.std.specs.Prelude.{if◌then◌else◌, ◌||◌}
use Rattle.cl_region.specs.Places.{move_rect}
use Rattle.cl_region.specs.declared.rects.Rect.{Rect}
use Rattle.cl_region.specs.declared.rects.Shift.{Shift}
use Rattle.cl_record.specs.Labels.{LabelAt}
use Rattle.cl_record.specs.Marks.{Mark, move_marks, marks_of, marks_of_all}
use Rattle.cl_record.specs.Ranges.{ArePlaced}
use Rattle.cl_record.specs.Replays.{items_drawn}
use Rattle.cl_record.specs.Seen.{forest_of, tree_of}
use Rattle.cl_record.specs.Shifts.{join_shifts}
use Rattle.cl_record.specs.Touches.{touches}
use Rattle.cl_record.specs.TouchWalks.{Sought, found, passed, seek}
use Rattle.cl_record.specs.Trees.{Tree, Trees, presentation, size_of, size_of_all, tree}
use Rattle.cl_record.specs.declared.nodes.Node.{Node}
use Rattle.cl_record.proofs.Ends.{marks-last, placed-before, size-last}
use Rattle.cl_record.proofs.Ranges.{placed-rest}
use Rattle.cl_record.proofs.TouchWalks.{held, held-append, latest, latest-append, latest-shown, seek-append, seek_on}

or-here : (b c : Bool) → b ≡ true → b || c ≡ true
or-here true c e = refl
or-here false c e = absurd (cc)

or-there : (b c : Bool) → b ≡ false → b || c ≡ c
or-there true c e = absurd (cc)
or-there false c e = refl

module _ {A : Type 0} (bounds : A → Rect) (x y : ℤ) (move : Shift → A → A) where
  -- what is left of the trees has an item that holds the place if all of them have one
  pub record HoldsOn (v : Shift) (all left : Trees A) : Type 0 where
    pub placed : ArePlaced bounds move v left
    pub fewer : size_of_all left ≤ size_of_all all
    pub whole : held bounds x y move v (marks_of_all move left) ≡ held bounds x y move v (marks_of_all move all)

  pub holds_here : (v : Shift) (all : Trees A) (t : Tree A) (left : Trees A) → HoldsOn v all (tree t left)
      → held bounds x y move v (marks_of move t) ≡ true → held bounds x y move v (marks_of_all move all) ≡ true
  holds_here v all t left h e =
      sym h.whole
      ∙ (held-append bounds x y move v (marks_of move t) (marks_of_all move left)
      ∙ or-here (held bounds x y move v (marks_of move t)) (held bounds x y move v (marks_of_all move left)) e)

  pub holds_on : ((v : Shift) (a : A) → bounds (move v a) ≡ move_rect v (bounds a))
      → (v : Shift) (all : Trees A) (t : Tree A) (left : Trees A) → HoldsOn v all (tree t left)
      → held bounds x y move v (marks_of move t) ≡ false → HoldsOn v all left
  holds_on bounds_move v all t left h e = record {
    placed = placed-rest bounds move bounds_move v t left h.placed;
    fewer = omega (arith, h.fewer);
    whole = sym (held-append bounds x y move v (marks_of move t) (marks_of_all move left)
        ∙ or-there (held bounds x y move v (marks_of move t)) (held bounds x y move v (marks_of_all move left)) e)
        ∙ h.whole;
  }

  -- among what is left of the nodes, with so many to be passed over, is found what is found among all of them
  pub record SeeksOn (v : Shift) (k now : ℕ) (all : Trees A) (left : List (Node A)) : Type 0 where
    pub placed : ArePlaced bounds move v (forest_of left)
    pub fewer : size_of_all (forest_of left) ≤ size_of_all all
    pub whole : seek now (latest bounds x y move v (marks_of_all move (forest_of left))) ≡ seek k (latest bounds x y move v (marks_of_all move all))

  pub last-fewer : (v : Shift) (k now : ℕ) (all : Trees A) (before : List (Node A)) (last : Node A) → SeeksOn v k now all (before ++ last ∷ [])
      → size_of (tree_of last) ≤ size_of_all all
  last-fewer v k now all before last h = omega (arith, h.fewer, size-last before last)

  module _ (twice : (v w : Shift) (a : A) → move w (move v a) ≡ move (record { dx = v.dx +ℤ w.dx; dy = v.dy +ℤ w.dy }) a) where
    -- the last one first
    seek-last : (v : Shift) (now : ℕ) (before : List (Node A)) (last : Node A)
        → seek now (latest bounds x y move v (marks_of_all move (forest_of (before ++ last ∷ []))))
        ≡ seek_on (seek now (latest bounds x y move v (marks_of move (tree_of last)))) (latest bounds x y move v (marks_of_all move (forest_of before)))
    seek-last v now before last =
        ap (λ (ms : List (Mark A)). seek now (latest bounds x y move v ms)) (marks-last bounds move before last)
        ∙ (ap (λ (ls : List LabelAt). seek now ls) (latest-append bounds x y move twice v (forest_of before) (marks_of move (tree_of last)))
        ∙ seek-append now (latest bounds x y move v (marks_of move (tree_of last))) (latest bounds x y move v (marks_of_all move (forest_of before))))

    pub seeks_here : (v : Shift) (k now : ℕ) (all : Trees A) (before : List (Node A)) (last : Node A) → SeeksOn v k now all (before ++ last ∷ [])
        → (l : LabelAt) → found l ≡ seek now (latest bounds x y move v (marks_of move (tree_of last)))
        → found l ≡ seek k (latest bounds x y move v (marks_of_all move all))
    seeks_here v k now all before last h l e =
        ap (λ (s : Sought). seek_on s (latest bounds x y move v (marks_of_all move (forest_of before)))) e
        ∙ (sym (seek-last v now before last) ∙ h.whole)

    pub seeks_on : (v : Shift) (k now : ℕ) (all : Trees A) (before : List (Node A)) (last : Node A) → SeeksOn v k now all (before ++ last ∷ [])
        → (more : ℕ) → passed more ≡ seek now (latest bounds x y move v (marks_of move (tree_of last))) → SeeksOn v k more all before
    seeks_on v k now all before last h more e = record {
      placed = placed-before bounds move v before last h.placed;
      fewer = omega (arith, h.fewer, size-last before last);
      whole = ap (λ (s : Sought). seek_on s (latest bounds x y move v (marks_of_all move (forest_of before)))) e
          ∙ (sym (seek-last v now before last) ∙ h.whole);
    }

    -- a presentation comes behind all that is inside it
    seek-shown : (v p : Shift) (l : LabelAt) (ts : Trees A) (k : ℕ)
        → seek k (latest bounds x y move v (marks_of move (presentation l p ts)))
        ≡ seek_on (seek k (latest bounds x y move (join_shifts p v) (marks_of_all move ts)))
        (if touches bounds x y l (items_drawn (move_marks move (join_shifts p v) (marks_of_all move ts))) then l ∷ [] else [])
    seek-shown v p l ts k =
        ap (λ (ls : List LabelAt). seek k ls) (latest-shown bounds x y move twice v p l ts)
        ∙ seek-append k (latest bounds x y move (join_shifts p v) (marks_of_all move ts)) _

    pub shown_inside : (v p : Shift) (l : LabelAt) (ts : Trees A) (k : ℕ) (m : LabelAt)
        → found m ≡ seek k (latest bounds x y move (join_shifts p v) (marks_of_all move ts))
        → found m ≡ seek k (latest bounds x y move v (marks_of move (presentation l p ts)))
    shown_inside v p l ts k m e =
        ap (λ (s : Sought). seek_on s (if touches bounds x y l (items_drawn (move_marks move (join_shifts p v) (marks_of_all move ts))) then l ∷ [] else [])) e
        ∙ sym (seek-shown v p l ts k)

    pub shown_itself : (v p : Shift) (l : LabelAt) (ts : Trees A) (k left : ℕ) (s : Sought)
        → passed left ≡ seek k (latest bounds x y move (join_shifts p v) (marks_of_all move ts))
        → s ≡ seek left (if touches bounds x y l (items_drawn (move_marks move (join_shifts p v) (marks_of_all move ts))) then l ∷ [] else [])
        → s ≡ seek k (latest bounds x y move v (marks_of move (presentation l p ts)))
    shown_itself v p l ts k left s e f =
        f
        ∙ (ap (λ (s : Sought). seek_on s (if touches bounds x y l (items_drawn (move_marks move (join_shifts p v) (marks_of_all move ts))) then l ∷ [] else [])) e
        ∙ sym (seek-shown v p l ts k))
