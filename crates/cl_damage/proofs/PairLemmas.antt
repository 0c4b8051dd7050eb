-- The steps in which a level is compared.
use Rattle.std.proofs.Common.{◌≡◌, ℕ, suc, ◌+◌, ◌<◌, ◌≤◌, Bool, List, [], ◌∷◌, ◌++◌, refl, length, map, drop, take, ◌∙◌, ap, sym, arith, append_assoc, add-one, Option, Some, None}
use Rattle.std.proofs.lemmas.List.{drop-map}
use Rattle.cl_region.specs.declared.rects.Rect.{Rect}
use Rattle.cl_region.specs.declared.rects.Shift.{Shift}
use Rattle.cl_syntax.specs.declared.sites.Site.{Site}
use Rattle.cl_value.specs.Data.{Data}
use Rattle.cl_damage.specs.Children.{Child, Children, child, inside_of, item, list_of, name_of, none, updated}
use Rattle.cl_damage.specs.Places.{IsNext}
use Rattle.cl_damage.specs.Steps.{Steps, compared_each, size_of, size_of_all, sizes_of}
use Rattle.cl_damage.specs.Touched.{Compared, Partner, agreeing, all_compared, all_give, between, but_last, child_of, compared, ending, gives, level, pair_gives, partner, step, touched, without_end}
use Rattle.cl_damage.proofs.LevelLemmas.{but_last-map}

module _ {A : Type 0} where
  pub sizes-list : (ks : Children A) → sizes_of (list_of ks) ≡ size_of_all ks
  sizes-list none = refl
  sizes-list (child k ks) = ap (λ (n : ℕ). size_of k + n) (sizes-list ks)

  pub next_within : (os : List (Child A)) (next n : ℕ) (p : Option (Partner A)) → IsNext next os p (Some n) → n < length os
  next_within os next n None h = absurd h
  next_within os next n (Some p) h = h.within

module _ {A : Type 0} (bounds : A → Rect) (same : A → A → Bool) where
  child-compared : (k : Child A) → (compared bounds same k).child ≡ k
  child-compared (item a) = refl
  child-compared (updated name kept ks) = refl

  pub each-children : (ks : List (Child A)) → map child_of (compared_each bounds same ks) ≡ ks
  each-children [] = refl
  each-children (k ∷ ks) = λ i. child-compared k i ∷ each-children ks i

  pub each-list : (ks : Children A) → compared_each bounds same (list_of ks) ≡ all_compared bounds same ks
  each-list none = refl
  each-list (child k ks) = ap (λ (cs : List (Compared A)). compared bounds same k ∷ cs) (each-list ks)

  -- a new child that is not paired
  alone : (p : Option (Partner A)) (next : ℕ) (os : List (Child A)) (k : Child A) (rest : List (Child A) → List Rect) → IsNext next os p None
      → step bounds p (compared bounds same k) (drop next os) rest ≡ gives bounds k ++ rest (drop next os)
  alone None next os k rest h = ap (λ (c : Child A). gives bounds c ++ rest (drop next os)) (child-compared k)
  alone (Some p) next os k rest h = absurd h

  pub one_alone : (k : Child A) (os : List (Child A)) (next : ℕ) (first now : List Rect) → next ≤ length os
      → IsNext next os (partner (name_of k) (drop next os)) None → now ≡ first ++ gives bounds k → Steps bounds same k os next next first now
  one_alone k os next first now within h e = record {
    within = within;
    rects = λ rest. ap (λ (rs : List Rect). first ++ rs) (alone (partner (name_of k) (drop next os)) next os k rest h)
        ∙ (sym (append_assoc first (gives bounds k) (rest (drop next os))) ∙ ap (λ (rs : List Rect). rs ++ rest (drop next os)) (sym e));
  }

  -- one that is
  paired : (p : Option (Partner A)) (next place : ℕ) (os : List (Child A)) (k o : Child A) (rest : List (Child A) → List Rect) → IsNext next os p (Some place)
      → drop place os ≡ o ∷ drop (suc place) os
      → step bounds p (compared bounds same k) (drop next os) rest
      ≡ all_give bounds (drop next (take place os)) ++ (pair_gives bounds o (compared bounds same k) k ++ rest (drop (suc place) os))
  paired None next place os k o rest h e = absurd h
  paired (Some p) next place os k o rest h e =
      let both : p.it ∷ p.after ≡ o ∷ drop (suc place) os = sym h.there ∙ e in
      let it : p.it ≡ o = cc in
      let after : p.after ≡ drop (suc place) os = cc in
      let itself = child-compared k in
      λ i. all_give bounds (h.front i) ++ (pair_gives bounds (it i) (compared bounds same k) (itself i) ++ rest (after i))

  pub one_paired : (k o : Child A) (os : List (Child A)) (next place : ℕ) (first middle now : List Rect)
      → IsNext next os (partner (name_of k) (drop next os)) (Some place) → drop place os ≡ o ∷ drop (suc place) os → place < length os
      → middle ≡ first ++ all_give bounds (drop next (take place os))
      → now ≡ middle ++ pair_gives bounds o (compared bounds same k) k → Steps bounds same k os next (place + 1) first now
  one_paired k o os next place first middle now h there within e f = record {
    within = omega (arith, within);
    rects = λ rest.
        let front = all_give bounds (drop next (take place os)) in
        let pair = pair_gives bounds o (compared bounds same k) k in
        let left = rest (drop (suc place) os) in
        ap (λ (rs : List Rect). first ++ rs) (paired (partner (name_of k) (drop next os)) next place os k o rest h there)
        ∙ (sym (append_assoc first front (pair ++ left))
        ∙ (ap (λ (rs : List Rect). rs ++ (pair ++ left)) (sym e)
        ∙ (sym (append_assoc middle pair left)
        ∙ (ap (λ (rs : List Rect). rs ++ left) (sym f) ∙ ap (λ (n : ℕ). now ++ rest (drop n os)) (sym (add-one place))))));
  }

  -- what was put, and behind it what the new children that are left give with the old ones that are left, is what was there and what all give
  pub record PairsOn (os : List (Child A)) (next : ℕ) (all left : List (Child A)) (first now : List Rect) : Type 0 where
    pub fewer : sizes_of left ≤ sizes_of all
    pub within : next ≤ length os
    pub rects : now ++ between bounds (compared_each bounds same left) (drop next os) ≡ first ++ between bounds (compared_each bounds same all) os

  pub pairs_more : (os : List (Child A)) (next after : ℕ) (all : List (Child A)) (k : Child A) (left : List (Child A)) (first was now : List Rect)
      → PairsOn os next all (k ∷ left) first was → Steps bounds same k os next after was now → PairsOn os after all left first now
  pairs_more os next after all k left first was now h s = record {
    fewer = omega (arith, h.fewer);
    within = s.within;
    rects = sym (s.rects (between bounds (compared_each bounds same left)))
        ∙ (ap (λ (c : Child A). was ++ step bounds (partner (name_of c) (drop next os)) (compared bounds same k) (drop next os)
        (between bounds (compared_each bounds same left))) (sym (child-compared k)) ∙ h.rects);
  }

  pub pairs_all : (os : List (Child A)) (next : ℕ) (all : List (Child A)) (first was now : List Rect) → PairsOn os next all [] first was
      → now ≡ was ++ all_give bounds (drop next os) → now ≡ first ++ between bounds (compared_each bounds same all) os
  pairs_all os next all first was now h e = e ∙ h.rects

  -- ---- whole levels

  -- an update that was drawn anew gives what is inside, compared
  pub opened : (o : Child A) (name : Site × Data) (moved : Option Shift) (ks : Children A) (olds news : List (Child A)) → moved ≡ None
      → olds ≡ inside_of o → news ≡ list_of ks
      → level bounds same olds (compared_each bounds same news)
      ≡ pair_gives bounds o (compared bounds same (updated name moved ks)) (updated name moved ks)
  opened o name None ks olds news e f h =
      let inside = ap (λ (ns : List (Child A)). compared_each bounds same ns) h ∙ each-list ks in
      λ i. level bounds same (f i) (inside i)
  opened o name (Some v) ks olds news e f h = absurd (cc)

  pub without_end-is : (n : ℕ) (os ns : List (Child A)) → n ≡ ending same os ns
      → between bounds (compared_each bounds same (but_last n ns)) (but_last n os) ≡ without_end bounds same os (compared_each bounds same ns)
  without_end-is n os ns e =
      let count : n ≡ ending same os (map child_of (compared_each bounds same ns)) =
      e ∙ ap (λ (ks : List (Child A)). ending same os ks) (sym (each-children ns)) in
      ap (λ (cs : List (Compared A)). between bounds cs (but_last n os)) (sym (but_last-map (compared bounds same) n ns))
      ∙ ap (λ (k : ℕ). between bounds (but_last k (compared_each bounds same ns)) (but_last k os)) count

  pub level-is : (n : ℕ) (os ns : List (Child A)) → n ≡ agreeing same os ns
      → without_end bounds same (drop n os) (compared_each bounds same (drop n ns)) ≡ level bounds same os (compared_each bounds same ns)
  level-is n os ns e =
      let count : n ≡ agreeing same os (map child_of (compared_each bounds same ns)) =
      e ∙ ap (λ (ks : List (Child A)). agreeing same os ks) (sym (each-children ns)) in
      ap (λ (cs : List (Compared A)). without_end bounds same (drop n os) cs) (sym (drop-map (compared bounds same) n ns))
      ∙ ap (λ (k : ℕ). without_end bounds same (drop k os) (drop k (compared_each bounds same ns))) count

  pub touched-is : (old new : Children A) (olds news : List (Child A)) → olds ≡ list_of old → news ≡ list_of new
      → level bounds same olds (compared_each bounds same news) ≡ touched bounds same old new
  touched-is old new olds news e f =
      let each = ap (λ (ns : List (Child A)). compared_each bounds same ns) f ∙ each-list new in
      λ i. level bounds same (e i) (each i)
