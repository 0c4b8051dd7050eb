-- Why a place that is not touched shows the same items, at every depth.
use Rattle.std.proofs.Common.{◌≡◌, ℤ, Bool, true, false, List, [], ◌∷◌, ◌++◌, Some, None, refl, ◌∙◌, ap, sym}
use Rattle.std.specs.Prelude.{◌&&◌, if◌then◌else◌, map}
use Rattle.cl_region.specs.Places.{one_holds}
use Rattle.cl_region.specs.declared.rects.Rect.{Rect}
use Rattle.cl_damage.specs.Agreement.{Agree, Agrees}
use Rattle.cl_damage.specs.Children.{Child, Children, child, is_same_name, item, items_at, items_in, items_of, list_of, none, updated}
use Rattle.cl_damage.specs.Touched.{all_compared, child_of, compared, gives, is_still, level, touched}
use Rattle.cl_damage.proofs.EachLemmas.{each_weaker}
use Rattle.cl_damage.proofs.LevelLemmas.{AllFine, Fine, level-goes}
use Rattle.cl_damage.proofs.PlaceLemmas.{all_seen, at-append, outside_left, outside_right, seen, seen-none}

both_left : (b c : Bool) → b && c ≡ true → b ≡ true
both_left true c e = refl
both_left false c e = e

both_right : (b c : Bool) → b && c ≡ true → c ≡ true
both_right true c e = e
both_right false c e = absurd (cc)

module _ {A : Type 0} (bounds : A → Rect) (same : A → A → Bool) where
  child-compared : (k : Child A) → (compared bounds same k).child ≡ k
  child-compared (item a) = refl
  child-compared (updated name kept ks) = refl

  pub children-compared : (ks : Children A) → map child_of (all_compared bounds same ks) ≡ list_of ks
  children-compared none = refl
  children-compared (child k ks) = λ i. child-compared k i ∷ children-compared ks i

module _ {A : Type 0} (bounds : A → Rect) (x y : ℤ) where
  seen-list : (ks : Children A) → all_seen bounds x y (list_of ks) ≡ items_at bounds x y (items_in ks)
  seen-list none = refl
  seen-list (child k ks) = ap (λ (items : List A). seen bounds x y k ++ items) (seen-list ks) ∙ sym (at-append bounds x y (items_of k) (items_in ks))

  -- kept in place, or the bounds of both
  moved_seen : (b : Bool) (o n : Child A) → (b ≡ true → seen bounds x y o ≡ seen bounds x y n)
      → one_holds (if b then [] else gives bounds o ++ gives bounds n) x y ≡ false → seen bounds x y o ≡ seen bounds x y n
  moved_seen true o n f e = f refl
  moved_seen false o n f e =
      seen-none bounds x y o (outside_left (gives bounds o) (gives bounds n) x y e)
      ∙ sym (seen-none bounds x y n (outside_right (gives bounds o) (gives bounds n) x y e))

module _ {A : Type 0} (bounds : A → Rect) (x y : ℤ) (same : A → A → Bool) where
  -- what a level at the place says of what it was made of
  level_inside : (us ks : Children A) → AllFine bounds x y same (list_of us) (all_compared bounds same ks)
      → one_holds (level bounds same (list_of us) (all_compared bounds same ks)) x y ≡ false
      → items_at bounds x y (items_in us) ≡ items_at bounds x y (items_in ks)
  level_inside us ks h e =
      sym (seen-list bounds x y us)
      ∙ (level-goes bounds x y same (list_of us) (all_compared bounds same ks) h e
      ∙ (ap (λ (cs : List (Child A)). all_seen bounds x y cs) (children-compared bounds same ks) ∙ seen-list bounds x y ks))

  module _ (sound : (a b : A) → same a b ≡ true → a ≡ b) where
    mutual
      fine : (n o : Child A) → Agrees n o → Fine bounds x y same (compared bounds same n) o
      fine (item a) (item b) h = record {
        equal = λ e. ap (λ (c : A). items_at bounds x y (c ∷ [])) (sound b a e);
        paired = λ e f. absurd (cc);
      }
      fine (item a) (updated old was us) h = record { equal = λ e. absurd (cc); paired = λ e f. absurd (cc) }
      fine (updated new None ks) (item b) h = record { equal = λ e. absurd (cc); paired = λ e f. absurd (cc) }
      fine (updated new (Some v) ks) (item b) h = record { equal = λ e. absurd (cc); paired = λ e f. absurd (cc) }
      fine (updated new None ks) (updated old was us) h = record {
        equal = λ e. absurd (let no : false ≡ true = both_right (is_same_name new old) false e in cc);
        paired = λ e f. level_inside us ks (fine_all ks (list_of us) (h e)) f;
      }
      fine (updated new (Some v) ks) (updated old was us) h = record {
        equal = λ e. ap (λ (items : List A). items_at bounds x y items)
            (h (both_left (is_same_name new old) (is_still v) e) (both_right (is_same_name new old) (is_still v) e));
        paired = λ e f. moved_seen bounds x y (is_still v) (updated old was us) (updated new (Some v) ks)
            (λ still. ap (λ (items : List A). items_at bounds x y items) (h e still)) f;
      }

      fine_all : (ks : Children A) (os : List (Child A)) → Agree ks os → AllFine bounds x y same os (all_compared bounds same ks)
      fine_all none os h = tt
      fine_all (child n ns) os h =
          (each_weaker (Agrees n) (Fine bounds x y same (compared bounds same n)) (fine n) os h.0, fine_all ns os h.1)

    pub touched-items : (old new : Children A) → Agree new (list_of old) → one_holds (touched bounds same old new) x y ≡ false
        → items_at bounds x y (items_in old) ≡ items_at bounds x y (items_in new)
    touched-items old new h e = level_inside old new (fine_all new (list_of old) h) e
