-- A level of old children and new ones at a place that it does not touch.
use Rattle.std.proofs.Common.{◌≡◌, ℕ, ◌-◌, ℤ, Bool, true, false, List, [], ◌∷◌, ◌++◌, Option, Some, None, ◌∙◌, ap, sym, subst}
use Rattle.std.proofs.lemmas.List.{drop-map, length-map, map-append, take-append-drop, take-map}
use Rattle.std.specs.Prelude.{length, map, take, drop}
use Rattle.cl_region.specs.Places.{one_holds}
use Rattle.cl_region.specs.declared.rects.Rect.{Rect}
use Rattle.cl_damage.specs.Agreement.{Each}
use Rattle.cl_damage.specs.Children.{Child, name_of}
use Rattle.cl_damage.specs.Touched.{Compared, Partner, agreeing, all_give, between, but_last, child_of, ending, gives, is_equal, level, pair_gives, partner, step}
use Rattle.cl_damage.proofs.EachLemmas.{each_drop, each_right, each_take, each_weaker}
use Rattle.cl_damage.proofs.EndLemmas.{AllAlike, Alike, agreeing-seen, ending-seen}
use Rattle.cl_damage.proofs.PartnerLemmas.{IfFound, Splits, is_partner, partner-splits}
use Rattle.cl_damage.proofs.PlaceLemmas.{all_seen, all_seen-none, joined, joined-append, outside_left, outside_right, seen, seen-none}

module _ {A : Type 0} where
  pub but_last-map : {B : Type 0} (f : A → B) (n : ℕ) (xs : List A) → but_last n (map f xs) ≡ map f (but_last n xs)
  but_last-map f n xs = ap (λ (k : ℕ). take (k - n) (map f xs)) (length-map xs f) ∙ take-map f (length xs - n) xs

  each_map : {B : Type 0} (P : B → Type 0) (f : A → B) (xs : List A) → Each (λ a. P (f a)) xs → Each P (map f xs)
  each_map P f [] h = tt
  each_map P f (x ∷ xs) h = (h.0, each_map P f xs h.1)

  -- in three parts
  in_parts : {B : Type 0} (see : A → B) (s e : ℕ) (xs : List A)
      → map see xs ≡ map see (take s xs) ++ (map see (but_last e (drop s xs)) ++ map see (drop (length (drop s xs) - e) (drop s xs)))
  in_parts {B = B} see s e xs =
      let two : (n : ℕ) (ys : List A) → map see ys ≡ map see (take n ys) ++ map see (drop n ys) =
      λ n ys. ap (λ (ks : List A). map see ks) (sym (take-append-drop n ys)) ∙ map-append see (take n ys) (drop n ys) in
      two s xs ∙ ap (λ (ks : List B). map see (take s xs) ++ ks) (two (length (drop s xs) - e) (drop s xs))

module _ {A : Type 0} (bounds : A → Rect) (x y : ℤ) (same : A → A → Bool) where
  -- all that a level asks of what is inside
  pub record Fine (c : Compared A) (o : Child A) : Type 0 where
    pub equal : is_equal same o c.child ≡ true → seen bounds x y o ≡ seen bounds x y c.child
    pub paired : is_partner (name_of c.child) o ≡ true → one_holds (pair_gives bounds o c c.child) x y ≡ false
        → seen bounds x y o ≡ seen bounds x y c.child

  -- of each new child with each old one
  abbrev pub AllFine : List (Child A) → List (Compared A) → Type 0
  AllFine os cs = Each (λ c. Each (Fine c) os) cs

  fine_right : (before after : List (Child A)) (cs : List (Compared A)) → AllFine (before ++ after) cs → AllFine after cs
  fine_right before after cs h =
      each_weaker (λ c. Each (Fine c) (before ++ after)) (λ c. Each (Fine c) after) (λ c g. each_right (Fine c) before after g) cs h

  -- the rest of a level at the place
  abbrev pub Goes : (List (Child A) → List Rect) → List (Compared A) → Type 0
  Goes rest cs =
      (os : List (Child A)) → AllFine os cs → one_holds (rest os) x y ≡ false
      → all_seen bounds x y os ≡ all_seen bounds x y (map child_of cs)

  step_none : (c : Compared A) (cs : List (Compared A)) (os : List (Child A)) (rest : List (Child A) → List Rect) → Goes rest cs → AllFine os cs
      → one_holds (gives bounds c.child ++ rest os) x y ≡ false → all_seen bounds x y os ≡ all_seen bounds x y (map child_of (c ∷ cs))
  step_none c cs os rest goes h e =
      goes os h (outside_right (gives bounds c.child) (rest os) x y e)
      ∙ sym (ap (λ (items : List A). items ++ all_seen bounds x y (map child_of cs)) (seen-none bounds x y c.child (outside_left (gives bounds c.child) (rest os) x y e)))

  -- what the parts of a step have at the place
  step_parts : (p : Partner A) (c : Compared A) (cs : List (Compared A)) → all_seen bounds x y p.before ≡ []
      → seen bounds x y p.it ≡ seen bounds x y c.child → all_seen bounds x y p.after ≡ all_seen bounds x y (map child_of cs)
      → all_seen bounds x y (p.before ++ p.it ∷ p.after) ≡ all_seen bounds x y (map child_of (c ∷ cs))
  step_parts p c cs none one more =
      ap (λ (ls : List (List A)). joined bounds x y ls) (map-append (seen bounds x y) p.before (p.it ∷ p.after))
      ∙ (joined-append bounds x y (map (seen bounds x y) p.before) (map (seen bounds x y) (p.it ∷ p.after))
      ∙ (λ i. none i ++ (one i ++ more i)))

  step_some : (p : Partner A) (c : Compared A) (cs : List (Compared A)) (os : List (Child A)) (rest : List (Child A) → List Rect)
      → Splits (name_of c.child) os p → Goes rest cs → Each (Fine c) os → AllFine os cs
      → one_holds (all_give bounds p.before ++ (pair_gives bounds p.it c c.child ++ rest p.after)) x y ≡ false
      → all_seen bounds x y os ≡ all_seen bounds x y (map child_of (c ∷ cs))
  step_some p c cs os rest s goes one all e =
      let here : Each (Fine c) (p.it ∷ p.after) = each_right (Fine c) p.before (p.it ∷ p.after) (subst (λ (ks : List (Child A)). Each (Fine c) ks) s.whole one) in
      let left : AllFine (p.it ∷ p.after) cs = fine_right p.before (p.it ∷ p.after) cs (subst (λ (ks : List (Child A)). AllFine ks cs) s.whole all) in
      let after : AllFine p.after cs = fine_right (p.it ∷ []) p.after cs left in
      let tail = outside_right (all_give bounds p.before) (pair_gives bounds p.it c c.child ++ rest p.after) x y e in
      ap (λ (ks : List (Child A)). all_seen bounds x y ks) s.whole
      ∙ step_parts p c cs
      (all_seen-none bounds x y p.before (outside_left (all_give bounds p.before) (pair_gives bounds p.it c c.child ++ rest p.after) x y e))
      (here.0.paired s.named (outside_left (pair_gives bounds p.it c c.child) (rest p.after) x y tail))
      (goes p.after after (outside_right (pair_gives bounds p.it c c.child) (rest p.after) x y tail))

  step-goes : (p : Option (Partner A)) (c : Compared A) (cs : List (Compared A)) (os : List (Child A)) (rest : List (Child A) → List Rect)
      → IfFound (name_of c.child) os p → Goes rest cs → Each (Fine c) os → AllFine os cs
      → one_holds (step bounds p c os rest) x y ≡ false → all_seen bounds x y os ≡ all_seen bounds x y (map child_of (c ∷ cs))
  step-goes None c cs os rest s goes one all e = step_none c cs os rest goes all e
  step-goes (Some p) c cs os rest s goes one all e = step_some p c cs os rest s goes one all e

  pub between-goes : (cs : List (Compared A)) → Goes (between bounds cs) cs
  between-goes [] os h e = all_seen-none bounds x y os e
  between-goes (c ∷ cs) os h e =
      step-goes (partner (name_of c.child) os) c cs os (between bounds cs) (partner-splits (name_of c.child) os) (between-goes cs) h.0 h.1 e

  -- ---- a level

  all_alike : (os : List (Child A)) (cs : List (Compared A)) → AllFine os cs → AllAlike same (seen bounds x y) os (map child_of cs)
  all_alike os cs h =
      each_map (λ n. Each (Alike same (seen bounds x y) n) os) child_of cs
      (each_weaker (λ c. Each (Fine c) os) (λ c. Each (Alike same (seen bounds x y) c.child) os)
      (λ c g. each_weaker (Fine c) (Alike same (seen bounds x y) c.child) (λ o f. f.equal) os g) cs h)

  three_parts : (first first' middle middle' last last' : List (List A)) → first ≡ first' → joined bounds x y middle ≡ joined bounds x y middle'
      → last ≡ last' → joined bounds x y (first ++ (middle ++ last)) ≡ joined bounds x y (first' ++ (middle' ++ last'))
  three_parts first first' middle middle' last last' e f g =
      let parts : (a b c : List (List A)) → joined bounds x y (a ++ (b ++ c)) ≡ joined bounds x y a ++ (joined bounds x y b ++ joined bounds x y c) =
      λ a b c. joined-append bounds x y a (b ++ c) ∙ ap (λ (items : List A). joined bounds x y a ++ items) (joined-append bounds x y b c) in
      parts first middle last
      ∙ ((λ i. joined bounds x y (e i) ++ (f i ++ joined bounds x y (g i))) ∙ sym (parts first' middle' last'))

  fine_middle : (s e : ℕ) (os : List (Child A)) (cs : List (Compared A)) → AllFine os cs → AllFine (but_last e (drop s os)) (but_last e (drop s cs))
  fine_middle s e os cs h =
      each_take (λ c. Each (Fine c) (but_last e (drop s os))) (length (drop s cs) - e) (drop s cs)
      (each_drop (λ c. Each (Fine c) (but_last e (drop s os))) s cs
      (each_weaker (λ c. Each (Fine c) os) (λ c. Each (Fine c) (but_last e (drop s os)))
      (λ c g. each_take (Fine c) (length (drop s os) - e) (drop s os) (each_drop (Fine c) s os g)) cs h))

  fine_drop : (s : ℕ) (os : List (Child A)) (cs : List (Compared A)) → AllFine os cs → AllFine (drop s os) (drop s cs)
  fine_drop s os cs h =
      each_drop (λ c. Each (Fine c) (drop s os)) s cs
      (each_weaker (λ c. Each (Fine c) os) (λ c. Each (Fine c) (drop s os)) (λ c g. each_drop (Fine c) s os g) cs h)

  -- with the equal ones at the start and at the end
  level_parts : (s e : ℕ) (os : List (Child A)) (cs : List (Compared A)) → AllFine os cs
      → map (seen bounds x y) (take s os) ≡ map (seen bounds x y) (take s (map child_of cs))
      → map (seen bounds x y) (drop (length (drop s os) - e) (drop s os))
      ≡ map (seen bounds x y) (drop (length (map child_of (drop s cs)) - e) (map child_of (drop s cs)))
      → one_holds (between bounds (but_last e (drop s cs)) (but_last e (drop s os))) x y ≡ false
      → all_seen bounds x y os ≡ all_seen bounds x y (map child_of cs)
  level_parts s e os cs h first last outside =
      let middle = between-goes (but_last e (drop s cs)) (but_last e (drop s os)) (fine_middle s e os cs h) outside in
      let same_drop = drop-map child_of s cs in
      let ends : map (seen bounds x y) (drop (length (drop s os) - e) (drop s os))
      ≡ map (seen bounds x y) (drop (length (drop s (map child_of cs)) - e) (drop s (map child_of cs))) =
      last ∙ ap (λ (ks : List (Child A)). map (seen bounds x y) (drop (length ks - e) ks)) (sym same_drop) in
      let between_them : joined bounds x y (map (seen bounds x y) (but_last e (drop s os)))
      ≡ joined bounds x y (map (seen bounds x y) (but_last e (drop s (map child_of cs)))) =
      middle ∙ ap (λ (ks : List (Child A)). all_seen bounds x y ks)
      (sym (but_last-map child_of e (drop s cs)) ∙ ap (λ (ks : List (Child A)). but_last e ks) (sym same_drop)) in
      ap (λ (ls : List (List A)). joined bounds x y ls) (in_parts (seen bounds x y) s e os)
      ∙ (three_parts _ _ _ _ _ _ first between_them ends ∙ sym (ap (λ (ls : List (List A)). joined bounds x y ls) (in_parts (seen bounds x y) s e (map child_of cs))))

  pub level-goes : (os : List (Child A)) (cs : List (Compared A)) → AllFine os cs → one_holds (level bounds same os cs) x y ≡ false
      → all_seen bounds x y os ≡ all_seen bounds x y (map child_of cs)
  level-goes os cs h outside =
      let s = agreeing same os (map child_of cs) in
      let e = ending same (drop s os) (map child_of (drop s cs)) in
      level_parts s e os cs h
      (agreeing-seen same (seen bounds x y) os (map child_of cs) (all_alike os cs h))
      (ending-seen same (seen bounds x y) (drop s os) (map child_of (drop s cs)) (all_alike (drop s os) (drop s cs) (fine_drop s os cs h)))
      outside
