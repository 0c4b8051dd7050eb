-- Equal children at the start and at the end.
use Rattle.std.proofs.Common.{◌≡◌, ℕ, suc, ◌-◌, Bool, true, false, List, [], ◌∷◌, ◌++◌, refl, ◌∙◌, ap, sym, subst}
use Rattle.std.proofs.lemmas.List.{drop_at, length-drop, length-reverse, map-append, reverse-append, reverse-reverse, take-append-drop}
use Rattle.std.specs.Prelude.{if◌then◌else◌, length, map, reverse, take, drop}
use Rattle.cl_damage.specs.Agreement.{Each}
use Rattle.cl_damage.specs.Children.{Child}
use Rattle.cl_damage.specs.Touched.{agreeing, ending, is_equal}
use Rattle.cl_damage.proofs.EachLemmas.{each_both, each_weaker}

module _ {A B : Type 0} (same : A → A → Bool) (see : Child A → B) where
  -- two children that are equal are seen as the same
  abbrev pub Alike : Child A → Child A → Type 0
  Alike n o = is_equal same o n ≡ true → see o ≡ see n

  -- each new one with each old one
  abbrev pub AllAlike : (old new : List (Child A)) → Type 0
  AllAlike os ns = Each (λ n. Each (Alike n) os) ns

  agree_step : (b : Bool) (k : ℕ) (o n : Child A) (os ns : List (Child A)) → (b ≡ true → see o ≡ see n)
      → map see (take k os) ≡ map see (take k ns)
      → map see (take (if b then suc k else 0) (o ∷ os)) ≡ map see (take (if b then suc k else 0) (n ∷ ns))
  agree_step false k o n os ns f e = refl
  agree_step true k o n os ns f e =
      let first : see o ≡ see n = f refl in
      λ i. first i ∷ e i

  alike_rest : (o : Child A) (os : List (Child A)) (ns : List (Child A)) → AllAlike (o ∷ os) ns → AllAlike os ns
  alike_rest o os ns h = each_weaker (λ n. Each (Alike n) (o ∷ os)) (λ n. Each (Alike n) os) (λ n g. g.1) ns h

  pub agreeing-seen : (os ns : List (Child A)) → AllAlike os ns
      → map see (take (agreeing same os ns) os) ≡ map see (take (agreeing same os ns) ns)
  agreeing-seen [] [] h = refl
  agreeing-seen [] (n ∷ ns) h = refl
  agreeing-seen (o ∷ os) [] h = refl
  agreeing-seen (o ∷ os) (n ∷ ns) h =
      agree_step (is_equal same o n) (agreeing same os ns) o n os ns h.0.0 (agreeing-seen os ns (alike_rest o os ns h.1))

module _ {A : Type 0} where
  -- the last of a list are the first of the list from the back
  from_the_back : (n : ℕ) (xs : List A) → drop (length xs - n) (reverse xs) ≡ reverse (take n xs)
  from_the_back n xs =
      let parts : reverse xs ≡ reverse (drop n xs) ++ reverse (take n xs) =
      ap (λ (ks : List A). reverse ks) (sym (take-append-drop n xs)) ∙ reverse-append (take n xs) (drop n xs) in
      ap (λ (ks : List A). drop (length xs - n) ks) parts
      ∙ drop_at (reverse (drop n xs)) (reverse (take n xs)) (length xs - n) (length-reverse (drop n xs) ∙ length-drop n xs)

  pub drop_reverse : (n : ℕ) (xs : List A) → drop (length xs - n) xs ≡ reverse (take n (reverse xs))
  drop_reverse n xs =
      ap (λ (k : ℕ). drop (k - n) xs) (sym (length-reverse xs))
      ∙ (ap (λ (ks : List A). drop (length (reverse xs) - n) ks) (sym (reverse-reverse xs)) ∙ from_the_back n (reverse xs))

  pub each_reverse : (P : A → Type 0) (xs : List A) → Each P xs → Each P (reverse xs)
  each_reverse P [] h = tt
  each_reverse P (x ∷ xs) h =
      subst (λ (ks : List A). Each P ks) (sym (reverse-append (x ∷ []) xs)) (each_both P (reverse xs) (x ∷ []) (each_reverse P xs h.1) (h.0, tt))

  pub map-reverse : {B : Type 0} (f : A → B) (xs : List A) → map f (reverse xs) ≡ reverse (map f xs)
  map-reverse {B = B} f [] = refl
  map-reverse {B = B} f (x ∷ xs) =
      ap (λ (ks : List A). map f ks) (reverse-append (x ∷ []) xs)
      ∙ (map-append f (reverse xs) (x ∷ []) ∙ (ap (λ (ks : List B). ks ++ f x ∷ []) (map-reverse f xs) ∙ sym (reverse-append (f x ∷ []) (map f xs))))

module _ {A B : Type 0} (same : A → A → Bool) (see : Child A → B) where
  each_back : (os ns : List (Child A)) → AllAlike same see os ns → AllAlike same see (reverse os) (reverse ns)
  each_back os ns h =
      each_reverse (λ n. Each (Alike same see n) (reverse os)) ns
      (each_weaker (λ n. Each (Alike same see n) os) (λ n. Each (Alike same see n) (reverse os)) (λ n g. each_reverse (Alike same see n) os g) ns h)

  seen_back : (n : ℕ) (ks : List (Child A)) → map see (drop (length ks - n) ks) ≡ reverse (map see (take n (reverse ks)))
  seen_back n ks = ap (λ (js : List (Child A)). map see js) (drop_reverse n ks) ∙ map-reverse see (take n (reverse ks))

  pub ending-seen : (os ns : List (Child A)) → AllAlike same see os ns
      → map see (drop (length os - ending same os ns) os) ≡ map see (drop (length ns - ending same os ns) ns)
  ending-seen os ns h =
      let n = ending same os ns in
      let middle : map see (take n (reverse os)) ≡ map see (take n (reverse ns)) =
      agreeing-seen same see (reverse os) (reverse ns) (each_back os ns h) in
      seen_back n os ∙ (ap (λ (bs : List B). reverse bs) middle ∙ sym (seen_back n ns))
