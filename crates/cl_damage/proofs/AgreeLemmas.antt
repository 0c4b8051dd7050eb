-- The steps of counting equal children.
use Rattle.std.proofs.Common.{◌≡◌, ℕ, zero, suc, ◌+◌, ◌-◌, ◌<◌, ◌≤◌, Bool, true, false, List, [], ◌∷◌, refl, length, map, reverse, drop, drop-cons, get_or, ◌∙◌, ap, sym, subst, arith, add-one}
use Rattle.std.proofs.lemmas.List.{drop-map, drop_all, get_or-reverse, length-reverse}
use Rattle.std.specs.Prelude.{if◌then◌else◌}
use Rattle.cl_damage.specs.Agreement.{Each}
use Rattle.cl_damage.specs.Children.{Child}
use Rattle.cl_damage.specs.Touched.{agreeing, is_equal}
use Rattle.cl_damage.proofs.EndLemmas.{map-reverse}

module _ {X : Type 0} where
  -- what holds of each holds of the one at an index
  pub each_at : (P : X → Type 0) (xs : List X) (i : ℕ) (x : X) → i < length xs → x ≡ get_or xs i x → Each P xs → P x
  each_at P [] i x h e k = absurd (omega arith)
  each_at P (y ∷ xs) zero x h e k = subst P (sym e) k.0
  each_at P (y ∷ xs) (suc i) x h e k = each_at P xs i x (omega arith) e k.1

  pub next_at : {Y : Type 0} (f : X → Y) (xs : List X) (i : ℕ) (x : X) → i < length xs → x ≡ get_or xs i x
      → drop i (map f xs) ≡ f x ∷ drop (suc i) (map f xs)
  next_at {Y = Y} f xs i x h e =
      drop-map f i xs
      ∙ (ap (λ (ys : List X). map f ys) (drop-cons xs i x h ∙ ap (λ (y : X). y ∷ drop (suc i) xs) (sym e))
      ∙ ap (λ (ys : List Y). f x ∷ ys) (sym (drop-map f (suc i) xs)))

  -- from the last on
  pub next_back : {Y : Type 0} (f : X → Y) (xs : List X) (i j : ℕ) (x : X) → i < length xs → j ≡ length xs - 1 - i → x ≡ get_or xs j x
      → drop i (reverse (map f xs)) ≡ f x ∷ drop (suc i) (reverse (map f xs))
  next_back {Y = Y} f xs i j x h k e =
      let there : x ≡ get_or (reverse xs) i x =
      e ∙ (ap (λ (n : ℕ). get_or xs n x) k ∙ sym (get_or-reverse xs i x h)) in
      let within : i < length (reverse xs) = rw length-reverse h in
      subst (λ (ys : List Y). drop i ys ≡ f x ∷ drop (suc i) ys) (map-reverse f xs) (next_at f (reverse xs) i x within there)

module _ {A : Type 0} (same : A → A → Bool) where
  -- so many are equal, and then those of the rest
  abbrev pub AgreesOn : ℕ → (os ns : List (Child A)) → Type 0
  AgreesOn i os ns = agreeing same os ns ≡ i + agreeing same (drop i os) (drop i ns)

  chosen : (b c : Bool) (m n : ℕ) → c ≡ b → (if b then m else n) ≡ (if c then m else n)
  chosen b c m n e = ap (λ (d : Bool). if d then m else n) (sym e)

  agree_here : (i : ℕ) (os ns : List (Child A)) (o n : Child A) (more others : List (Child A)) → AgreesOn i os ns
      → drop i os ≡ o ∷ more → drop i ns ≡ n ∷ others
      → agreeing same os ns ≡ i + (if is_equal same o n then suc (agreeing same more others) else 0)
  agree_here i os ns o n more others h e f = h ∙ (λ k. i + agreeing same (e k) (f k))

  pub agrees_more : (i : ℕ) (os ns : List (Child A)) (o n : Child A) → AgreesOn i os ns
      → drop i os ≡ o ∷ drop (suc i) os → drop i ns ≡ n ∷ drop (suc i) ns → true ≡ is_equal same o n → AgreesOn (i + 1) os ns
  agrees_more i os ns o n h e f equal =
      let rest = agreeing same (drop (suc i) os) (drop (suc i) ns) in
      let counted : agreeing same os ns ≡ i + suc rest =
      agree_here i os ns o n (drop (suc i) os) (drop (suc i) ns) h e f ∙ ap (λ (m : ℕ). i + m) (chosen (is_equal same o n) true (suc rest) 0 equal) in
      rw (add-one i) (omega (arith, counted))

  pub agrees_no_more : (i : ℕ) (os ns : List (Child A)) (o n : Child A) → AgreesOn i os ns
      → drop i os ≡ o ∷ drop (suc i) os → drop i ns ≡ n ∷ drop (suc i) ns → false ≡ is_equal same o n → i ≡ agreeing same os ns
  agrees_no_more i os ns o n h e f unequal =
      let rest = agreeing same (drop (suc i) os) (drop (suc i) ns) in
      let counted : agreeing same os ns ≡ i + 0 =
      agree_here i os ns o n (drop (suc i) os) (drop (suc i) ns) h e f ∙ ap (λ (m : ℕ). i + m) (chosen (is_equal same o n) false (suc rest) 0 unequal) in
      omega (arith, counted)

  none_new : (os : List (Child A)) → agreeing same os [] ≡ 0
  none_new [] = refl
  none_new (o ∷ os) = refl

  pub agrees_to_new_end : (i : ℕ) (os ns : List (Child A)) → AgreesOn i os ns → length ns ≤ i → i ≡ agreeing same os ns
  agrees_to_new_end i os ns h e =
      let counted : agreeing same os ns ≡ i + 0 =
      h ∙ (ap (λ (ks : List (Child A)). i + agreeing same (drop i os) ks) (drop_all i ns e) ∙ ap (λ (m : ℕ). i + m) (none_new (drop i os))) in
      omega (arith, counted)
