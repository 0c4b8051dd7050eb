-- The first answer in a list, found by going over the list.
use Rattle.std.proofs.Common.{◌≡◌, ℕ, suc, ◌+◌, ◌++◌, ◌<◌, true, false, List, [], ◌∷◌, drop, drop-cons, get_or, length, map, refl, sym, ap, subst, ◌∙◌, arith}
use Rattle.std.specs.Prelude.{Option, Some, None, Result, Ok, Err, IfOk, is_some, option_map}
use Rattle.std.specs.List.{flat_map}
use Rattle.cl_translate.specs.Choices.{first_answer, or_else}

pub item_here : {X : Type 0} (xs : List X) (i : ℕ) (x : X) → i < length xs → x ≡ get_or xs i x → drop i xs ≡ x ∷ drop (i + 1) xs
item_here xs i x within is =
    let next : suc i ≡ i + 1 = omega arith in
    drop-cons xs i x within ∙ (ap (λ y. y ∷ drop (suc i) xs) (sym is) ∙ ap (λ n. x ∷ drop n xs) next)

pub each_ok : {A E : Type 0} (P Q : A → Type 0) (r : Result A E) → ((a : A) → P a → Q a) → IfOk r P → IfOk r Q
each_ok P Q (Ok a) f h = f a h
each_ok P Q (Err e) f h = h

or_none : {R : Type 0} (a : Option R) → or_else a None ≡ a
or_none None = refl
or_none (Some r) = refl

or_along : {R : Type 0} (a b c : Option R) → or_else (or_else a b) c ≡ or_else a (or_else b c)
or_along None b c = refl
or_along (Some r) b c = refl

module _ {A R : Type 0} (f : A → Option R) where
  -- this is the first answer
  abbrev pub First : List A → Option R → Type 0
  First xs o = o ≡ first_answer f xs

  joined : (xs ys : List A) → first_answer f (xs ++ ys) ≡ or_else (first_answer f xs) (first_answer f ys)
  joined [] ys = refl
  joined (x ∷ xs) ys = ap (λ r. or_else (f x) r) (joined xs ys) ∙ sym (or_along (f x) (first_answer f xs) (first_answer f ys))

  pub none_before : (xs ys : List A) (o : Option R) → First xs None → First ys o → First (xs ++ ys) o
  none_before xs ys o n h = h ∙ (ap (λ r. or_else r (first_answer f ys)) n ∙ sym (joined xs ys))

  pub some_before : (xs ys : List A) (r : R) → First xs (Some r) → First (xs ++ ys) (Some r)
  some_before xs ys r h = ap (λ s. or_else s (first_answer f ys)) h ∙ sym (joined xs ys)

  -- the first of one
  pub of_one : (x : A) (o : Option R) → o ≡ f x → First (x ∷ []) o
  of_one x o h = h ∙ sym (or_none (f x))

  -- what is first of the rest is first of all
  abbrev pub Leads : (rest all : List A) → Type 0
  Leads rest all = (o : Option R) → First rest o → First all o

  -- a part without an answer is passed over
  pub passed : (x rest all : List A) → Leads (x ++ rest) all → First x None → Leads rest all
  passed x rest all leads n o h = leads o (none_before x rest o n h)

  pub found : (x rest all : List A) (r : R) → Leads (x ++ rest) all → First x (Some r) → First all (Some r)
  found x rest all r leads h = leads (Some r) (some_before x rest r h)

  -- ---- over parts

  module _ {X : Type 0} (part : X → List A) (xs : List X) where
    pub part_passed : (i : ℕ) (x : X) → drop i xs ≡ x ∷ drop (i + 1) xs → Leads (flat_map part (drop i xs)) (flat_map part xs) → First (part x) None
        → Leads (flat_map part (drop (i + 1) xs)) (flat_map part xs)
    part_passed i x is leads n =
        passed (part x) (flat_map part (drop (i + 1) xs)) (flat_map part xs) (subst (λ ys. Leads (flat_map part ys) (flat_map part xs)) is leads) n

    pub part_found : (i : ℕ) (x : X) (r : R) → drop i xs ≡ x ∷ drop (i + 1) xs → Leads (flat_map part (drop i xs)) (flat_map part xs) → First (part x) (Some r)
        → First (flat_map part xs) (Some r)
    part_found i x r is leads h =
        found (part x) (flat_map part (drop (i + 1) xs)) (flat_map part xs) r (subst (λ ys. Leads (flat_map part ys) (flat_map part xs)) is leads) h

    pub no_part_left : (i : ℕ) → drop i xs ≡ [] → Leads (flat_map part (drop i xs)) (flat_map part xs) → First (flat_map part xs) None
    no_part_left i is leads = leads None (subst (λ ys. First (flat_map part ys) None) (sym is) refl)

  -- ---- one by one

  pub one_passed : (xs : List A) (i : ℕ) (x : A) → drop i xs ≡ x ∷ drop (i + 1) xs → Leads (drop i xs) xs → First (x ∷ []) None → Leads (drop (i + 1) xs) xs
  one_passed xs i x is leads n = passed (x ∷ []) (drop (i + 1) xs) xs (subst (λ ys. Leads ys xs) is leads) n

  pub one_found : (xs : List A) (i : ℕ) (x : A) (r : R) → drop i xs ≡ x ∷ drop (i + 1) xs → Leads (drop i xs) xs → First (x ∷ []) (Some r) → First xs (Some r)
  one_found xs i x r is leads h = found (x ∷ []) (drop (i + 1) xs) xs r (subst (λ ys. Leads ys xs) is leads) h

  pub none_left : (xs : List A) (i : ℕ) → drop i xs ≡ [] → Leads (drop i xs) xs → First xs None
  none_left xs i is leads = leads None (subst (λ ys. First ys None) (sym is) refl)

mapped_or : {R S : Type 0} (k : R → S) (a b : Option R) → option_map k (or_else a b) ≡ or_else (option_map k a) (option_map k b)
mapped_or k None b = refl
mapped_or k (Some r) b = refl

-- of a list that is made of another, with answers that are made of the others
pub mapped : {A B R S : Type 0} (f : A → Option R) (h : B → Option S) (g : A → B) (k : R → S) → ((x : A) → option_map k (f x) ≡ h (g x)) → (xs : List A)
    → option_map k (first_answer f xs) ≡ first_answer h (map g xs)
mapped f h g k each [] = refl
mapped f h g k each (x ∷ xs) =
    mapped_or k (f x) (first_answer f xs) ∙ (ap (λ r. or_else r (option_map k (first_answer f xs))) (each x) ∙ ap (or_else (h (g x))) (mapped f h g k each xs))

-- the same answers
pub same_answers : {A B R : Type 0} (f : A → Option R) (h : B → Option R) (g : A → B) → ((x : A) → f x ≡ h (g x)) → (xs : List A)
    → first_answer f xs ≡ first_answer h (map g xs)
same_answers f h g each [] = refl
same_answers f h g each (x ∷ xs) = ap (λ r. or_else r (first_answer f xs)) (each x) ∙ ap (or_else (h (g x))) (same_answers f h g each xs)

-- an answer that is there, and one that is not
pub is_none : {V R : Type 0} (f : V → R) (P : Option R → Type 0) (o : Option V) → is_some o ≡ false → P (option_map f o) → P None
is_none f P None e h = h
is_none f P (Some v) e h = cc

pub is_there : {V R : Type 0} (f : V → R) (P Q : Option R → Type 0) (o : Option V) → is_some o ≡ true → ((r : R) → P (Some r) → Q (Some r)) → P (option_map f o)
    → Q (option_map f o)
is_there f P Q None e h p = cc
is_there f P Q (Some v) e h p = h (f v) p
