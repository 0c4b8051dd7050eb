-- Names among names, and each name at its first occurrence.
use Rattle.std.proofs.Common.{◌≡◌, ◌++◌, Bool, true, false, cond, not, ℕ, List, [], ◌∷◌, Option, Some, None, refl, sym, ap, ◌∙◌, subst}
use Rattle.std.specs.Prelude.{is_some, ◌||◌, filter, All}
use Rattle.std.specs.Str.{bytes_eq}
use Rattle.std.proofs.lemmas.List.Elements.{All-head, All-tail}
use Rattle.std.proofs.lemmas.Cmp.{nat_list_eq_equiv}
use Rattle.std.proofs.lemmas.Slice.Eq.{bytes_eq-Decides}
use Rattle.cl_table.specs.Names.{named}
use Rattle.cl_tables.specs.Inheritance.{is_among, is_other, firsts}

pub same_name : (x y : List ℕ) → bytes_eq x y ≡ true → x ≡ y
same_name x y h = (bytes_eq-Decides x y).0 h

pub own_name : (x : List ℕ) → bytes_eq x x ≡ true
own_name x = (bytes_eq-Decides x x).1 refl

or_cases : (a b c : Bool) → ((a || b) || c) ≡ (a || (b || c))
or_cases true b c = refl
or_cases false b c = refl

or_false : (a : Bool) → (a || false) ≡ a
or_false true = refl
or_false false = refl

pub is_among-append : (x : List ℕ) (xs ys : List (List ℕ)) → is_among x (xs ++ ys) ≡ (is_among x xs || is_among x ys)
is_among-append x [] ys = refl
is_among-append x (y ∷ xs) ys = ap (λ b. bytes_eq x y || b) (is_among-append x xs ys) ∙ sym (or_cases (bytes_eq x y) (is_among x xs) (is_among x ys))

pub among_left : (x : List ℕ) (xs ys : List (List ℕ)) → is_among x xs ≡ true → is_among x (xs ++ ys) ≡ true
among_left x xs ys h = is_among-append x xs ys ∙ ap (λ b. b || is_among x ys) h

right : (a b : Bool) → b ≡ true → (a || b) ≡ true
right true b h = refl
right false b h = h

pub among_right : (x : List ℕ) (xs ys : List (List ℕ)) → is_among x ys ≡ true → is_among x (xs ++ ys) ≡ true
among_right x xs ys h = is_among-append x xs ys ∙ right (is_among x xs) (is_among x ys) h

pub among_head : (x : List ℕ) (xs : List (List ℕ)) → is_among x (x ∷ xs) ≡ true
among_head x xs = ap (λ b. b || is_among x xs) (own_name x)

pub among_tail : (x y : List ℕ) (xs : List (List ℕ)) → is_among x xs ≡ true → is_among x (y ∷ xs) ≡ true
among_tail x y xs h = right (bytes_eq x y) (is_among x xs) h

-- what is in a table by name, and one more
pub has_last : {D : Type 0} (x : List ℕ) (e : List ℕ × D) (es : List (List ℕ × D)) → is_some (named x (es ++ e ∷ [])) ≡ (is_some (named x es) || bytes_eq x e.0)
has_last x e [] = by (bytes_eq x e.0)
  where
    by : (b : Bool) → is_some (cond b (Some e.1) None) ≡ b
    by true = refl
    by false = refl
has_last {D} x e (f ∷ es) = by (bytes_eq x f.0) (named x (es ++ e ∷ [])) (named x es) (has_last x e es)
  where
    by : (b : Bool) (o p : Option D) → is_some o ≡ (is_some p || bytes_eq x e.0) → is_some (cond b (Some f.1) o) ≡ (is_some (cond b (Some f.1) p) || bytes_eq x e.0)
    by true o p h = refl
    by false o p h = h

pub is_among-last : (x y : List ℕ) (xs : List (List ℕ)) → is_among x (xs ++ y ∷ []) ≡ (is_among x xs || bytes_eq x y)
is_among-last x y xs = is_among-append x xs (y ∷ []) ∙ ap (λ b. is_among x xs || b) (or_false (bytes_eq x y))

-- ---- each name at its first occurrence

-- the names that are not among those that were seen, each at its first occurrence
abbrev pub unseen : List (List ℕ) → List (List ℕ) → List (List ℕ)
unseen seen xs = filter (λ y. not (is_among y seen)) (firsts xs)

pub unseen-nil : (xs : List (List ℕ)) → unseen [] xs ≡ firsts xs
unseen-nil xs = all (firsts xs)
  where
    all : (ys : List (List ℕ)) → filter (λ y. not (is_among y [])) ys ≡ ys
    all [] = refl
    all (y ∷ ys) = ap (λ zs. y ∷ zs) (all ys)

known : (x y : List ℕ) (seen : List (List ℕ)) → is_among x seen ≡ true → bytes_eq x y ≡ true → is_among y seen ≡ true
known x y seen h e = subst (λ z. is_among z seen ≡ true) (same_name x y e) h

-- those that were seen are left out, whether those that equal one of them were left out before or not
filter-seen : (x : List ℕ) (seen ys : List (List ℕ)) → is_among x seen ≡ true
    → filter (λ y. not (is_among y seen)) (filter (is_other x) ys) ≡ filter (λ y. not (is_among y seen)) ys
filter-seen x seen [] h = refl
filter-seen x seen (y ∷ ys) h = by (bytes_eq x y) (is_among y seen) refl refl (filter-seen x seen ys h)
  where
    kept : List (List ℕ) → List (List ℕ)
    kept zs = filter (λ z. not (is_among z seen)) zs

    by : (b c : Bool) → bytes_eq x y ≡ b → is_among y seen ≡ c → kept (filter (is_other x) ys) ≡ kept ys
        → kept (cond (not (bytes_eq x y)) (y ∷ filter (is_other x) ys) (filter (is_other x) ys)) ≡ cond (not (is_among y seen)) (y ∷ kept ys) (kept ys)
    by true true e f rest = rw (e, f) rest
    by true false e f rest = let no : true ≡ false = sym (known x y seen h e) ∙ f in cc
    by false true e f rest = rw e (rw f rest)
    by false false e f rest = rw e (rw f (ap (λ zs. y ∷ zs) rest))

-- a name that was seen is left out
pub unseen-seen : (x : List ℕ) (seen xs : List (List ℕ)) → is_among x seen ≡ true → unseen seen (x ∷ xs) ≡ unseen seen xs
unseen-seen x seen xs h =
    ap (λ b. cond (not b) (x ∷ filter (λ y. not (is_among y seen)) (filter (is_other x) (firsts xs))) (filter (λ y. not (is_among y seen)) (filter (is_other x) (firsts xs)))) h
    ∙ filter-seen x seen (firsts xs) h

-- and so is one that was not seen until now
filter-new : (x : List ℕ) (seen ys : List (List ℕ))
    → filter (λ y. not (is_among y seen)) (filter (is_other x) ys) ≡ filter (λ y. not (is_among y (seen ++ x ∷ []))) ys
filter-new x seen [] = refl
filter-new x seen (y ∷ ys) = by (bytes_eq x y) refl (filter-new x seen ys)
  where
    kept : List (List ℕ) → List (List ℕ)
    kept zs = filter (λ z. not (is_among z seen)) zs

    left : List (List ℕ) → List (List ℕ)
    left zs = filter (λ z. not (is_among z (seen ++ x ∷ []))) zs

    other : bytes_eq x y ≡ false → is_among y (seen ++ x ∷ []) ≡ is_among y seen
    other e = is_among-last y x seen ∙ ap (λ b. is_among y seen || b) (nat_list_eq_equiv.symm y x ∙ e) ∙ or_false (is_among y seen)

    same : bytes_eq x y ≡ true → is_among y (seen ++ x ∷ []) ≡ true
    same e = is_among-last y x seen ∙ right (is_among y seen) (bytes_eq y x) (nat_list_eq_equiv.symm y x ∙ e)

    by : (b : Bool) → bytes_eq x y ≡ b → kept (filter (is_other x) ys) ≡ left ys
        → kept (cond (not (bytes_eq x y)) (y ∷ filter (is_other x) ys) (filter (is_other x) ys)) ≡ cond (not (is_among y (seen ++ x ∷ []))) (y ∷ left ys) (left ys)
    by true e rest = rw (e, same e) rest
    by false e rest = rw (e, other e) (ap (λ zs. cond (not (is_among y seen)) (y ∷ zs) zs) rest)

pub unseen-new : (x : List ℕ) (seen xs : List (List ℕ)) → is_among x seen ≡ false → unseen seen (x ∷ xs) ≡ x ∷ unseen (seen ++ x ∷ []) xs
unseen-new x seen xs h =
    ap (λ b. cond (not b) (x ∷ filter (λ y. not (is_among y seen)) (filter (is_other x) (firsts xs))) (filter (λ y. not (is_among y seen)) (filter (is_other x) (firsts xs)))) h
    ∙ ap (λ zs. x ∷ zs) (filter-new x seen (firsts xs))

-- names that were all seen are left out
pub unseen-all_seen : (seen xs ys : List (List ℕ)) → All (λ x. is_among x seen ≡ true) xs → unseen seen (xs ++ ys) ≡ unseen seen ys
unseen-all_seen seen [] ys h = refl
unseen-all_seen seen (x ∷ xs) ys h =
    unseen-seen x seen (xs ++ ys) (All-head (λ z. is_among z seen ≡ true) x xs h)
    ∙ unseen-all_seen seen xs ys (All-tail (λ z. is_among z seen ≡ true) x xs h)
