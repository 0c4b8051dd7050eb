-- What a change to a list of things by name changes.
use Rattle.std.proofs.Common.{◌≡◌, ℕ, zero, suc, ◌<◌, ◌≤◌, true, false, cond, List, [], ◌∷◌, ◌++◌, Some, None, length, set, get_or, refl, sym, ap, ◌∙◌, ⊎_elim, arith, unwrap_or}
use Rattle.std.proofs.lemmas.Bool.{cases_Bool}
use Rattle.std.proofs.lemmas.Slice.Eq.{bytes_eq-Decides}
use Rattle.std.specs.Str.{bytes_eq}
use Rattle.cl_outside.specs.Named.{found, place_in, name_at, updated, IsFirst}

pub same_name : (a b : List ℕ) → bytes_eq a b ≡ true → a ≡ b
same_name a b = (bytes_eq-Decides a b).0

pub bytes_eq-refl : (a : List ℕ) → bytes_eq a a ≡ true
bytes_eq-refl a = (bytes_eq-Decides a a).1 refl

pub bytes_eq-other : (a b : List ℕ) → (a ≡ b → ⊥) → bytes_eq a b ≡ false
bytes_eq-other a b h = ⊎_elim (λ yes. absurd (h (same_name a b yes))) (λ no. no) (cases_Bool (bytes_eq a b))

module _ {X : Type 0} where
  pub found-updated : (es : List (List ℕ × X)) (n m : List ℕ) (v : X) → found (updated es n v) m ≡ cond (bytes_eq n m) (Some v) (found es m)
  found-updated [] n m v = refl
  found-updated (e ∷ es) n m v =
      ⊎_elim (λ here. rw here (rw (same_name e.0 n here) (⊎_elim (λ y. rw y refl) (λ z. rw z refl) (cases_Bool (bytes_eq n m)))))
      (λ away. rw away (rw (found-updated es n m v) (
      ⊎_elim (λ y. rw y (⊎_elim (λ z. absurd (let same : bytes_eq e.0 n ≡ true = rw (same_name e.0 m y ∙ sym (same_name n m z)) (bytes_eq-refl n) in cc)) (λ z. rw z refl) (cases_Bool (bytes_eq n m))))
      (λ y. rw y refl) (cases_Bool (bytes_eq e.0 m)))))
      (cases_Bool (bytes_eq e.0 n))

  -- a write at the first place of its name
  pub set-first : (es : List (List ℕ × X)) (n : List ℕ) (k : ℕ) (v : X) → k < length es → place_in es n ≡ k → set es k (name_at es k, v) ≡ updated es n v
  set-first [] n k v below at = absurd (omega arith)
  set-first (e ∷ es) n zero v below at =
      ⊎_elim (λ here. rw here refl) (λ away. absurd (let p : suc (place_in es n) ≡ 0 = rw away at at in omega arith)) (cases_Bool (bytes_eq e.0 n))
  set-first (e ∷ es) n (suc k) v below at =
      ⊎_elim (λ here. absurd (let p : 0 ≡ suc k = rw here at at in omega arith))
      (λ away. let p : suc (place_in es n) ≡ suc k = rw away at at in rw away (ap (λ l. e ∷ l) (set-first es n k v (omega arith) (omega arith))))
      (cases_Bool (bytes_eq e.0 n))

  -- a new name stands last
  pub push-updated : (es : List (List ℕ × X)) (n : List ℕ) (v : X) → place_in es n ≡ length es → es ++ (n, v) ∷ [] ≡ updated es n v
  push-updated [] n v at = refl
  push-updated (e ∷ es) n v at =
      ⊎_elim (λ here. absurd (let p : 0 ≡ suc (length es) = rw here at at in omega arith))
      (λ away. let p : suc (place_in es n) ≡ suc (length es) = rw away at at in rw away (ap (λ l. e ∷ l) (push-updated es n v (omega arith))))
      (cases_Bool (bytes_eq e.0 n))

  pub name_at-updated : (es : List (List ℕ × X)) (n : List ℕ) (v : X) (k : ℕ) → k < length es → name_at (updated es n v) k ≡ name_at es k
  name_at-updated [] n v k below = absurd (omega arith)
  name_at-updated (e ∷ es) n v zero below = ⊎_elim (λ here. rw here refl) (λ away. rw away refl) (cases_Bool (bytes_eq e.0 n))
  name_at-updated (e ∷ es) n v (suc k) below = ⊎_elim (λ here. rw here refl) (λ away. rw away (name_at-updated es n v k (omega arith))) (cases_Bool (bytes_eq e.0 n))

  pub place_in-updated : (es : List (List ℕ × X)) (n : List ℕ) (v : X) (m : List ℕ) → place_in es m < length es → place_in (updated es n v) m ≡ place_in es m
  place_in-updated [] n v m below = absurd (omega arith)
  place_in-updated (e ∷ es) n v m below =
      ⊎_elim (λ here. rw here refl)
      (λ away. rw away (⊎_elim (λ y. rw y refl)
      (λ z. let p : suc (place_in es m) < suc (length es) = rw z at below in rw z (ap suc (place_in-updated es n v m (omega arith))))
      (cases_Bool (bytes_eq e.0 m))))
      (cases_Bool (bytes_eq e.0 n))

  pub place_in-updated_same : (es : List (List ℕ × X)) (n : List ℕ) (v : X) → place_in (updated es n v) n ≡ place_in es n
  place_in-updated_same [] n v = rw (bytes_eq-refl n) refl
  place_in-updated_same (e ∷ es) n v =
      ⊎_elim (λ here. rw here (rw here refl)) (λ away. rw away (rw away (ap suc (place_in-updated_same es n v)))) (cases_Bool (bytes_eq e.0 n))

  pub place_in-le : (es : List (List ℕ × X)) (n : List ℕ) → place_in es n ≤ length es
  place_in-le [] n = omega arith
  place_in-le (e ∷ es) n = ⊎_elim (λ here. rw here (omega arith)) (λ away. rw away (let p = place_in-le es n in omega arith)) (cases_Bool (bytes_eq e.0 n))

  pub place_in-updated_below : (es : List (List ℕ × X)) (n : List ℕ) (v : X) → place_in (updated es n v) n < length (updated es n v)
  place_in-updated_below [] n v = rw (bytes_eq-refl n) (omega arith)
  place_in-updated_below (e ∷ es) n v =
      ⊎_elim (λ here. rw here (rw here (omega arith))) (λ away. rw away (rw away (let p = place_in-updated_below es n v in omega arith))) (cases_Bool (bytes_eq e.0 n))

  pub name_at-place : (es : List (List ℕ × X)) (n : List ℕ) → place_in es n < length es → name_at es (place_in es n) ≡ n
  name_at-place [] n below = absurd (omega arith)
  name_at-place (e ∷ es) n below =
      ⊎_elim (λ here. rw here (same_name e.0 n here))
      (λ away. let p : suc (place_in es n) < suc (length es) = rw away at below in rw away (name_at-place es n (omega arith)))
      (cases_Bool (bytes_eq e.0 n))

  pub found-none : (es : List (List ℕ × X)) (n : List ℕ) → place_in es n ≡ length es → found es n ≡ None
  found-none [] n at = refl
  found-none (e ∷ es) n at =
      ⊎_elim (λ here. absurd (let p : 0 ≡ suc (length es) = rw here at at in omega arith))
      (λ away. let p : suc (place_in es n) ≡ suc (length es) = rw away at at in rw away (found-none es n (omega arith)))
      (cases_Bool (bytes_eq e.0 n))

  pub found-place : (es : List (List ℕ × X)) (n : List ℕ) (d : List ℕ × X) → place_in es n < length es → found es n ≡ Some (get_or es (place_in es n) d).1
  found-place [] n d below = absurd (omega arith)
  found-place (e ∷ es) n d below =
      ⊎_elim (λ here. rw here refl)
      (λ away. let p : suc (place_in es n) < suc (length es) = rw away at below in rw away (found-place es n d (omega arith)))
      (cases_Bool (bytes_eq e.0 n))

  pub length-updated : (es : List (List ℕ × X)) (n : List ℕ) (v : X) → length es ≤ length (updated es n v)
  length-updated [] n v = omega arith
  length-updated (e ∷ es) n v = ⊎_elim (λ here. rw here (omega arith)) (λ away. rw away (let p = length-updated es n v in omega arith)) (cases_Bool (bytes_eq e.0 n))

  pub name_at-get : (es : List (List ℕ × X)) (k : ℕ) (d : List ℕ × X) → k < length es → name_at es k ≡ (get_or es k d).0
  name_at-get [] k d below = absurd (omega arith)
  name_at-get (e ∷ es) zero d below = refl
  name_at-get (e ∷ es) (suc k) d below = name_at-get es k d (omega arith)

  -- the place of a name is the first of that name
  pub first_named : (es : List (List ℕ × X)) (n : List ℕ) (k : ℕ) → k ≡ place_in es n → k < length es → IsFirst es k × (name_at es k ≡ n)
  first_named es n k at below =
      let there : place_in es n < length es = omega arith in
      let named : name_at es k ≡ n = ap (name_at es) at ∙ name_at-place es n there in
      (record { below = below; first = ap (place_in es) named ∙ sym at }, named)

  -- a place stays the first of its name
  pub IsFirst-updated : (es : List (List ℕ × X)) (n : List ℕ) (v : X) (k : ℕ) → IsFirst es k → IsFirst (updated es n v) k
  IsFirst-updated es n v k is =
      let there : place_in es (name_at es k) < length es = omega (arith, is.first, is.below) in
      record {
        below = omega (arith, length-updated es n v, is.below);
        first = ap (place_in (updated es n v)) (name_at-updated es n v k is.below) ∙ place_in-updated es n v (name_at es k) there ∙ is.first;
      }

  -- the place of a name that was given something
  pub first_updated : (es : List (List ℕ × X)) (n : List ℕ) (v : X) (k : ℕ) → k ≡ place_in es n → IsFirst (updated es n v) k × (name_at (updated es n v) k ≡ n)
  first_updated es n v k at =
      let same : k ≡ place_in (updated es n v) n = at ∙ sym (place_in-updated_same es n v) in
      first_named (updated es n v) n k same (let p = place_in-updated_below es n v in omega arith)

  -- a thing that is given what it has
  pub updated_found : (es : List (List ℕ × X)) (n : List ℕ) (d : X) → place_in es n < length es → updated es n (unwrap_or (found es n) d) ≡ es
  updated_found [] n d below = absurd (omega arith)
  updated_found (e ∷ es) n d below =
      ⊎_elim (λ here. rw here refl)
      (λ away. let p : suc (place_in es n) < suc (length es) = rw away at below in rw away (ap (λ l. e ∷ l) (updated_found es n d (omega arith))))
      (cases_Bool (bytes_eq e.0 n))

  pub updated-updated : (es : List (List ℕ × X)) (n : List ℕ) (v w : X) → updated (updated es n v) n w ≡ updated es n w
  updated-updated [] n v w = rw (bytes_eq-refl n) refl
  updated-updated (e ∷ es) n v w =
      ⊎_elim (λ here. rw here (rw here refl)) (λ away. rw away (rw away (ap (λ l. e ∷ l) (updated-updated es n v w)))) (cases_Bool (bytes_eq e.0 n))

  pub found-updated_same : (es : List (List ℕ × X)) (n : List ℕ) (v : X) → found (updated es n v) n ≡ Some v
  found-updated_same es n v = found-updated es n n v ∙ rw (bytes_eq-refl n) refl

  pub found-updated_other : (es : List (List ℕ × X)) (n m : List ℕ) (v : X) → (n ≡ m → ⊥) → found (updated es n v) m ≡ found es m
  found-updated_other es n m v h = found-updated es n m v ∙ rw (bytes_eq-other n m h) refl

  -- a place that is the first of its name has something
  pub found_first : (es : List (List ℕ × X)) (k : ℕ) → IsFirst es k → found es (name_at es k) ≡ None → ⊥
  found_first es k at none =
      let there : place_in es (name_at es k) < length es = omega (arith, at.first, at.below) in
      elim es as (λ l. place_in l (name_at es k) < length l → found l (name_at es k) ≡ None → ⊥) [
        | [] ↦ λ below e. absurd (omega arith)
        | e ∷ rest ↦ λ below no.
            let some = found-place (e ∷ rest) (name_at es k) e below in cc
      ] there none
