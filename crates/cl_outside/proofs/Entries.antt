-- From a list of the program to a list of things by name.
use Rattle.std.proofs.Common.{◌≡◌, ℕ, ◌<◌, ◌≤◌, true, false, List, [], ◌∷◌, Some, length, map, get_or, set, ◌++◌, ltb, refl, sym, ap, ◌∙◌, ⊎_elim, arith, MatchOption}
use Rattle.std.proofs.lemmas.Bool.{cases_Bool, cases_lt}
use Rattle.std.proofs.lemmas.Bool.Decides.{nat_tests}
use Rattle.std.proofs.lemmas.List.{get_or-map, length-map, map-set, map_push, get_or-set_same}
use Rattle.std.specs.List.{position, position_or_len}
use Rattle.std.specs.Str.{bytes_eq}
use Rattle.cl_outside.specs.Named.{found, place_in, name_at, updated, IsFirst}
use Rattle.cl_outside.proofs.Tables.{found-place, place_in-le, first_named, name_at-get, set-first, push-updated}

module _ {R X : Type 0} (entry : R → List ℕ × X) where
  pub place_in-map : (xs : List R) (name : List ℕ) → place_in (map entry xs) name ≡ position_or_len (λ x. bytes_eq (entry x).0 name) xs
  place_in-map [] name = refl
  place_in-map (x ∷ xs) name =
      ⊎_elim (λ here. rw here refl) (λ away. rw away (let more = place_in-map xs name in omega arith)) (cases_Bool (bytes_eq (entry x).0 name))

  pub found_position : (xs : List R) (name : List ℕ) → MatchOption (position (λ x. bytes_eq (entry x).0 name) xs) (place_in (map entry xs) name ≡ length (map entry xs))
      (λ k. IsFirst (map entry xs) k × (name_at (map entry xs) k ≡ name))
  found_position xs name =
      let pos : ℕ = position_or_len (λ x. bytes_eq (entry x).0 name) xs in
      let same : place_in (map entry xs) name ≡ pos = place_in-map xs name in
      let long : length (map entry xs) ≡ length xs = length-map xs entry in
      let within : place_in (map entry xs) name ≤ length (map entry xs) = place_in-le (map entry xs) name in
      ⊎_elim (λ (there : pos < length xs). let test : ltb pos (length xs) ≡ true = grind (arith, nat_tests) in rw test (first_named (map entry xs) name pos (sym same) (omega arith)))
      (λ (past : length xs ≤ pos). let test : ltb pos (length xs) ≡ false = grind (arith, nat_tests) in rw test (omega arith))
      (cases_lt pos (length xs))

  pub found_read : (xs : List R) (k : ℕ) (x : R) → IsFirst (map entry xs) k → x ≡ get_or xs k x → found (map entry xs) (name_at (map entry xs) k) ≡ Some (entry x).1
  found_read xs k x at is =
      let name : List ℕ = name_at (map entry xs) k in
      let inside : k < length xs = omega (arith, length-map xs entry, at.below) in
      let there : place_in (map entry xs) name < length (map entry xs) = omega (arith, at.first, at.below) in
      found-place (map entry xs) name (entry x) there ∙ ap (λ n. Some (get_or (map entry xs) n (entry x)).1) at.first
      ∙ ap (λ (e : List ℕ × X). Some e.1) (get_or-map entry xs k x (entry x) inside ∙ ap entry (sym is))

  pub first_below : (xs : List R) (k : ℕ) → IsFirst (map entry xs) k → k < length xs
  first_below xs k at = omega (arith, length-map xs entry, at.below)

  -- one element is written, and keeps its name
  pub entries-set : (xs : List R) (k : ℕ) (x y : R) → IsFirst (map entry xs) k → x ≡ get_or xs k x → (entry y).0 ≡ (entry x).0
      → map entry (set xs k y) ≡ updated (map entry xs) (name_at (map entry xs) k) (entry y).1
  entries-set xs k x y at is same =
      let inside : k < length xs = omega (arith, length-map xs entry, at.below) in
      let name : name_at (map entry xs) k ≡ (entry y).0 =
      name_at-get (map entry xs) k (entry x) at.below ∙ ap (λ (e : List ℕ × X). e.0) (get_or-map entry xs k x (entry x) inside ∙ ap entry (sym is)) ∙ sym same in
      map-set entry xs k y ∙ ap (λ n. set (map entry xs) k (n, (entry y).1)) (sym name) ∙ set-first (map entry xs) (name_at (map entry xs) k) k (entry y).1 at.below at.first

  -- one element is put last
  pub entries-push : (xs : List R) (x : R) → place_in (map entry xs) (entry x).0 ≡ length (map entry xs) → map entry (xs ++ x ∷ []) ≡ updated (map entry xs) (entry x).0 (entry x).1
  entries-push xs x new = map_push entry xs x ∙ push-updated (map entry xs) (entry x).0 (entry x).1 new

-- a number of each element, at one that was read and at one that was written
module _ {R : Type 0} (number : R → ℕ) where
  pub number_read : (xs : List R) (k : ℕ) (x : R) → k < length xs → x ≡ get_or xs k x → get_or (map number xs) k 0 ≡ number x
  number_read xs k x below is = get_or-map number xs k x 0 below ∙ ap number (sym is)

  pub number_written : (xs : List R) (k : ℕ) (y : R) → k < length xs → get_or (map number (set xs k y)) k 0 ≡ number y
  number_written xs k y below =
      ap (λ l. get_or l k 0) (map-set number xs k y) ∙ get_or-set_same (map number xs) k (number y) 0 (omega (arith, length-map xs number))
