-- The place of the last update of a name, from the next one on.
use Rattle.std.proofs.Common.{◌≡◌, ℕ, zero, suc, ◌+◌, ◌<◌, Bool, true, false, List, [], ◌∷◌, ◌++◌, refl, length, drop, get_or, map, take, ap, sym, ◌∙◌, subst, arith, Option, Some, None, option_map}
use Rattle.std.proofs.lemmas.Bool.Decides.{nat_tests}
use Rattle.std.proofs.lemmas.List.{length-map, length-take-le, map-append, take_more}
use Rattle.std.specs.Prelude.{if◌then◌else◌, nat_le}
use Rattle.cl_value.specs.Data.{Data}
use Rattle.cl_syntax.specs.declared.sites.Site.{Site}
use Rattle.cl_damage.specs.Children.{Child, has_name}
use Rattle.cl_damage.specs.Places.{IsNext, last_place, not_before, or_place, place_here}
use Rattle.cl_damage.specs.Touched.{Partner, found_after, found_here, last_named, or_else}

-- one child more at the end
push_step : (b c : Bool) (n : ℕ) (o p : Option ℕ) → o ≡ (if b then Some n else p)
    → or_place (option_map suc o) (place_here c) ≡ (if b then Some (suc n) else or_place (option_map suc p) (place_here c))
push_step true c n o p e = ap (λ (q : Option ℕ). or_place (option_map suc q) (place_here c)) e
push_step false c n o p e = ap (λ (q : Option ℕ). or_place (option_map suc q) (place_here c)) e

only_here : (b : Bool) → place_here b ≡ (if b then Some 0 else None)
only_here true = refl
only_here false = refl

at_least_none : (n : ℕ) → nat_le 0 n ≡ true
at_least_none n = grind (arith, nat_tests)

none_at_least : (m : ℕ) → nat_le (suc m) 0 ≡ false
none_at_least m = grind (arith, nat_tests)

both_more : (m n : ℕ) → nat_le (suc m) (suc n) ≡ nat_le m n
both_more m n = grind (arith, nat_tests)

from_start : (r : Option ℕ) → not_before 0 r ≡ r
from_start None = refl
from_start (Some n) = ap (λ (b : Bool). if b then Some n else None) (at_least_none n)

-- one child more at the start
later_step : (b : Bool) (n : ℕ) → (if b then Some (suc n) else None) ≡ option_map suc (if b then Some n else None)
later_step true n = refl
later_step false n = refl

later : (m : ℕ) (r : Option ℕ) (b : Bool) → not_before (suc m) (or_place (option_map suc r) (place_here b)) ≡ option_map suc (not_before m r)
later m None true = ap (λ (b : Bool). if b then Some 0 else None) (none_at_least m)
later m None false = refl
later m (Some n) b = ap (λ (a : Bool). if a then Some (suc n) else None) (both_more m n) ∙ later_step (nat_le m n) n

module _ {A : Type 0} where
  pub last_place-push : (name : Site × Data) (os : List (Child A)) (o : Child A)
      → last_place name (os ++ o ∷ []) ≡ (if has_name name o then Some (length os) else last_place name os)
  last_place-push name [] o = only_here (has_name name o)
  last_place-push name (p ∷ os) o = push_step (has_name name o) (has_name name p) (length os) _ (last_place name os) (last_place-push name os o)

  start_step : (os : List (Child A)) (o : Child A) (p : Option (Partner A)) (r : Option ℕ) (b : Bool) → IsNext 0 os p r
      → IsNext 0 (o ∷ os) (or_else (found_after o p) (found_here b o os)) (or_place (option_map suc r) (place_here b))
  start_step os o None None true h = record { from = omega arith; within = omega arith; front = refl; there = refl }
  start_step os o None None false h = tt
  start_step os o None (Some n) b h = absurd h
  start_step os o (Some p) None b h = absurd h
  start_step os o (Some p) (Some n) b h = record {
    from = omega arith;
    within = omega (arith, h.within);
    front = ap (λ (ks : List (Child A)). o ∷ ks) h.front;
    there = h.there;
  }

  later_next : (m : ℕ) (os : List (Child A)) (o : Child A) (p : Option (Partner A)) (r : Option ℕ) → IsNext m os p r
      → IsNext (suc m) (o ∷ os) p (option_map suc r)
  later_next m os o None None h = tt
  later_next m os o None (Some n) h = absurd h
  later_next m os o (Some p) None h = absurd h
  later_next m os o (Some p) (Some n) h = record {
    from = omega (arith, h.from);
    within = omega (arith, h.within);
    front = h.front;
    there = h.there;
  }

  pub named-next : (name : Site × Data) (next : ℕ) (os : List (Child A)) → IsNext next os (last_named name (drop next os)) (not_before next (last_place name os))
  named-next name zero [] = tt
  named-next name (suc m) [] = tt
  named-next name zero (o ∷ os) =
      let rest = subst (λ (r : Option ℕ). IsNext 0 os (last_named name os) r) (from_start (last_place name os)) (named-next name 0 os) in
      subst (λ (r : Option ℕ). IsNext 0 (o ∷ os) (last_named name (o ∷ os)) r) (sym (from_start (last_place name (o ∷ os))))
      (start_step os o (last_named name os) (last_place name os) (has_name name o) rest)
  named-next name (suc m) (o ∷ os) =
      subst (λ (r : Option ℕ). IsNext (suc m) (o ∷ os) (last_named name (drop m os)) r) (sym (later m (last_place name os) (has_name name o)))
      (later_next m os o (last_named name (drop m os)) (not_before m (last_place name os)) (named-next name m os))

  -- what is known of the children before one, and of it
  pub last_place-next : {X : Type 0} (see : X → Child A) (name : Site × Data) (xs : List X) (i : ℕ) (x : X) (was : Option ℕ) → i < length xs → x ≡ get_or xs i x
      → was ≡ last_place name (map see (take i xs))
      → (if has_name name (see x) then Some i else was) ≡ last_place name (map see (take (i + 1) xs))
  last_place-next {X = X} see name xs i x was h e f =
      let before = map see (take i xs) in
      let count : length before ≡ i = length-map (take i xs) see ∙ length-take-le i xs (omega arith) in
      let more : map see (take (i + 1) xs) ≡ before ++ see x ∷ [] =
      ap (λ (ys : List X). map see ys) (take_more xs i x h ∙ ap (λ (y : X). take i xs ++ y ∷ []) (sym e)) ∙ map-append see (take i xs) (x ∷ []) in
      sym (ap (λ (os : List (Child A)). last_place name os) more ∙ (last_place-push name before (see x)
      ∙ (λ k. if has_name name (see x) then Some (count k) else sym f k)))
