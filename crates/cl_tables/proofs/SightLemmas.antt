-- What a table sees, by its indexes.
use Rattle.std.proofs.Common.{◌≡◌, ◌≤◌, ◌<◌, ◌+◌, Bool, true, false, cond, ℕ, List, [], ◌∷◌, length, get_or, take, Option, Some, None, refl, subst, arith}
use Rattle.std.specs.Prelude.{is_some, option_map, ◌||◌, find}
use Rattle.std.specs.List.{list_any}
use Rattle.std.proofs.lemmas.List.Elements.{All-weaker, All-more}
use Rattle.cl_tables.specs.Indexes.{AreWithin}
use Rattle.cl_tables.specs.declared.declarations.CommandPlace.{CommandPlace}

pub some_map : {A B : Type 0} (f : A → B) (o : Option A) → is_some (option_map f o) ≡ is_some o
some_map f None = refl
some_map f (Some a) = refl

pub any_found : {A : Type 0} (p : A → Bool) (xs : List A) → list_any p xs ≡ is_some (find p xs)
any_found p [] = refl
any_found {A} p (x ∷ xs) = by (p x) (any_found p xs)
  where
    by : (b : Bool) → list_any p xs ≡ is_some (find p xs) → (b || list_any p xs) ≡ is_some (cond b (Some x) (find p xs))
    by true rest = refl
    by false rest = rest

-- ---- names within a length

pub longer : (commands : List CommandPlace) (most more : ℕ) → most ≤ more → AreWithin most commands → AreWithin more commands
longer commands most more l h = All-weaker (λ c. length c.line_name ≤ most) (λ c. length c.line_name ≤ more) (λ c k. omega (arith, l, k)) commands h

pub within_more : (commands : List CommandPlace) (place most more : ℕ) (c : CommandPlace) → place < length commands → c ≡ get_or commands place c
    → most ≤ more → length c.line_name ≤ more → AreWithin most (take place commands) → AreWithin more (take (place + 1) commands)
within_more commands place most more c l is grows here h =
    All-more (λ d. length d.line_name ≤ more) commands place c l (longer (take place commands) most more grows h)
    (subst (λ (d : CommandPlace). length d.line_name ≤ more) is here)
