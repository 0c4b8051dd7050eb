-- What stands under a key once a command was added.
use Rattle.std.proofs.Common.{◌≡◌, ◌++◌, ◌+◌, ◌<◌, Bool, true, false, cond, ℕ, suc, List, [], ◌∷◌, length, get_or, drop, drop-cons}
use Rattle.std.proofs.Common.{Option, Some, None, refl, sym, ap, ◌∙◌, subst, arith}
use Rattle.std.specs.Prelude.{is_some, option_map, if◌then◌else◌, find}
use Rattle.std.specs.Str.{bytes_eq}
use Rattle.cl_table.specs.Names.{named}
use Rattle.cl_tables.specs.Indexes.{Index, command_under, with_key, key_of, has_key}
use Rattle.cl_tables.specs.Lookups.{is_key}
use Rattle.cl_tables.specs.declared.declarations.CommandPlace.{CommandPlace}
use Rattle.cl_tables.specs.declared.indexes.Key.{Key}
use Rattle.cl_tables.specs.declared.indexes.Keyed.{Keyed}
use Rattle.cl_tables.proofs.NameLemmas.{same_name}

-- what is there, or else another
abbrev pub first_of : {A : Type 0} → Option A → Option A → Option A
first_of None o = o
first_of (Some a) o = Some a

pub named-last : {D : Type 0} (x y : List ℕ) (d : D) (es : List (List ℕ × D)) → named x (es ++ (y, d) ∷ []) ≡ first_of (named x es) (cond (bytes_eq x y) (Some d) None)
named-last x y d [] = refl
named-last {D} x y d (e ∷ es) = by (bytes_eq x e.0) (named-last x y d es)
  where
    by : (b : Bool) → named x (es ++ (y, d) ∷ []) ≡ first_of (named x es) (cond (bytes_eq x y) (Some d) None)
        → cond b (Some e.1) (named x (es ++ (y, d) ∷ [])) ≡ first_of (cond b (Some e.1) (named x es)) (cond (bytes_eq x y) (Some d) None)
    by true rest = refl
    by false rest = rest

map-first : (o : Option Keyed) (b : Bool) (d : Keyed) (p : Option CommandPlace)
    → first_of (option_map (λ e. e.command) (first_of o (cond b (Some d) None))) p ≡ first_of (option_map (λ e. e.command) o) (cond b (Some d.command) p)
map-first None true d p = refl
map-first None false d p = refl
map-first (Some e) b d p = refl

map-there : (o : Option Keyed) (p q : Option CommandPlace) → is_some o ≡ true → first_of (option_map (λ e. e.command) o) p ≡ first_of (option_map (λ e. e.command) o) q
map-there None p q h = cc
map-there (Some e) p q h = refl

-- a key that is there already: the command that comes later does not count
not_first : (x y : List ℕ) (c : CommandPlace) (index : Index) (p : Option CommandPlace) (b : Bool) → bytes_eq x y ≡ b → is_some (named y index) ≡ true
    → first_of (command_under x index) p ≡ first_of (command_under x index) (cond b (Some c) p)
not_first x y c index p false e h = refl
not_first x y c index p true e h = map-there (named x index) p (Some c) (subst (λ (z : List ℕ). is_some (named z index) ≡ true) (sym (same_name x y e)) h)

with_key_by : (b : Bool) (x y : List ℕ) (c : CommandPlace) (index : Index) (p : Option CommandPlace) → is_some (named y index) ≡ b
    → first_of (command_under x (if b then index else index ++ (y, record { key = y; command = c }) ∷ [])) p ≡ first_of (command_under x index) (cond (bytes_eq x y) (Some c) p)
with_key_by true x y c index p h = not_first x y c index p (bytes_eq x y) refl h
with_key_by false x y c index p h =
    ap (λ o. first_of (option_map (λ e. e.command) o) p) (named-last x y (record { key = y; command = c }) index)
    ∙ map-first (named x index) (bytes_eq x y) (record { key = y; command = c }) p

with_key_first : (o : Option (List ℕ)) (x : List ℕ) (c : CommandPlace) (index : Index) (p : Option CommandPlace)
    → first_of (command_under x (with_key o c index)) p ≡ first_of (command_under x index) (cond (is_key x o) (Some c) p)
with_key_first None x c index p = refl
with_key_first (Some y) x c index p = with_key_by (is_some (named y index)) x y c index p refl

item_here : {X : Type 0} (xs : List X) (i : ℕ) (x : X) → i < length xs → x ≡ get_or xs i x → drop i xs ≡ x ∷ drop (i + 1) xs
item_here xs i x within is =
    let next : suc i ≡ i + 1 = omega arith in
    drop-cons xs i x within ∙ (ap (λ y. y ∷ drop (suc i) xs) (sym is) ∙ ap (λ n. x ∷ drop n xs) next)

-- the first of the commands that are left counts where none before them has the key
abbrev pub GoesOn : Key → List CommandPlace → ℕ → Index → Type 0
GoesOn kind commands place index = (x : List ℕ) → first_of (command_under x index) (find (has_key kind x) (drop place commands)) ≡ find (has_key kind x) commands

pub index_goes_on : (kind : Key) (commands : List CommandPlace) (place : ℕ) (c : CommandPlace) (old new : Index) → place < length commands → c ≡ get_or commands place c
    → new ≡ with_key (key_of kind c) c old → GoesOn kind commands place old → GoesOn kind commands (place + 1) new
index_goes_on kind commands place c old new within is added so_far x =
    ap (λ es. first_of (command_under x es) (find (has_key kind x) (drop (place + 1) commands))) added
    ∙ with_key_first (key_of kind c) x c old (find (has_key kind x) (drop (place + 1) commands))
    ∙ ap (λ cs. first_of (command_under x old) (find (has_key kind x) cs)) (sym (item_here commands place c within is))
    ∙ so_far x
