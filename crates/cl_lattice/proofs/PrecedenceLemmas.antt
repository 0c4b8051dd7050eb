-- Precedence lists: their levels, and the tables that have them.
use Rattle.std.proofs.Common.{◌≡◌, ◌<◌, ◌-◌, ◌+◌, ◌++◌, ◌==◌, ◌⊎◌, inl, inr, ℕ, zero, suc, Bool, true, false, List, [], ◌∷◌, Option, Some, None, refl, sym, ap, ◌∙◌, subst, arith, map, drop}
use Rattle.std.proofs.lemmas.List.Elements.{All-head, All-tail}
use Rattle.std.specs.Prelude.{All, ◌||◌, if◌then◌else◌, is_some, codes}
use Rattle.std.specs.Cmp.Lexicographic.{pointwise}
use Rattle.std.specs.Str.{bytes_eq}
use Rattle.std.proofs.lemmas.Slice.Eq.{bytes_eq-Decides}
use Rattle.cl_syntax.specs.StandardTypes.{standard_named, plain_named, built_named, first_of}
use Rattle.cl_syntax.specs.declared.type_names.StandardType.{StandardType}
use Rattle.cl_table.specs.Names.{named, declared_at}
use Rattle.cl_lattice.proofs.BuildingEntries.{either, named_last, next_entry}
use Rattle.cl_lattice.specs.Laws.{names_listed}
use Rattle.cl_lattice.specs.Listing.{Lists, IsListed, with_names, with_list, with_lists, interaction_names, plain_names, built_names, or_names, declared_name}
use Rattle.cl_lattice.specs.Members.{is_token}
use Rattle.cl_lattice.specs.Precedence.{precedence, precedence_by, precedence_within}
use Rattle.cl_lattice.specs.World.{World, kind_named}
use Rattle.cl_lattice.specs.declared.declared_types.DeclaredType.{DeclaredType}
use Rattle.cl_lattice.specs.declared.lattices.Precedence.{Precedence}

pub within_by : (w : World) (n : ℕ) (x : List ℕ) → 0 < n → precedence_within n w x ≡ precedence_by (precedence_within (n - 1) w) (standard_named x) (kind_named x w) x
within_by w zero x h = absurd (omega arith)
within_by w (suc k) x h =
    let less : suc k - 1 ≡ k = omega arith in
    rw less refl

-- ---- one list more

same_name : (x y : List ℕ) → pointwise ◌==◌ x y ≡ true → x ≡ y
same_name x y h = (bytes_eq-Decides x y).0 h

own_name : (x : List ℕ) → pointwise ◌==◌ x x ≡ true
own_name x = (bytes_eq-Decides x x).1 refl

-- the list that stands under a name is its precedence list, or none stands there
abbrev pub IsRight : World → List ℕ → Option Precedence → Type 0
IsRight w x None = Unit {0}
IsRight w x (Some p) = Some p.names ≡ precedence w x

abbrev pub AreRight : World → Lists → Type 0
AreRight w t = (x : List ℕ) → IsRight w x (named x t)

abbrev pub Has : World → List ℕ → Option Precedence → Type 0
Has w x o = names_listed o ≡ precedence w x

-- where the list of a name is there, or it has none, one more changes nothing of it
right_first : (w : World) (x : List ℕ) (o o' : Option Precedence) → IsRight w x o → (o ≡ None → IsRight w x o') → IsRight w x (either o o')
right_first w x None o' h k = k refl
right_first w x (Some p) o' h k = h

right_new : (w : World) (x y : List ℕ) (xs : List (List ℕ)) (b : Bool) → pointwise ◌==◌ x y ≡ b → precedence w y ≡ Some xs
    → IsRight w x (if b then Some (record { name = y; names = xs }) else None)
right_new w x y xs false e h = tt
right_new w x y xs true e h = sym h ∙ ap (precedence w) (sym (same_name x y e))

has_first : (w : World) (x : List ℕ) (o o' : Option Precedence) → Has w x o → IsRight w x o' → Has w x (either o o')
has_first w x None None h k = h
has_first w x None (Some p) h k = k
has_first w x (Some p) o' h k = h

first_right : (w : World) (t : Lists) (x y : List ℕ) (xs : List (List ℕ)) (b : Bool) → AreRight w t → precedence w y ≡ Some xs
    → IsRight w x (named x (if b then t else t ++ (y, record { name = y; names = xs }) ∷ []))
first_right w t x y xs true all h = all x
first_right w t x y xs false all h =
    subst (IsRight w x) (sym (named_last x y (record { name = y; names = xs }) t))
    (right_first w x (named x t) (if pointwise ◌==◌ x y then Some (record { name = y; names = xs }) else None) (all x)
    (λ none. right_new w x y xs (pointwise ◌==◌ x y) refl h))

list_right : (w : World) (t : Lists) (y : List ℕ) (o : Option (List (List ℕ))) → precedence w y ≡ o → AreRight w t → AreRight w (with_names t y o)
list_right w t y None h all = all
list_right w t y (Some xs) h all = λ x. first_right w t x y xs (is_some (named y t)) all h

first_keeps : (w : World) (t : Lists) (x y : List ℕ) (xs : List (List ℕ)) (b : Bool) → Has w x (named x t) → precedence w y ≡ Some xs
    → Has w x (named x (if b then t else t ++ (y, record { name = y; names = xs }) ∷ []))
first_keeps w t x y xs true has h = has
first_keeps w t x y xs false has h =
    subst (Has w x) (sym (named_last x y (record { name = y; names = xs }) t))
    (has_first w x (named x t) (if pointwise ◌==◌ x y then Some (record { name = y; names = xs }) else None) has (right_new w x y xs (pointwise ◌==◌ x y) refl h))

list_keeps : (w : World) (t : Lists) (x y : List ℕ) (o : Option (List (List ℕ))) → precedence w y ≡ o → Has w x (named x t) → Has w x (named x (with_names t y o))
list_keeps w t x y None h has = has
list_keeps w t x y (Some xs) h has = first_keeps w t x y xs (is_some (named y t)) has h

-- what stands there is right, so the list is there
right_there : (w : World) (y : List ℕ) (o : Option Precedence) → is_some o ≡ true → IsRight w y o → Has w y o
right_there w y None h r = cc
right_there w y (Some p) h r = r

has_new : (w : World) (y : List ℕ) (xs : List (List ℕ)) (o : Option Precedence) (b : Bool) → is_some o ≡ false → b ≡ true → precedence w y ≡ Some xs
    → Has w y (either o (if b then Some (record { name = y; names = xs }) else None))
has_new w y xs None true h k e = sym e
has_new w y xs None false h k e = cc
has_new w y xs (Some p) b h k e = cc

first_has : (w : World) (t : Lists) (y : List ℕ) (xs : List (List ℕ)) (b : Bool) → is_some (named y t) ≡ b → AreRight w t → precedence w y ≡ Some xs
    → Has w y (named y (if b then t else t ++ (y, record { name = y; names = xs }) ∷ []))
first_has w t y xs true there all h = right_there w y (named y t) there (all y)
first_has w t y xs false there all h =
    subst (Has w y) (sym (named_last y y (record { name = y; names = xs }) t)) (has_new w y xs (named y t) (pointwise ◌==◌ y y) there (own_name y) h)

none_has : (w : World) (y : List ℕ) (o : Option Precedence) → precedence w y ≡ None → IsRight w y o → Has w y o
none_has w y None h r = sym h
none_has w y (Some p) h r = r

list_has : (w : World) (t : Lists) (y : List ℕ) (o : Option (List (List ℕ))) → precedence w y ≡ o → AreRight w t → Has w y (named y (with_names t y o))
list_has w t y None h all = none_has w y (named y t) h (all y)
list_has w t y (Some xs) h all = first_has w t y xs (is_some (named y t)) refl all h

-- ---- many lists more

pub lists_right : (w : World) (xs : List (List ℕ)) (t : Lists) → AreRight w t → AreRight w (with_lists w xs t)
lists_right w [] t all = all
lists_right w (y ∷ xs) t all = lists_right w xs (with_list w t y) (list_right w t y (precedence w y) refl all)

pub lists_keep : (w : World) (xs : List (List ℕ)) (t : Lists) (x : List ℕ) → Has w x (named x t) → Has w x (named x (with_lists w xs t))
lists_keep w [] t x has = has
lists_keep w (y ∷ xs) t x has = lists_keep w xs (with_list w t y) x (list_keeps w t x y (precedence w y) refl has)

pub lists_have : (w : World) (xs : List (List ℕ)) (t : Lists) (x : List ℕ) → AreRight w t → is_token xs x ≡ true → Has w x (named x (with_lists w xs t))
lists_have w [] t x all h = cc
lists_have w (y ∷ xs) t x all h = by_name (bytes_eq y x) refl h (λ k. lists_have w xs (with_list w t y) x (list_right w t y (precedence w y) refl all) k)
  where
    by_name : (b : Bool) → bytes_eq y x ≡ b → (b || is_token xs x) ≡ true
        → (is_token xs x ≡ true → Has w x (named x (with_lists w xs (with_list w t y)))) → Has w x (named x (with_lists w xs (with_list w t y)))
    by_name true e k more =
        let same : y ≡ x = same_name y x e in
        lists_keep w xs (with_list w t y) x (subst (λ (z : List ℕ). Has w z (named z (with_list w t y))) same (list_has w t y (precedence w y) refl all))
    by_name false e k more = more k

pub next_list : (w : World) (t : List (List ℕ × DeclaredType)) (i : ℕ) (d : DeclaredType) (old new all : Lists)
    → Some d ≡ declared_at i t → new ≡ with_list w old d.name → with_lists w (map declared_name (drop i t)) old ≡ all → with_lists w (map declared_name (drop (i + 1) t)) new ≡ all
next_list w t i d old new all h is e =
    let one = next_entry t i d h in
    ap (λ (ts : Lists). with_lists w (map declared_name (drop (i + 1) t)) ts) is
    ∙ ap (λ (es : List (List ℕ × DeclaredType)). with_lists w (map declared_name es) old) (sym one.1) ∙ e

-- ---- the names of all types

is_same_token : (x y : List ℕ) (ys : List (List ℕ)) → x ≡ y → is_token (y ∷ ys) x ≡ true
is_same_token x y ys same = ap (λ b. b || is_token ys x) ((bytes_eq-Decides y x).1 (sym same))

is_later_token : (b : Bool) (x : List ℕ) (ys : List (List ℕ)) → is_token ys x ≡ true → (b || is_token ys x) ≡ true
is_later_token true x ys h = refl
is_later_token false x ys h = h

-- a name by which one of several is found
pick : (b : Bool) (x y : List ℕ) (s t : StandardType) (o : Option StandardType) (ys : List (List ℕ)) → bytes_eq x y ≡ b → (o ≡ Some t → is_token ys x ≡ true)
    → (if b then Some s else o) ≡ Some t → is_token (y ∷ ys) x ≡ true
pick true x y s t o ys e more h = is_same_token x y ys (same_name x y e)
pick false x y s t o ys e more h = is_later_token (bytes_eq y x) x ys (more h)

plain_listed : (x : List ℕ) (t : StandardType) → plain_named x ≡ Some t → is_token plain_names x ≡ true
plain_listed x t =
    pick _ x (codes "t") _ t _ (codes "nil" ∷ codes "boolean" ∷ codes "integer" ∷ codes "string" ∷ codes "symbol" ∷ interaction_names) refl
    (pick _ x (codes "nil") _ t _ (codes "boolean" ∷ codes "integer" ∷ codes "string" ∷ codes "symbol" ∷ interaction_names) refl
    (pick _ x (codes "boolean") _ t _ (codes "integer" ∷ codes "string" ∷ codes "symbol" ∷ interaction_names) refl
    (pick _ x (codes "integer") _ t _ (codes "string" ∷ codes "symbol" ∷ interaction_names) refl
    (pick _ x (codes "string") _ t _ (codes "symbol" ∷ interaction_names) refl
    (pick _ x (codes "symbol") _ t _ interaction_names refl
    (pick _ x (codes "blank-area") _ t _ (codes "command" ∷ codes "dialog-choice" ∷ []) refl
    (pick _ x (codes "command") _ t _ (codes "dialog-choice" ∷ []) refl
    (pick _ x (codes "dialog-choice") _ t _ [] refl
    (λ h. cc)))))))))

built_listed : (x : List ℕ) (t : StandardType) → built_named x ≡ Some t → is_token (built_names ++ or_names) x ≡ true
built_listed x t =
    pick _ x (codes "member") _ t _ (codes "subset" ∷ codes "sequence" ∷ codes "or" ∷ codes "and" ∷ codes "null-or-type" ∷ codes "token-or-type" ∷ []) refl
    (pick _ x (codes "subset") _ t _ (codes "sequence" ∷ codes "or" ∷ codes "and" ∷ codes "null-or-type" ∷ codes "token-or-type" ∷ []) refl
    (pick _ x (codes "sequence") _ t _ (codes "or" ∷ codes "and" ∷ codes "null-or-type" ∷ codes "token-or-type" ∷ []) refl
    (pick _ x (codes "or") _ t _ (codes "and" ∷ codes "null-or-type" ∷ codes "token-or-type" ∷ []) refl
    (pick _ x (codes "and") _ t _ (codes "null-or-type" ∷ codes "token-or-type" ∷ []) refl
    (pick _ x (codes "null-or-type") _ t _ (codes "token-or-type" ∷ []) refl
    (pick _ x (codes "token-or-type") _ t _ [] refl
    (λ h. cc)))))))

token_before : (xs ys : List (List ℕ)) (x : List ℕ) → is_token (xs ++ ys) x ≡ true → (is_token xs x ≡ true) ⊎ (is_token ys x ≡ true)
token_before [] ys x h = inr h
token_before (y ∷ xs) ys x h = by_name (bytes_eq y x) h (λ k. token_before xs ys x k)
  where
    by_name : (b : Bool) → (b || is_token (xs ++ ys) x) ≡ true → (is_token (xs ++ ys) x ≡ true → (is_token xs x ≡ true) ⊎ (is_token ys x ≡ true))
        → ((b || is_token xs x) ≡ true) ⊎ (is_token ys x ≡ true)
    by_name true k more = inl refl
    by_name false k more = more k

-- every standard type is among the names
standard_listed : (x : List ℕ) (t : StandardType) (o p : Option StandardType) → plain_named x ≡ o → built_named x ≡ p → first_of o p ≡ Some t
    → (is_token plain_names x ≡ true) ⊎ ((is_token built_names x ≡ true) ⊎ (is_token or_names x ≡ true))
standard_listed x t (Some s) p e f h = inl (plain_listed x s e)
standard_listed x t None p e f h = inr (token_before built_names or_names x (built_listed x t (f ∙ h)))

-- every declared type is
declared_listed : (x : List ℕ) (t : List (List ℕ × DeclaredType)) (d : DeclaredType) → All (λ e. e.0 ≡ e.1.name) t → named x t ≡ Some d
    → is_token (map declared_name t) x ≡ true
declared_listed x [] d all h = cc
declared_listed x (e ∷ t) d all h = by_name (pointwise ◌==◌ x e.0) refl h (λ k. declared_listed x t d (All-tail (λ a. a.0 ≡ a.1.name) e t all) k)
  where
    by_name : (b : Bool) → pointwise ◌==◌ x e.0 ≡ b → (if b then Some e.1 else named x t) ≡ Some d → (named x t ≡ Some d → is_token (map declared_name t) x ≡ true)
        → is_token (map declared_name (e ∷ t)) x ≡ true
    by_name true same k more = is_same_token x e.1.name (map declared_name t) (same_name x e.0 same ∙ All-head (λ a. a.0 ≡ a.1.name) e t all)
    by_name false same k more = is_later_token (bytes_eq e.1.name x) x (map declared_name t) (more k)

none_declared : (w : World) (x : List ℕ) → standard_named x ≡ None → named x w.types ≡ None → precedence w x ≡ None
unfolding precedence
none_declared w x e h = rw (e, h) refl

abbrev pub with_all_lists : World → List (List ℕ) → Lists
with_all_lists w xs = with_lists w xs (with_lists w or_names (with_lists w built_names (with_lists w plain_names [])))

all_right : (w : World) (xs : List (List ℕ)) → AreRight w (with_all_lists w xs)
all_right w xs = lists_right w xs (with_lists w or_names (with_lists w built_names (with_lists w plain_names [])))
    (lists_right w or_names (with_lists w built_names (with_lists w plain_names [])) (lists_right w built_names (with_lists w plain_names []) (lists_right w plain_names [] (λ x. tt))))

has_standard : (w : World) (xs : List (List ℕ)) (x : List ℕ) → (is_token plain_names x ≡ true) ⊎ ((is_token built_names x ≡ true) ⊎ (is_token or_names x ≡ true))
    → Has w x (named x (with_all_lists w xs))
has_standard w xs x (inl h) =
    lists_keep w xs (with_lists w or_names (with_lists w built_names (with_lists w plain_names []))) x (lists_keep w or_names (with_lists w built_names (with_lists w plain_names [])) x
    (lists_keep w built_names (with_lists w plain_names []) x (lists_have w plain_names [] x (λ y. tt) h)))
has_standard w xs x (inr (inl h)) =
    lists_keep w xs (with_lists w or_names (with_lists w built_names (with_lists w plain_names []))) x (lists_keep w or_names (with_lists w built_names (with_lists w plain_names [])) x
    (lists_have w built_names (with_lists w plain_names []) x (lists_right w plain_names [] (λ y. tt)) h))
has_standard w xs x (inr (inr h)) =
    lists_keep w xs (with_lists w or_names (with_lists w built_names (with_lists w plain_names []))) x
    (lists_have w or_names (with_lists w built_names (with_lists w plain_names [])) x (lists_right w built_names (with_lists w plain_names []) (lists_right w plain_names [] (λ y. tt))) h)

by_kind : (w : World) (x : List ℕ) (o : Option StandardType) (d : Option DeclaredType) → All (λ e. e.0 ≡ e.1.name) w.types → standard_named x ≡ o → named x w.types ≡ d
    → Has w x (named x (with_all_lists w (map declared_name w.types)))
by_kind w x (Some t) d all e f = has_standard w (map declared_name w.types) x (standard_listed x t (plain_named x) (built_named x) refl refl e)
by_kind w x None None all e f =
    none_has w x (named x (with_all_lists w (map declared_name w.types))) (none_declared w x e f) (all_right w (map declared_name w.types) x)
by_kind w x None (Some d) all e f =
    lists_have w (map declared_name w.types) (with_lists w or_names (with_lists w built_names (with_lists w plain_names []))) x (all_right w []) (declared_listed x w.types d all f)

-- the table of all names has each list
pub all_listed : (w : World) → All (λ e. e.0 ≡ e.1.name) w.types → IsListed w (with_all_lists w (map declared_name w.types))
all_listed w all x = by_kind w x (standard_named x) (named x w.types) all refl refl
