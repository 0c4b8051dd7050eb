-- The updates so far at a level, as the program keeps them.
use Rattle.std.proofs.Common.{◌≡◌, ◌∙◌, Bool, true, false, cond, if◌then◌else◌, List, [], ◌∷◌, map, length, Option, Some, None, refl, ap, sym, arith}
use Rattle.std.specs.Prelude.{◌||◌}
use Rattle.std.specs.BTreeSet.{BTreeSet, insert_key}
use Rattle.std.specs.List.{list_any}
use Rattle.std.specs.Map.{lookup}
use Rattle.std.specs.Option.{unwrap_or}
use Rattle.std.specs.Ordering.{is_eq, match_ordering}
use Rattle.std.specs.declared.cmp.Ordering.{Ordering}
use Rattle.std.specs.declared.cmp.Ordering.TheVariants.{Less, Equal, Greater}
use Rattle.indexmap.specs.IndexMap.{insert_entry}
use Rattle.cl_syntax.specs.declared.sites.Site.{Site}
use Rattle.cl_value.specs.Data.{Data, order_of}
use Rattle.cl_value.specs.Value.{data_of}
use Rattle.cl_value.specs.declared.Value.{Value}
use Rattle.cl_display.specs.Siblings.{Siblings, count_at, ids_at, is_taken, same_site, with_ids}

-- the entries of the program as they are seen
abbrev pub seen : List (Site × BTreeSet Value) → Siblings
seen es = map (λ e. (e.0, map data_of e.1.keys)) es

abbrev pub ids_in : Option (BTreeSet Value) → List Data
ids_in None = []
ids_in (Some s) = map data_of s.keys

-- a set without keys in the place of none
pub ids-or : (o : Option (BTreeSet Value)) (empty : BTreeSet Value) → empty.keys ≡ [] → map data_of (unwrap_or o empty).keys ≡ ids_in o
ids-or None empty p = ap (λ (vs : List Value). map data_of vs) p
ids-or (Some s) empty p = refl

pub ids-found : (site : Site) (es : List (Site × BTreeSet Value)) → ids_at site (seen es) ≡ ids_in (lookup (same_site site) es)
ids-found site [] = refl
ids-found site (e ∷ es) = by_test (same_site site e.0) (ids-found site es)
  where
    by_test : (b : Bool) → ids_at site (seen es) ≡ ids_in (lookup (same_site site) es) → (if b then map data_of e.1.keys else ids_at site (seen es)) ≡ ids_in (cond b (Some e.1) (lookup (same_site site) es))
    by_test true more = refl
    by_test false more = more

pub ids-inserted : (site : Site) (s : BTreeSet Value) (es : List (Site × BTreeSet Value))
    → seen (insert_entry same_site es site s) ≡ with_ids site (map data_of s.keys) (seen es)
ids-inserted site s [] = refl
ids-inserted site s (e ∷ es) = by_test (same_site site e.0) (ids-inserted site s es)
  where
    by_test : (b : Bool) → seen (insert_entry same_site es site s) ≡ with_ids site (map data_of s.keys) (seen es) → seen (if b then (e.0, s) ∷ es else e ∷ insert_entry same_site es site s)
        ≡ (if b then (e.0, map data_of s.keys) ∷ seen es else (e.0, map data_of e.1.keys) ∷ with_ids site (map data_of s.keys) (seen es))
    by_test true same = refl
    by_test false same = ap (λ (more : Siblings). (e.0, map data_of e.1.keys) ∷ more) same

pub ids-emptied : (site : Site) (s : BTreeSet Value) (es : List (Site × BTreeSet Value)) → s.keys ≡ []
    → seen (insert_entry same_site es site s) ≡ with_ids site [] (seen es)
ids-emptied site s es p = ids-inserted site s es ∙ ap (λ (vs : List Value). with_ids site (map data_of vs) (seen es)) p

same-itself : (site : Site) → same_site site site ≡ true
same-itself site = grind arith

-- the ids of a site that are put in twice: the second count
pub ids_twice : (site : Site) (first second : List Data) (xs : Siblings) → with_ids site second (with_ids site first xs) ≡ with_ids site second xs
ids_twice site first second [] = rw (same-itself site) refl
ids_twice site first second (e ∷ xs) = by_test (same_site site e.0) refl (ids_twice site first second xs)
  where
    by_test : (b : Bool) → same_site site e.0 ≡ b → with_ids site second (with_ids site first xs) ≡ with_ids site second xs
        → with_ids site second (if b then (e.0, first) ∷ xs else e ∷ with_ids site first xs) ≡ (if b then (e.0, second) ∷ xs else e ∷ with_ids site second xs)
    by_test true h same = rw h refl
    by_test false h same = rw h (ap (λ (more : Siblings). e ∷ more) same)

pub keys-inserted : (v : Value) (vs : List Value)
    → map data_of (insert_key (λ a b. order_of (data_of a) (data_of b)) vs v) ≡ insert_key order_of (map data_of vs) (data_of v)
keys-inserted v [] = refl
keys-inserted v (x ∷ xs) = by_order (order_of (data_of v) (data_of x)) (keys-inserted v xs)
  where
    by_order : (o : Ordering)
        → map data_of (insert_key (λ a b. order_of (data_of a) (data_of b)) xs v) ≡ insert_key order_of (map data_of xs) (data_of v) → map data_of (match_ordering o (v ∷ x ∷ xs) (x ∷ xs) (x ∷ insert_key (λ a b. order_of (data_of a) (data_of b)) xs v))
        ≡ match_ordering o (data_of v ∷ data_of x ∷ map data_of xs) (data_of x ∷ map data_of xs) (data_of x ∷ insert_key order_of (map data_of xs) (data_of v))
    by_order Less same = refl
    by_order Equal same = refl
    by_order Greater same = ap (λ (more : List Data). data_of x ∷ more) same

pub any-seen : (id : Data) (vs : List Value) → list_any (λ v. is_eq (order_of id (data_of v))) vs ≡ list_any (λ d. is_eq (order_of id d)) (map data_of vs)
any-seen id [] = refl
any-seen id (v ∷ vs) = ap (λ (b : Bool). is_eq (order_of id (data_of v)) || b) (any-seen id vs)

length-map : {A B : Type 0} (f : A → B) (xs : List A) → length (map f xs) ≡ length xs
length-map f [] = refl
length-map f (x ∷ xs) = omega (arith, length-map f xs)

pub count-found : (site : Site) (es : List (Site × BTreeSet Value)) (s : BTreeSet Value) → lookup (same_site site) es ≡ Some s
    → length s.keys ≡ count_at site (seen es)
count-found site es s p = rw (ids-found site es, p) (sym (length-map data_of s.keys))

pub count-none : (site : Site) (es : List (Site × BTreeSet Value)) → lookup (same_site site) es ≡ None → 0 ≡ count_at site (seen es)
count-none site es p = rw (ids-found site es, p) refl

pub taken-found : (site : Site) (id : Data) (es : List (Site × BTreeSet Value)) (s : BTreeSet Value) → lookup (same_site site) es ≡ Some s
    → list_any (λ v. is_eq (order_of id (data_of v))) s.keys ≡ is_taken site id (seen es)
taken-found site id es s p = rw (ids-found site es, p) (any-seen id s.keys)

pub taken-none : (site : Site) (id : Data) (es : List (Site × BTreeSet Value)) → lookup (same_site site) es ≡ None → false ≡ is_taken site id (seen es)
taken-none site id es p = rw (ids-found site es, p) refl
