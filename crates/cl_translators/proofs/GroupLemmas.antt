-- One more translator in its group.
use Rattle.std.proofs.Common.{◌≡◌, ℕ, suc, ◌+◌, ◌++◌, ◌<◌, Bool, true, false, cond, List, [], ◌∷◌, length, drop, sym, refl, ◌∙◌, ap, arith, Some, None, drop-cons}
use Rattle.std.specs.Prelude.{◌&&◌, Option, slice_get, option_map, filter, if◌then◌else◌}
use Rattle.std.specs.List.{flat_map}
use Rattle.std.specs.Str.{bytes_eq}
use Rattle.std.proofs.lemmas.List.{append_assoc}
use Rattle.std.proofs.lemmas.List.Elements.{filter-append}
use Rattle.std.proofs.lemmas.Option.{slice_get-map, slice_get_within, get_or_from_slice_get}
use Rattle.cl_table.specs.Names.{declared_at, declared_in}
use Rattle.cl_translators.specs.Groups.{AddsUnder, AreByTable, Grouped, group_of, is_from, is_in_slot, low_in}
use Rattle.cl_translators.specs.Order.{TranslatorPlaces, digits, has_low, in_order, stands_in, translators_of}
use Rattle.cl_translators.specs.declared.declarations.TranslatorPlace.{TranslatorPlace}

pub drop-here : {X : Type 0} (xs : List X) (i : ℕ) (x : X) → slice_get xs i ≡ Some x → drop i xs ≡ x ∷ drop (i + 1) xs
drop-here xs i x h =
    let within : i < length xs = slice_get_within xs i x h in
    let next : suc i ≡ i + 1 = omega arith in
    drop-cons xs i x within ∙ (ap (λ y. y ∷ drop (suc i) xs) (get_or_from_slice_get xs i x x h) ∙ ap (λ n. x ∷ drop n xs) next)

declared : (entry : Option (List ℕ × TranslatorPlace)) (t : TranslatorPlace) → declared_in entry ≡ Some t → option_map (λ (e : List ℕ × TranslatorPlace). e.1) entry ≡ Some t
declared None t h = cc
declared (Some e) t h = h

-- the translator in a place, and those behind it
translators_here : (places : TranslatorPlaces) (place : ℕ) (t : TranslatorPlace) → declared_at place places ≡ Some t
    → drop place (translators_of places) ≡ t ∷ drop (place + 1) (translators_of places)
translators_here places place t h =
    drop-here (translators_of places) place t (slice_get-map (λ (e : List ℕ × TranslatorPlace). e.1) places place ∙ declared (slice_get places place) t h)

-- all low parts, by the groups of tables
pub all_lows : (groups : Grouped) (order : List (List ℕ)) (ts : List TranslatorPlace) → AreByTable ts groups → flat_map (low_in groups order) digits ≡ in_order order ts
all_lows groups order ts by = λ i. flat_map (λ low. flat_map (λ table. filter (has_low low) (by table i)) order) digits

-- one of a list goes into its group, and those behind it are left
pub goes_on : (test : TranslatorPlace → Bool) (t : TranslatorPlace) (before more rest all : List TranslatorPlace) (added : List TranslatorPlace)
    → more ≡ before ++ added → added ≡ filter test (t ∷ []) → before ++ filter test (t ∷ rest) ≡ filter test all → more ++ filter test rest ≡ filter test all
goes_on test t before more rest all added is one so_far =
    ap (λ xs. xs ++ filter test rest) (is ∙ ap (λ xs. before ++ xs) one)
    ∙ append_assoc before (filter test (t ∷ [])) (filter test rest)
    ∙ ap (λ xs. before ++ xs) (sym (filter-append test (t ∷ []) rest))
    ∙ so_far

if_passes : (b : Bool) (t : TranslatorPlace) → ◌≡◌ {A = List TranslatorPlace} (if b then t ∷ [] else []) (cond b (t ∷ []) [])
if_passes true t = refl
if_passes false t = refl

pub tables_go_on : (places : TranslatorPlaces) (place : ℕ) (t : TranslatorPlace) (old new : Grouped) → declared_at place places ≡ Some t → AddsUnder t.table t old new
    → ((table : List ℕ) → group_of table old ++ filter (stands_in table) (drop place (translators_of places)) ≡ filter (stands_in table) (translators_of places))
    → (table : List ℕ) → group_of table new ++ filter (stands_in table) (drop (place + 1) (translators_of places)) ≡ filter (stands_in table) (translators_of places)
tables_go_on places place t old new h adds so_far table =
    goes_on (stands_in table) t (group_of table old) (group_of table new) (drop (place + 1) (translators_of places)) (translators_of places)
    (if bytes_eq t.table table then t ∷ [] else []) (adds table) (if_passes (bytes_eq t.table table) t)
    (ap (λ xs. group_of table old ++ filter (stands_in table) xs) (sym (translators_here places place t h)) ∙ so_far table)

from_passes : (a b : Bool) (t : TranslatorPlace) → a ≡ true → ◌≡◌ {A = List TranslatorPlace} (if b then t ∷ [] else []) (cond (a && b) (t ∷ []) [])
from_passes true true t h = refl
from_passes true false t h = refl
from_passes false b t h = cc

-- a translator of the slot
pub slot_goes_on : (slot : ℕ) (ts : List TranslatorPlace) (place : ℕ) (t : TranslatorPlace) (old new : Grouped) → drop place ts ≡ t ∷ drop (place + 1) ts
    → is_in_slot slot t ≡ true → AddsUnder t.from t old new
    → ((from : List ℕ) → group_of from old ++ filter (is_from slot from) (drop place ts) ≡ filter (is_from slot from) ts)
    → (from : List ℕ) → group_of from new ++ filter (is_from slot from) (drop (place + 1) ts) ≡ filter (is_from slot from) ts
slot_goes_on slot ts place t old new here inside adds so_far from =
    goes_on (is_from slot from) t (group_of from old) (group_of from new) (drop (place + 1) ts) ts
    (if bytes_eq t.from from then t ∷ [] else []) (adds from) (from_passes (is_in_slot slot t) (bytes_eq t.from from) t inside)
    (ap (λ xs. group_of from old ++ filter (is_from slot from) xs) (sym here) ∙ so_far from)

skips : (a b : Bool) (t : TranslatorPlace) (rest : List TranslatorPlace) → a ≡ false → rest ≡ cond (a && b) (t ∷ rest) rest
skips true b t rest h = cc
skips false b t rest h = refl

-- one of another slot
pub slot_skips : (slot : ℕ) (ts : List TranslatorPlace) (place : ℕ) (t : TranslatorPlace) (groups : Grouped) → drop place ts ≡ t ∷ drop (place + 1) ts
    → is_in_slot slot t ≡ false
    → ((from : List ℕ) → group_of from groups ++ filter (is_from slot from) (drop place ts) ≡ filter (is_from slot from) ts)
    → (from : List ℕ) → group_of from groups ++ filter (is_from slot from) (drop (place + 1) ts) ≡ filter (is_from slot from) ts
slot_skips slot ts place t groups here outside so_far from =
    ap (λ xs. group_of from groups ++ xs)
    (skips (is_in_slot slot t) (bytes_eq t.from from) t (filter (is_from slot from) (drop (place + 1) ts)) outside ∙ ap (filter (is_from slot from)) (sym here))
    ∙ so_far from
