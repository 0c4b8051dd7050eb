-- Which ids are taken once an update is noted.
use Rattle.std.proofs.Common.{◌≡◌, ◌∙◌, Bool, true, false, if◌then◌else◌, List, [], ◌∷◌, refl, ap, sym, arith}
use Rattle.std.specs.Prelude.{◌&&◌, ◌||◌}
use Rattle.std.proofs.lemmas.Bool.Decides.{nat_tests}
use Rattle.std.specs.BTreeSet.{insert_key}
use Rattle.std.specs.List.{list_any}
use Rattle.std.specs.Ordering.{is_eq, match_ordering}
use Rattle.std.specs.declared.cmp.Ordering.{Ordering}
use Rattle.std.specs.declared.cmp.Ordering.TheVariants.{Less, Equal, Greater}
use Rattle.cl_syntax.specs.declared.sites.Site.{Site}
use Rattle.cl_value.specs.Data.{Data, order_of}
use Rattle.cl_value.specs.OrderLaws.{same_data}
use Rattle.cl_display.specs.Siblings.{Siblings, ids_at, is_taken, note, same_site, with_ids}

abbrev is_id : Data → Data → Bool
is_id d e = is_eq (order_of d e)

or-none : (b : Bool) → (b || false) ≡ b
or-none true = refl
or-none false = refl

or-twice : (b r : Bool) → (b || r) ≡ (b || (b || r))
or-twice true r = refl
or-twice false r = refl

or-turned : (a b r : Bool) → (a || (b || r)) ≡ (b || (a || r))
or-turned true true r = refl
or-turned true false r = refl
or-turned false b r = refl

-- one id more
any-inserted : (d id : Data) (ds : List Data) → list_any (is_id d) (insert_key order_of ds id) ≡ (is_id d id || list_any (is_id d) ds)
any-inserted d id [] = refl
any-inserted d id (x ∷ xs) = by_order (order_of id x) refl (λ _. any-inserted d id xs)
  where
    by_order : (o : Ordering) → order_of id x ≡ o
        → (Unit {0} → list_any (is_id d) (insert_key order_of xs id) ≡ (is_id d id || list_any (is_id d) xs))
        → list_any (is_id d) (match_ordering o (id ∷ x ∷ xs) (x ∷ xs) (x ∷ insert_key order_of xs id)) ≡ (is_id d id || (is_id d x || list_any (is_id d) xs))
    by_order Less h more = refl
    by_order Equal h more =
        let same : id ≡ x = same_data id x h in
        rw same (or-twice (is_id d x) (list_any (is_id d) xs))
    by_order Greater h more =
        ap (λ (b : Bool). is_id d x || b) (more tt) ∙ or-turned (is_id d x) (is_id d id) (list_any (is_id d) xs)

same-form : (a b c : Site) → same_site b c ≡ true → same_site a b ≡ same_site a c
same-form a b c h = grind (arith, nat_tests, h)

both-same : (a b c : Site) → same_site a b ≡ true → same_site a c ≡ true → same_site b c ≡ true
both-same a b c h k = grind (arith, nat_tests, h, k)

never : (b : Bool) → b ≡ true → b ≡ false → ⊥
never true h k = cc
never false h k = cc

-- the ids of a site, once those of one are set
ids-set : (other site : Site) (ids : List Data) (l : Siblings) → ids_at other (with_ids site ids l) ≡ (if same_site other site then ids else ids_at other l)
ids-set other site ids [] = refl
ids-set other site ids (e ∷ l) = by_test (same_site site e.0) refl (λ _. ids-set other site ids l)
  where
    kept : (here there : Bool) → same_site other e.0 ≡ here → same_site other site ≡ there → same_site site e.0 ≡ false
        → (if here then e.1 else (if there then ids else ids_at other l)) ≡ (if there then ids else (if here then e.1 else ids_at other l))
    kept true true h k f = absurd (never (same_site site e.0) (both-same other site e.0 k h) f)
    kept true false h k f = refl
    kept false there h k f = refl

    by_test : (b : Bool) → same_site site e.0 ≡ b → (Unit {0} → ids_at other (with_ids site ids l) ≡ (if same_site other site then ids else ids_at other l))
        → ids_at other (if b then (e.0, ids) ∷ l else e ∷ with_ids site ids l) ≡ (if same_site other site then ids else (if same_site other e.0 then e.1 else ids_at other l))
    by_test true h more = rw (same-form other site e.0 h) (chosen (same_site other e.0))
      where
        chosen : (b : Bool) → (if b then ids else ids_at other l) ≡ (if b then ids else (if b then e.1 else ids_at other l))
        chosen true = refl
        chosen false = refl
    by_test false h more =
        ap (λ (found : List Data). if same_site other e.0 then e.1 else found) (more tt)
        ∙ kept (same_site other e.0) (same_site other site) refl refl h

same-left : (a b c : Site) → same_site a b ≡ true → same_site a c ≡ same_site b c
same-left a b c h = grind (arith, nat_tests, h)

-- one site has the same ids as itself
ids-same : (other site : Site) → same_site other site ≡ true → (l : Siblings) → ids_at other l ≡ ids_at site l
ids-same other site h [] = refl
ids-same other site h (e ∷ l) =
    rw (same-left other site e.0 h) (ap (λ (found : List Data). if same_site site e.0 then e.1 else found) (ids-same other site h l))

pub taken-noted : (site other : Site) (id d : Data) (l : Siblings)
    → is_taken other d (note site id l) ≡ ((same_site other site && is_eq (order_of d id)) || is_taken other d l)
taken-noted site other id d l = ap (λ (ids : List Data). list_any (is_id d) ids) (ids-set other site _ l) ∙ by_test (same_site other site) refl
  where
    by_test : (b : Bool) → same_site other site ≡ b
        → list_any (is_id d) (if b then insert_key order_of (ids_at site l) id else ids_at other l) ≡ ((b && is_eq (order_of d id)) || list_any (is_id d) (ids_at other l))
    by_test true h = any-inserted d id (ids_at site l) ∙ ap (λ (ids : List Data). is_id d id || list_any (is_id d) ids) (sym (ids-same other site h l))
    by_test false h = refl
