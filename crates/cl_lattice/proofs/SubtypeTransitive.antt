-- A subtype of a subtype is one.
use Rattle.std.proofs.Common.{◌≡◌, ℤ, true, List, [], ◌∷◌, refl, inl, inr}
use Rattle.std.specs.Prelude.{ℕ, Option, Some, None}
use Rattle.cl_value.specs.Data.{Data}
use Rattle.cl_lattice.specs.Expanded.{Expanded, everything, integer, string, member, subset, sequence, some_of, each_of, null_or, token_or, ExpandedTypes, none, part}
use Rattle.cl_lattice.specs.Members.{is_among, is_token}
use Rattle.cl_lattice.specs.Subtypes.{IsSubtype, EachIsSubtype, SomeIsSubtype, IsSubtypeOfEach, IsSubtypeOfSome, is_low_within, is_high_within, all_among, all_tokens}
use Rattle.cl_lattice.specs.Subtypes as rule
use Rattle.cl_lattice.specs.SubtypeWays.{ByHeads, EachBelow, SomeBelow, BelowEach, ByFirst, BySecond, BySomeSecond}
use Rattle.cl_lattice.proofs.SubtypeTests.{first_of_both, second_of_both, both_are, le_along, among_lets, tokens_let}
use Rattle.cl_lattice.proofs.SubtypeWayLemmas.{way}
use Rattle.cl_lattice.proofs.SubtypeSplitLemmas.{or_split}

-- ---- tests along a chain

low_along : (a b c : Option ℤ) → is_low_within a b ≡ true → is_low_within b c ≡ true → is_low_within a c ≡ true
low_along a b None p q = refl
low_along a None (Some c) p q = absurd cc
low_along None (Some b) (Some c) p q = absurd cc
low_along (Some a) (Some b) (Some c) p q = le_along c b a q p

high_along : (a b c : Option ℤ) → is_high_within a b ≡ true → is_high_within b c ≡ true → is_high_within a c ≡ true
high_along a b None p q = refl
high_along a None (Some c) p q = absurd cc
high_along None (Some b) (Some c) p q = absurd cc
high_along (Some a) (Some b) (Some c) p q = le_along a b c p q

among_along : (bs cs ds : List Data) → all_among bs cs ≡ true → all_among cs ds ≡ true → all_among bs ds ≡ true
among_along [] cs ds p q = refl
among_along (b ∷ bs) cs ds p q =
    both_are (is_among b ds) (all_among bs ds) (among_lets b cs ds q (first_of_both (is_among b cs) (all_among bs cs) p))
    (among_along bs cs ds (second_of_both (is_among b cs) (all_among bs cs) p) q)

tokens_along : (xs ys zs : List (List ℕ)) → all_tokens xs ys ≡ true → all_tokens ys zs ≡ true → all_tokens xs zs ≡ true
tokens_along [] ys zs p q = refl
tokens_along (x ∷ xs) ys zs p q =
    both_are (is_token zs x) (all_tokens xs zs) (tokens_let x ys zs q (first_of_both (is_token ys x) (all_tokens xs ys) p))
    (tokens_along xs ys zs (second_of_both (is_token ys x) (all_tokens xs ys) p) q)

-- ---- what is below some type is below each that this one is below, if that is so of types of its own kind, and of its parts

-- where the type in the middle is compared with one of its own kind
abbrev ByKind : Expanded → Expanded → Type 0
ByKind a b = (c : Expanded) → ByHeads b c → IsSubtype a c

-- where the type in the middle is compared by its parts
abbrev ByParts : Expanded → Expanded → Type 0
ByParts a b = (c : Expanded) → ByFirst b c → IsSubtype a c

mutual
  past_second : (a b : Expanded) → ByKind a b → ByParts a b → (c : Expanded) → BySecond b c → IsSubtype a c
  past_second a b kinds parts everything s = rule.in_everything a
  past_second a b kinds parts (some_of cs) s = rule.in_some_part a cs (past_some a b kinds parts cs s)
  past_second a b kinds parts (each_of cs) s = rule.in_each_part a cs (past_each a b kinds parts cs s)
  past_second a b kinds parts (null_or c) (inl k) = kinds (null_or c) k
  past_second a b kinds parts (null_or c) (inr s) = rule.in_null_or a c (past_second a b kinds parts c s)
  past_second a b kinds parts (token_or zs c) (inl k) = kinds (token_or zs c) k
  past_second a b kinds parts (token_or zs c) (inr s) = rule.in_token_or a zs c (past_second a b kinds parts c s)
  past_second a b kinds parts c s = kinds c s

  past_some : (a b : Expanded) → ByKind a b → ByParts a b → (cs : ExpandedTypes) → BySomeSecond b cs → IsSubtypeOfSome a cs
  past_some a b kinds parts none s = absurd s
  past_some a b kinds parts (part c cs) (inl s) = rule.of_some_here a c cs (past_second a b kinds parts c s)
  past_some a b kinds parts (part c cs) (inr s) = rule.of_some_later a c cs (past_some a b kinds parts cs s)

  past_each : (a b : Expanded) → ByKind a b → ByParts a b → (cs : ExpandedTypes) → BelowEach b cs → IsSubtypeOfEach a cs
  past_each a b kinds parts none s = rule.of_each_none a
  past_each a b kinds parts (part c cs) s = rule.of_each_more a c cs
      (elim (way b c s.0) [ inl t ↦ past_second a b kinds parts c t | inr f ↦ parts c f ]) (past_each a b kinds parts cs s.1)

past : (a b : Expanded) → ByKind a b → ByParts a b → (c : Expanded) → IsSubtype b c → IsSubtype a c
past a b kinds parts c e = elim (way b c e) [ inl s ↦ past_second a b kinds parts c s | inr f ↦ parts c f ]

-- ---- types of the same kind in the middle

-- what follows from a derivation for a type: all that is above it is above the other
abbrev Past : Expanded → Expanded → Type 0
Past a b = (c : Expanded) → IsSubtype b c → IsSubtype a c

integers_past : (low high low' high' : Option ℤ) → is_low_within low low' ≡ true → is_high_within high high' ≡ true → ByKind (integer low high) (integer low' high')
integers_past low high low' high' p q (integer low'' high'') k =
    rule.of_integers low high low'' high'' (low_along low low' low'' p k.0) (high_along high high' high'' q k.1)
integers_past low high low' high' p q c k = absurd k

strings_past : (n : Option ℤ) → ByKind (string n) (string None)
strings_past n (string None) k = rule.of_strings n
strings_past n (string (Some m)) k = absurd k
strings_past n c k = absurd k

members_past : (bs cs : List Data) → all_among bs cs ≡ true → ByKind (member bs) (member cs)
members_past bs cs p (member ds) k = rule.of_members bs ds (among_along bs cs ds p k)
members_past bs cs p c k = absurd k

subsets_past : (bs cs : List Data) → all_among bs cs ≡ true → ByKind (subset bs) (subset cs)
subsets_past bs cs p (subset ds) k = rule.of_subsets bs ds (among_along bs cs ds p k)
subsets_past bs cs p c k = absurd k

sequences_past : (a b : Expanded) → Past a b → ByKind (sequence a) (sequence b)
sequences_past a b on (sequence c) k = rule.of_sequences a c (on c k)
sequences_past a b on c k = absurd k

null_ors_past : (a b : Expanded) → Past a b → ByKind (null_or a) (null_or b)
null_ors_past a b on (null_or c) k = rule.of_null_ors a c (on c k)
null_ors_past a b on c k = absurd k

in_null_past : (a b : Expanded) → Past a b → ByKind a (null_or b)
in_null_past a b on (null_or c) k = rule.in_null_or a c (on c k)
in_null_past a b on c k = absurd k

token_ors_past : (xs ys : List (List ℕ)) (a b : Expanded) → all_tokens xs ys ≡ true → Past a b → ByKind (token_or xs a) (token_or ys b)
token_ors_past xs ys a b p on (token_or zs c) k = rule.of_token_ors xs zs a c (tokens_along xs ys zs p k.0) (on c k.1)
token_ors_past xs ys a b p on c k = absurd k

in_token_past : (a : Expanded) (ys : List (List ℕ)) (b : Expanded) → Past a b → ByKind a (token_or ys b)
in_token_past a ys b on (token_or zs c) k = rule.in_token_or a zs c (on c k.1)
in_token_past a ys b on c k = absurd k

-- ---- along a derivation

-- what a part of an `or` is below
part_below : (qs : ExpandedTypes) (c : Expanded) → IsSubtype (some_of qs) c → EachBelow qs c
part_below qs c e = (or_split qs c).1 e

mutual
  pub transitive : (a b : Expanded) → IsSubtype a b → Past a b
  transitive _ _ (rule.in_everything a) c e = past a everything (λ x k. absurd k) (λ x f. absurd f) c e
  transitive _ _ (rule.of_nothing b) c e = rule.of_nothing c
  transitive _ _ (rule.of_integers low high low' high' p q) c e =
      past (integer low high) (integer low' high') (integers_past low high low' high' p q) (λ x f. absurd f) c e
  transitive _ _ (rule.of_strings n) c e = past (string n) (string None) (strings_past n) (λ x f. absurd f) c e
  transitive _ _ (rule.itself a h) c e = e
  transitive _ _ (rule.of_members bs cs p) c e = past (member bs) (member cs) (members_past bs cs p) (λ x f. absurd f) c e
  transitive _ _ (rule.of_subsets bs cs p) c e = past (subset bs) (subset cs) (subsets_past bs cs p) (λ x f. absurd f) c e
  transitive _ _ (rule.of_sequences a b s) c e =
      past (sequence a) (sequence b) (sequences_past a b (λ x d. transitive a b s x d)) (λ x f. absurd f) c e
  transitive _ _ (rule.each_part ps b s) c e = rule.each_part ps c (each_past ps b s c e)
  transitive _ _ (rule.in_some_part a qs s) c e = some_past a qs s c (part_below qs c e)
  transitive _ _ (rule.some_part ps b s) c e = rule.some_part ps c (one_past ps b s c e)
  transitive _ _ (rule.in_each_part a qs s) c e =
      past a (each_of qs) (λ x k. absurd k) (λ x f. all_past a qs s x f) c e
  transitive _ _ (rule.of_null_ors a b s) c e =
      past (null_or a) (null_or b) (null_ors_past a b (λ x d. transitive a b s x d)) (λ x f. absurd f) c e
  transitive _ _ (rule.in_null_or a b s) c e = past a (null_or b) (in_null_past a b (λ x d. transitive a b s x d)) (λ x f. absurd f) c e
  transitive _ _ (rule.of_token_ors xs ys a b p s) c e =
      past (token_or xs a) (token_or ys b) (token_ors_past xs ys a b p (λ x d. transitive a b s x d)) (λ x f. absurd f) c e
  transitive _ _ (rule.in_token_or a ys b s) c e =
      past a (token_or ys b) (in_token_past a ys b (λ x d. transitive a b s x d)) (λ x f. absurd f) c e
  transitive _ _ (rule.of_user x vs f a b s) c e = rule.of_user x vs f a c (transitive a b s c e)
  transitive _ _ (rule.of_host x low high b s) c e = rule.of_host x low high c (transitive (integer (Some low) (Some high)) b s c e)

  each_past : (ps : ExpandedTypes) (b : Expanded) → EachIsSubtype ps b → (c : Expanded) → IsSubtype b c → EachIsSubtype ps c
  each_past _ _ (rule.each_none b) c e = rule.each_none c
  each_past _ _ (rule.each_more a ps b s ss) c e = rule.each_more a ps c (transitive a b s c e) (each_past ps b ss c e)

  one_past : (ps : ExpandedTypes) (b : Expanded) → SomeIsSubtype ps b → (c : Expanded) → IsSubtype b c → SomeIsSubtype ps c
  one_past _ _ (rule.some_here a ps b s) c e = rule.some_here a ps c (transitive a b s c e)
  one_past _ _ (rule.some_later a ps b s) c e = rule.some_later a ps c (one_past ps b s c e)

  some_past : (a : Expanded) (qs : ExpandedTypes) → IsSubtypeOfSome a qs → (c : Expanded) → EachBelow qs c → IsSubtype a c
  some_past _ _ (rule.of_some_here a b qs s) c e = transitive a b s c e.0
  some_past _ _ (rule.of_some_later a b qs s) c e = some_past a qs s c e.1

  all_past : (a : Expanded) (qs : ExpandedTypes) → IsSubtypeOfEach a qs → (c : Expanded) → SomeBelow qs c → IsSubtype a c
  all_past _ _ (rule.of_each_none a) c e = absurd e
  all_past _ _ (rule.of_each_more a b qs s ss) c (inl e) = transitive a b s c e
  all_past _ _ (rule.of_each_more a b qs s ss) c (inr e) = all_past a qs ss c e
