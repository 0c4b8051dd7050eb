-- An `or` is a subtype exactly where each of its parts is, and a type is a subtype of an `and` exactly where it is one of each part.
use Rattle.std.proofs.Common.{◌≡◌, ◌↔◌, true}
use Rattle.std.specs.Prelude.{Some}
use Rattle.cl_lattice.specs.Expanded.{Expanded, everything, nothing, integer, some_of, each_of, null_or, token_or, host, user, ExpandedTypes, none, part}
use Rattle.cl_lattice.specs.Subtypes.{IsSubtype, EachIsSubtype, SomeIsSubtype, IsSubtypeOfEach, IsSubtypeOfSome, is_whole}
use Rattle.cl_lattice.specs.Subtypes as rule
use Rattle.cl_lattice.specs.SubtypeWays.{EachBelow, BelowEach}
use Rattle.cl_lattice.proofs.SubtypeWayLemmas.{Onto, each_onto, each_below, each_derived, below_each, below_each_derived}

-- each of the first types is below each of the second
abbrev pub EachBelowEach : ExpandedTypes → ExpandedTypes → Type 0
EachBelowEach none qs = Unit {0}
EachBelowEach (part p ps) qs = BelowEach p qs × EachBelowEach ps qs

no_second : (ps : ExpandedTypes) → EachBelowEach ps none
no_second none = tt
no_second (part p ps) = (tt, no_second ps)

one_more_second : (ps : ExpandedTypes) (q : Expanded) (qs : ExpandedTypes) → EachBelow ps q → EachBelowEach ps qs → EachBelowEach ps (part q qs)
one_more_second none q qs h hs = tt
one_more_second (part p ps) q qs h hs = ((h.0, hs.0), one_more_second ps q qs h.1 hs.1)

each_below_and : (ps qs : ExpandedTypes) → EachBelowEach ps qs → EachBelow ps (each_of qs)
each_below_and none qs h = tt
each_below_and (part p ps) qs h = (rule.in_each_part p qs (below_each_derived p qs h.0), each_below_and ps qs h.1)

firsts : (ps : ExpandedTypes) (q : Expanded) (qs : ExpandedTypes) → EachBelowEach ps (part q qs) → EachBelow ps q
firsts none q qs h = tt
firsts (part p ps) q qs h = (h.0.0, firsts ps q qs h.1)

others : (ps : ExpandedTypes) (q : Expanded) (qs : ExpandedTypes) → EachBelowEach ps (part q qs) → EachBelowEach ps qs
others none q qs h = tt
others (part p ps) q qs h = (h.0.1, others ps q qs h.1)

or_below_each : (ps qs : ExpandedTypes) → EachBelowEach ps qs → BelowEach (some_of ps) qs
or_below_each ps none h = tt
or_below_each ps (part q qs) h = (rule.each_part ps q (each_derived ps q (firsts ps q qs h)), or_below_each ps qs (others ps q qs h))

-- ---- the first is an `or`

-- each part is below, if the first is an `or`
abbrev pub IfOr : Expanded → Expanded → Type 0
IfOr (some_of ps) b = EachBelow ps b
IfOr a b = Unit {0}

abbrev IfOrEach : Expanded → ExpandedTypes → Type 0
IfOrEach (some_of ps) qs = EachBelowEach ps qs
IfOrEach a qs = Unit {0}

all_in_everything : (ps : ExpandedTypes) → EachBelow ps everything
all_in_everything none = tt
all_in_everything (part p ps) = (rule.in_everything p, all_in_everything ps)

or_in_everything : (a : Expanded) → IfOr a everything
or_in_everything (some_of ps) = all_in_everything ps
or_in_everything a = tt

or_itself : (a : Expanded) → is_whole a ≡ true → IfOr a a
or_itself (some_of ps) h = cc
or_itself a h = tt

or_onto : (a b b' : Expanded) → Onto b b' → IfOr a b → IfOr a b'
or_onto (some_of ps) b b' on h = each_onto ps b b' on h
or_onto a b b' on h = tt

or_no_second : (a : Expanded) → IfOrEach a none
or_no_second (some_of ps) = no_second ps
or_no_second a = tt

or_one_more : (a q : Expanded) (qs : ExpandedTypes) → IfOr a q → IfOrEach a qs → IfOrEach a (part q qs)
or_one_more (some_of ps) q qs h hs = one_more_second ps q qs h hs
or_one_more a q qs h hs = tt

or_in_and : (a : Expanded) (qs : ExpandedTypes) → IfOrEach a qs → IfOr a (each_of qs)
or_in_and (some_of ps) qs h = each_below_and ps qs h
or_in_and a qs h = tt

mutual
  pub if_or : (a b : Expanded) → IsSubtype a b → IfOr a b
  if_or _ _ (rule.in_everything a) = or_in_everything a
  if_or _ _ (rule.of_nothing b) = tt
  if_or _ _ (rule.of_integers low high low' high' p q) = tt
  if_or _ _ (rule.of_strings n) = tt
  if_or _ _ (rule.itself a h) = or_itself a h
  if_or _ _ (rule.of_members cs ds h) = tt
  if_or _ _ (rule.of_subsets cs ds h) = tt
  if_or _ _ (rule.of_sequences a b h) = tt
  if_or _ _ (rule.each_part ps b h) = each_below ps b h
  if_or _ _ (rule.in_some_part a qs h) = if_or_some a qs (some_of qs) (λ x d. rule.in_some_part x qs d) h
  if_or _ _ (rule.some_part ps b h) = tt
  if_or _ _ (rule.in_each_part a qs h) = or_in_and a qs (if_or_each a qs h)
  if_or _ _ (rule.of_null_ors a b h) = tt
  if_or _ _ (rule.in_null_or a b h) = or_onto a b (null_or b) (λ x d. rule.in_null_or x b d) (if_or a b h)
  if_or _ _ (rule.of_token_ors xs ys a b p h) = tt
  if_or _ _ (rule.in_token_or a ys b h) = or_onto a b (token_or ys b) (λ x d. rule.in_token_or x ys b d) (if_or a b h)
  if_or _ _ (rule.of_user x vs f a b h) = tt
  if_or _ _ (rule.of_host x low high b h) = tt

  if_or_some : (a : Expanded) (qs : ExpandedTypes) (b : Expanded) → ((x : Expanded) → IsSubtypeOfSome x qs → IsSubtype x b) → IsSubtypeOfSome a qs → IfOr a b
  if_or_some _ _ b on (rule.of_some_here a q qs h) = or_onto a q b (λ x d. on x (rule.of_some_here x q qs d)) (if_or a q h)
  if_or_some _ _ b on (rule.of_some_later a q qs h) = if_or_some a qs b (λ x d. on x (rule.of_some_later x q qs d)) h

  if_or_each : (a : Expanded) (qs : ExpandedTypes) → IsSubtypeOfEach a qs → IfOrEach a qs
  if_or_each _ _ (rule.of_each_none a) = or_no_second a
  if_or_each _ _ (rule.of_each_more a q qs h hs) = or_one_more a q qs (if_or a q h) (if_or_each a qs hs)

-- an `or` is below exactly where each part is
pub or_split : (ps : ExpandedTypes) (b : Expanded) → EachBelow ps b ↔ IsSubtype (some_of ps) b
or_split ps b = (λ h. rule.each_part ps b (each_derived ps b h), λ d. if_or (some_of ps) b d)

-- ---- the second is an `and`

-- it is below each part, if the second is an `and`
abbrev pub IfAnd : Expanded → Expanded → Type 0
IfAnd a (each_of qs) = BelowEach a qs
IfAnd a b = Unit {0}

abbrev EachIfAnd : ExpandedTypes → Expanded → Type 0
EachIfAnd ps (each_of qs) = EachBelowEach ps qs
EachIfAnd ps b = Unit {0}

none_below_each : (qs : ExpandedTypes) → BelowEach nothing qs
none_below_each none = tt
none_below_each (part q qs) = (rule.of_nothing q, none_below_each qs)

and_of_nothing : (b : Expanded) → IfAnd nothing b
and_of_nothing (each_of qs) = none_below_each qs
and_of_nothing b = tt

and_itself : (a : Expanded) → is_whole a ≡ true → IfAnd a a
and_itself (each_of ps) h = cc
and_itself a h = tt

-- what a part is below, the whole is below
abbrev Under : Expanded → Expanded → Type 0
Under p a = (x : Expanded) → IsSubtype p x → IsSubtype a x

each_under : (p a : Expanded) (qs : ExpandedTypes) → Under p a → BelowEach p qs → BelowEach a qs
each_under p a none under h = tt
each_under p a (part q qs) under h = (under q h.0, each_under p a qs under h.1)

and_under : (p a b : Expanded) → Under p a → IfAnd p b → IfAnd a b
and_under p a (each_of qs) under h = each_under p a qs under h
and_under p a b under h = tt

and_no_first : (b : Expanded) → EachIfAnd none b
and_no_first (each_of qs) = tt
and_no_first b = tt

and_one_more : (a : Expanded) (ps : ExpandedTypes) (b : Expanded) → IfAnd a b → EachIfAnd ps b → EachIfAnd (part a ps) b
and_one_more a ps (each_of qs) h hs = (h, hs)
and_one_more a ps b h hs = tt

and_of_or : (ps : ExpandedTypes) (b : Expanded) → EachIfAnd ps b → IfAnd (some_of ps) b
and_of_or ps (each_of qs) h = or_below_each ps qs h
and_of_or ps b h = tt

mutual
  pub if_and : (a b : Expanded) → IsSubtype a b → IfAnd a b
  if_and _ _ (rule.in_everything a) = tt
  if_and _ _ (rule.of_nothing b) = and_of_nothing b
  if_and _ _ (rule.of_integers low high low' high' p q) = tt
  if_and _ _ (rule.of_strings n) = tt
  if_and _ _ (rule.itself a h) = and_itself a h
  if_and _ _ (rule.of_members cs ds h) = tt
  if_and _ _ (rule.of_subsets cs ds h) = tt
  if_and _ _ (rule.of_sequences a b h) = tt
  if_and _ _ (rule.each_part ps b h) = and_of_or ps b (each_if_and ps b h)
  if_and _ _ (rule.in_some_part a qs h) = tt
  if_and _ _ (rule.some_part ps b h) = some_if_and ps b (each_of ps) (λ x d. rule.some_part ps x d) h
  if_and _ _ (rule.in_each_part a qs h) = below_each a qs h
  if_and _ _ (rule.of_null_ors a b h) = tt
  if_and _ _ (rule.in_null_or a b h) = tt
  if_and _ _ (rule.of_token_ors xs ys a b p h) = tt
  if_and _ _ (rule.in_token_or a ys b h) = tt
  if_and _ _ (rule.of_user x vs f a b h) = and_under a (user x vs f a) b (λ y d. rule.of_user x vs f a y d) (if_and a b h)
  if_and _ _ (rule.of_host x low high b h) =
      and_under (integer (Some low) (Some high)) (host x low high) b (λ y d. rule.of_host x low high y d) (if_and (integer (Some low) (Some high)) b h)

  each_if_and : (ps : ExpandedTypes) (b : Expanded) → EachIsSubtype ps b → EachIfAnd ps b
  each_if_and _ _ (rule.each_none b) = and_no_first b
  each_if_and _ _ (rule.each_more a ps b h hs) = and_one_more a ps b (if_and a b h) (each_if_and ps b hs)

  some_if_and : (ps : ExpandedTypes) (b a : Expanded) → ((x : Expanded) → SomeIsSubtype ps x → IsSubtype a x) → SomeIsSubtype ps b → IfAnd a b
  some_if_and _ _ a under (rule.some_here p ps b h) = and_under p a b (λ x d. under x (rule.some_here p ps x d)) (if_and p b h)
  some_if_and _ _ a under (rule.some_later p ps b h) = some_if_and ps b a (λ x d. under x (rule.some_later p ps x d)) h

-- a type is below an `and` exactly where it is below each part
pub and_split : (a : Expanded) (qs : ExpandedTypes) → BelowEach a qs ↔ IsSubtype a (each_of qs)
and_split a qs = (λ h. rule.in_each_part a qs (below_each_derived a qs h), λ d. if_and a (each_of qs) d)
