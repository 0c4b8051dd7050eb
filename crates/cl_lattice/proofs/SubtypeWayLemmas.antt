-- One type is a subtype of another exactly in one of the ways.
use Rattle.std.proofs.Common.{◌≡◌, ◌↔◌, ℕ, ℤ, true, List, refl, ap, subst, inl, inr}
use Rattle.std.specs.Prelude.{◌⊎◌, Option, Some, None}
use Rattle.cl_lattice.specs.Expanded.{Expanded, everything, nothing, boolean, symbols, blank_area, command, dialog_choice, integer, string, member, subset, sequence, some_of, each_of, null_or, token_or, record_type, host, user, unknown, ExpandedTypes, none, part}
use Rattle.cl_lattice.specs.Subtypes.{IsSubtype, EachIsSubtype, SomeIsSubtype, IsSubtypeOfEach, IsSubtypeOfSome, is_whole}
use Rattle.cl_lattice.specs.Subtypes as rule
use Rattle.cl_lattice.specs.SubtypeWays.{IsLengthWithin, ByHeads, EachBelow, SomeBelow, BelowEach, ByFirst, BySecond, BySomeSecond}

-- ---- lists of parts, as derivations and as words

pub each_below : (ps : ExpandedTypes) (b : Expanded) → EachIsSubtype ps b → EachBelow ps b
each_below _ _ (rule.each_none b) = tt
each_below _ _ (rule.each_more a ps b h hs) = (h, each_below ps b hs)

pub each_derived : (ps : ExpandedTypes) (b : Expanded) → EachBelow ps b → EachIsSubtype ps b
each_derived none b h = rule.each_none b
each_derived (part a ps) b h = rule.each_more a ps b h.0 (each_derived ps b h.1)

pub some_below : (ps : ExpandedTypes) (b : Expanded) → SomeIsSubtype ps b → SomeBelow ps b
some_below _ _ (rule.some_here a ps b h) = inl h
some_below _ _ (rule.some_later a ps b h) = inr (some_below ps b h)

pub some_derived : (ps : ExpandedTypes) (b : Expanded) → SomeBelow ps b → SomeIsSubtype ps b
some_derived none b h = absurd h
some_derived (part a ps) b (inl h) = rule.some_here a ps b h
some_derived (part a ps) b (inr h) = rule.some_later a ps b (some_derived ps b h)

pub below_each : (a : Expanded) (qs : ExpandedTypes) → IsSubtypeOfEach a qs → BelowEach a qs
below_each _ _ (rule.of_each_none a) = tt
below_each _ _ (rule.of_each_more a b qs h hs) = (h, below_each a qs hs)

pub below_each_derived : (a : Expanded) (qs : ExpandedTypes) → BelowEach a qs → IsSubtypeOfEach a qs
below_each_derived a none h = rule.of_each_none a
below_each_derived a (part b qs) h = rule.of_each_more a b qs h.0 (below_each_derived a qs h.1)

-- ---- each way derives it

whole : (a b : Expanded) → is_whole a ≡ true → a ≡ b → IsSubtype a b
whole a b h e = let P : Expanded → Type 0 = λ x. IsSubtype a x in subst P e (rule.itself a h)

strings_derived : (n m : Option ℤ) → IsLengthWithin n m → IsSubtype (string n) (string m)
strings_derived n None h = rule.of_strings n
strings_derived None (Some m) h = absurd h
strings_derived (Some n) (Some m) h = whole (string (Some n)) (string (Some m)) refl (ap (λ z. string (Some z)) h)

pub by_heads_derived : (a b : Expanded) → ByHeads a b → IsSubtype a b
by_heads_derived boolean boolean h = rule.itself boolean refl
by_heads_derived symbols symbols h = rule.itself symbols refl
by_heads_derived blank_area blank_area h = rule.itself blank_area refl
by_heads_derived command command h = rule.itself command refl
by_heads_derived dialog_choice dialog_choice h = rule.itself dialog_choice refl
by_heads_derived (integer low high) (integer low' high') h = rule.of_integers low high low' high' h.0 h.1
by_heads_derived (string n) (string m) h = strings_derived n m h
by_heads_derived (member cs) (member ds) h = rule.of_members cs ds h
by_heads_derived (subset cs) (subset ds) h = rule.of_subsets cs ds h
by_heads_derived (sequence a) (sequence b) h = rule.of_sequences a b h
by_heads_derived (null_or a) (null_or b) h = rule.of_null_ors a b h
by_heads_derived (token_or xs a) (token_or ys b) h = rule.of_token_ors xs ys a b h.0 h.1
by_heads_derived (record_type x) (record_type y) h = whole (record_type x) (record_type y) refl (ap record_type h)
by_heads_derived (host x low high) (host y low' high') h =
    let names : x ≡ y = h.0 in
    let lows : low ≡ low' = h.1 in
    let highs : high ≡ high' = h.2 in
    whole (host x low high) (host y low' high') refl (λ i. host (names i) (lows i) (highs i))
by_heads_derived (user x vs f a) (user y ws g b) h = whole (user x vs f a) (user y ws g b) refl h
by_heads_derived (unknown x vs) (unknown y ws) h =
    let names : x ≡ y = h.0 in
    let values : vs ≡ ws = h.1 in
    whole (unknown x vs) (unknown y ws) refl (λ i. unknown (names i) (values i))
by_heads_derived a b h = absurd h

pub by_first_derived : (a b : Expanded) → ByFirst a b → IsSubtype a b
by_first_derived nothing b h = rule.of_nothing b
by_first_derived (some_of ps) b h = rule.each_part ps b (each_derived ps b h)
by_first_derived (each_of ps) b h = rule.some_part ps b (some_derived ps b h)
by_first_derived (user x vs f a) b h = rule.of_user x vs f a b h
by_first_derived (host x low high) b h = rule.of_host x low high b h
by_first_derived a b h = absurd h

mutual
  pub by_second_derived : (a b : Expanded) → BySecond a b → IsSubtype a b
  by_second_derived a everything h = rule.in_everything a
  by_second_derived a (some_of qs) h = rule.in_some_part a qs (by_some_second_derived a qs h)
  by_second_derived a (each_of qs) h = rule.in_each_part a qs (below_each_derived a qs h)
  by_second_derived a (null_or b) (inl h) = by_heads_derived a (null_or b) h
  by_second_derived a (null_or b) (inr h) = rule.in_null_or a b (by_second_derived a b h)
  by_second_derived a (token_or ys b) (inl h) = by_heads_derived a (token_or ys b) h
  by_second_derived a (token_or ys b) (inr h) = rule.in_token_or a ys b (by_second_derived a b h)
  by_second_derived a b h = by_heads_derived a b h

  by_some_second_derived : (a : Expanded) (qs : ExpandedTypes) → BySomeSecond a qs → IsSubtypeOfSome a qs
  by_some_second_derived a none h = absurd h
  by_some_second_derived a (part b qs) (inl h) = rule.of_some_here a b qs (by_second_derived a b h)
  by_some_second_derived a (part b qs) (inr h) = rule.of_some_later a b qs (by_some_second_derived a qs h)

-- ---- what is derived is so in one of the ways

itself_by_heads : (a : Expanded) → is_whole a ≡ true → ByHeads a a
itself_by_heads boolean h = tt
itself_by_heads symbols h = tt
itself_by_heads blank_area h = tt
itself_by_heads command h = tt
itself_by_heads dialog_choice h = tt
itself_by_heads (string None) h = tt
itself_by_heads (string (Some n)) h = refl
itself_by_heads (record_type x) h = refl
itself_by_heads (host x low high) h = (refl, refl, refl)
itself_by_heads (user x vs f a) h = refl
itself_by_heads (unknown x vs) h = (refl, refl)
itself_by_heads everything h = cc
itself_by_heads nothing h = cc
itself_by_heads (integer low high) h = cc
itself_by_heads (member cs) h = cc
itself_by_heads (subset cs) h = cc
itself_by_heads (sequence a) h = cc
itself_by_heads (some_of ps) h = cc
itself_by_heads (each_of ps) h = cc
itself_by_heads (null_or a) h = cc
itself_by_heads (token_or xs a) h = cc

-- a whole type by the second
itself_by_second : (a : Expanded) → is_whole a ≡ true → BySecond a a
itself_by_second boolean h = tt
itself_by_second symbols h = tt
itself_by_second blank_area h = tt
itself_by_second command h = tt
itself_by_second dialog_choice h = tt
itself_by_second (string n) h = itself_by_heads (string n) h
itself_by_second (record_type x) h = refl
itself_by_second (host x low high) h = (refl, refl, refl)
itself_by_second (user x vs f a) h = refl
itself_by_second (unknown x vs) h = (refl, refl)
itself_by_second everything h = cc
itself_by_second nothing h = cc
itself_by_second (integer low high) h = cc
itself_by_second (member cs) h = cc
itself_by_second (subset cs) h = cc
itself_by_second (sequence a) h = cc
itself_by_second (some_of ps) h = cc
itself_by_second (each_of ps) h = cc
itself_by_second (null_or a) h = cc
itself_by_second (token_or xs a) h = cc

-- what is below a part is below the whole
abbrev pub Onto : Expanded → Expanded → Type 0
Onto b b' = (x : Expanded) → IsSubtype x b → IsSubtype x b'

pub each_onto : (ps : ExpandedTypes) (b b' : Expanded) → Onto b b' → EachBelow ps b → EachBelow ps b'
each_onto none b b' on h = tt
each_onto (part a ps) b b' on h = (on a h.0, each_onto ps b b' on h.1)

some_onto : (ps : ExpandedTypes) (b b' : Expanded) → Onto b b' → SomeBelow ps b → SomeBelow ps b'
some_onto none b b' on h = absurd h
some_onto (part a ps) b b' on (inl h) = inl (on a h)
some_onto (part a ps) b b' on (inr h) = inr (some_onto ps b b' on h)

first_onto : (a b b' : Expanded) → Onto b b' → ByFirst a b → ByFirst a b'
first_onto nothing b b' on h = tt
first_onto (some_of ps) b b' on h = each_onto ps b b' on h
first_onto (each_of ps) b b' on h = some_onto ps b b' on h
first_onto (user x vs f a) b b' on h = on a h
first_onto (host x low high) b b' on h = on (integer (Some low) (Some high)) h
first_onto a b b' on h = absurd h

abbrev pub InSomeWay : Expanded → Expanded → Type 0
InSomeWay a b = BySecond a b ⊎ ByFirst a b

in_null : (a b : Expanded) → InSomeWay a b → InSomeWay a (null_or b)
in_null a b (inl h) = inl (inr h)
in_null a b (inr h) = inr (first_onto a b (null_or b) (λ x d. rule.in_null_or x b d) h)

in_token : (a : Expanded) (ys : List (List ℕ)) (b : Expanded) → InSomeWay a b → InSomeWay a (token_or ys b)
in_token a ys b (inl h) = inl (inr h)
in_token a ys b (inr h) = inr (first_onto a b (token_or ys b) (λ x d. rule.in_token_or x ys b d) h)

way_here : (a q : Expanded) (qs : ExpandedTypes) (b : Expanded) → Onto q b → InSomeWay a q → BySomeSecond a (part q qs) ⊎ ByFirst a b
way_here a q qs b on (inl h) = inl (inl h)
way_here a q qs b on (inr h) = inr (first_onto a q b on h)

way_later : (a q : Expanded) (qs : ExpandedTypes) (b : Expanded) → BySomeSecond a qs ⊎ ByFirst a b → BySomeSecond a (part q qs) ⊎ ByFirst a b
way_later a q qs b (inl h) = inl (inr h)
way_later a q qs b (inr h) = inr h

mutual
  pub way : (a b : Expanded) → IsSubtype a b → InSomeWay a b
  way _ _ (rule.in_everything a) = inl tt
  way _ _ (rule.of_nothing b) = inr tt
  way _ _ (rule.of_integers low high low' high' p q) = inl (p, q)
  way _ _ (rule.of_strings n) = inl tt
  way _ _ (rule.itself a h) = inl (itself_by_second a h)
  way _ _ (rule.of_members cs ds h) = inl h
  way _ _ (rule.of_subsets cs ds h) = inl h
  way _ _ (rule.of_sequences a b h) = inl h
  way _ _ (rule.each_part ps b h) = inr (each_below ps b h)
  way _ _ (rule.in_some_part a qs h) = way_of_some a qs (some_of qs) (λ x d. rule.in_some_part x qs d) h
  way _ _ (rule.some_part ps b h) = inr (some_below ps b h)
  way _ _ (rule.in_each_part a qs h) = inl (below_each a qs h)
  way _ _ (rule.of_null_ors a b h) = inl (inl h)
  way _ _ (rule.in_null_or a b h) = in_null a b (way a b h)
  way _ _ (rule.of_token_ors xs ys a b p h) = inl (inl (p, h))
  way _ _ (rule.in_token_or a ys b h) = in_token a ys b (way a b h)
  way _ _ (rule.of_user x vs f a b h) = inr h
  way _ _ (rule.of_host x low high b h) = inr h

  way_of_some : (a : Expanded) (qs : ExpandedTypes) (b : Expanded) → ((x : Expanded) → IsSubtypeOfSome x qs → IsSubtype x b) → IsSubtypeOfSome a qs → BySomeSecond a qs ⊎ ByFirst a b
  way_of_some _ _ b on (rule.of_some_here a q qs h) = way_here a q qs b (λ x d. on x (rule.of_some_here x q qs d)) (way a q h)
  way_of_some _ _ b on (rule.of_some_later a q qs h) = way_later a q qs b (way_of_some a qs b (λ x d. on x (rule.of_some_later x q qs d)) h)

-- one type is a subtype of another exactly by the second or by the first
pub either : (a b : Expanded) → (BySecond a b ⊎ ByFirst a b) ↔ IsSubtype a b
either a b = (λ h. elim h [ inl s ↦ by_second_derived a b s | inr f ↦ by_first_derived a b f ], λ d. way a b d)
