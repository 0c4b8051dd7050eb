-- Answers for all parts of a second type.
use Rattle.std.proofs.Common.{◌≡◌, ◌↔◌, ℕ, suc, ◌+◌, Bool, true, false, List, [], ◌∷◌, ◌++◌, length, drop, refl, ap, sym, subst, inl, inr, append_assoc, length-append, ◌∙◌}
use Rattle.std.proofs.lemmas.List.{drop-drop}
use Rattle.std.specs.Prelude.{◌⊎◌, ◌||◌, ◌&&◌}
use Rattle.cl_lattice.specs.Expanded.{Expanded, sequence, some_of, null_or, token_or, ExpandedTypes, none, part}
use Rattle.cl_lattice.specs.Subtypes.{IsSubtype}
use Rattle.cl_lattice.specs.Subtypes as rule
use Rattle.cl_lattice.specs.SubtypeRows.{Tells, TellsAll, Adds, BelowSome, InnerTells, RowOf, never, always, known, RowTells, RowTellsFrom, KnownTells, zip_and, zip_or, both_rows, either_row}
use Rattle.cl_lattice.specs.SubtypeWays.{ByHeads, ByFirst, BySomeSecond}
use Rattle.cl_lattice.proofs.SubtypeWayLemmas.{either, by_second_derived, by_heads_derived, by_first_derived}

-- ---- one step at the second type

some_derived : (a : Expanded) (qs : ExpandedTypes) → BelowSome a qs → rule.IsSubtypeOfSome a qs
some_derived a none h = absurd h
some_derived a (part b qs) (inl h) = rule.of_some_here a b qs h
some_derived a (part b qs) (inr h) = rule.of_some_later a b qs (some_derived a qs h)

some_second : (a : Expanded) (qs : ExpandedTypes) → BySomeSecond a qs → BelowSome a qs
some_second a none h = absurd h
some_second a (part b qs) (inl h) = inl (by_second_derived a b h)
some_second a (part b qs) (inr h) = inr (some_second a qs h)

pub step_some : (a : Expanded) (qs : ExpandedTypes) → (BelowSome a qs ⊎ ByFirst a (some_of qs)) ↔ IsSubtype a (some_of qs)
step_some a qs = (
  λ h. elim h [ inl s ↦ rule.in_some_part a qs (some_derived a qs s) | inr f ↦ by_first_derived a (some_of qs) f ],
  λ d. elim ((either a (some_of qs)).1 d) [ inl s ↦ inl (some_second a qs s) | inr f ↦ inr f ],
)

pub step_null : (a t : Expanded) → ((IsSubtype a t ⊎ ByHeads a (null_or t)) ⊎ ByFirst a (null_or t)) ↔ IsSubtype a (null_or t)
step_null a t = (
  λ h. elim h [ inl s ↦ elim s [ inl d ↦ rule.in_null_or a t d | inr k ↦ by_heads_derived a (null_or t) k ] | inr f ↦ by_first_derived a (null_or t) f ],
  λ d. elim ((either a (null_or t)).1 d) [ inl s ↦ elim s [ inl k ↦ inl (inr k) | inr k ↦ inl (inl (by_second_derived a t k)) ] | inr f ↦ inr f ],
)

pub step_token : (a : Expanded) (ys : List (List ℕ)) (t : Expanded) → ((IsSubtype a t ⊎ ByHeads a (token_or ys t)) ⊎ ByFirst a (token_or ys t)) ↔ IsSubtype a (token_or ys t)
step_token a ys t = (
  λ h. elim h [ inl s ↦ elim s [ inl d ↦ rule.in_token_or a ys t d | inr k ↦ by_heads_derived a (token_or ys t) k ] | inr f ↦ by_first_derived a (token_or ys t) f ],
  λ d. elim ((either a (token_or ys t)).1 d) [ inl s ↦ elim s [ inl k ↦ inl (inr k) | inr k ↦ inl (inl (by_second_derived a t k)) ] | inr f ↦ inr f ],
)

-- ---- answers behind one another

tells_first : (P : Expanded → Type 0) (qs us : List Expanded) (rs : List Bool) → Tells P (qs ++ us) rs → Tells P qs rs
tells_first P [] us rs h = tt
tells_first P (q ∷ qs) us [] h = absurd h
tells_first P (q ∷ qs) us (r ∷ rs) h = (h.0, tells_first P qs us rs h.1)

pub tells_behind : (P : Expanded → Type 0) (qs us : List Expanded) (rs : List Bool) → Tells P (qs ++ us) rs → Tells P us (drop (length qs) rs)
tells_behind P [] us rs h = h
tells_behind P (q ∷ qs) us [] h = absurd h
tells_behind P (q ∷ qs) us (r ∷ rs) h = tells_behind P qs us rs h.1

pub all_length : (P : Expanded → Type 0) (qs : List Expanded) (rs : List Bool) → TellsAll P qs rs → length rs ≡ length qs
all_length P [] [] h = refl
all_length P [] (r ∷ rs) h = absurd h
all_length P (q ∷ qs) [] h = absurd h
all_length P (q ∷ qs) (r ∷ rs) h = ap suc (all_length P qs rs h.1)

pub all_tell : (P : Expanded → Type 0) (qs : List Expanded) (rs : List Bool) → TellsAll P qs rs → Tells P qs rs
all_tell P [] rs h = tt
all_tell P (q ∷ qs) [] h = absurd h
all_tell P (q ∷ qs) (r ∷ rs) h = (h.0, all_tell P qs rs h.1)

all_join : (P : Expanded → Type 0) (qs us : List Expanded) (rs ss : List Bool) → TellsAll P qs rs → TellsAll P us ss → TellsAll P (qs ++ us) (rs ++ ss)
all_join P [] us [] ss h k = k
all_join P [] us (r ∷ rs) ss h k = absurd h
all_join P (q ∷ qs) us [] ss h k = absurd h
all_join P (q ∷ qs) us (r ∷ rs) ss h k = (h.0, all_join P qs us rs ss h.1 k)

pub adds_join : (P : Expanded → Type 0) (qs us : List Expanded) (x y z : List Bool) → Adds P qs x y → Adds P us y z → Adds P (qs ++ us) x z
adds_join P qs us x y z h k = record {
  added = h.added ++ k.added;
  grown = k.grown ∙ (ap (λ v. v ++ k.added) h.grown ∙ append_assoc x h.added k.added);
  tell = all_join P qs us h.added k.added h.tell k.tell;
}

pub adds_one : (P : Expanded → Type 0) (q : Expanded) (x : List Bool) (r : Bool) → ((r ≡ true) ↔ P q) → Adds P (q ∷ []) x (x ++ r ∷ [])
adds_one P q x r h = record { added = r ∷ []; grown = refl; tell = (h, tt) }

-- ---- rows put together

pub both_iff : (x y : Bool) (P Q : Type 0) → ((x ≡ true) ↔ P) → ((y ≡ true) ↔ Q) → ((x && y) ≡ true) ↔ (P × Q)
both_iff true y P Q h k = (λ e. (h.0 refl, k.0 e), λ p. k.1 p.1)
both_iff false y P Q h k = (λ e. cc, λ p. h.1 p.0)

pub wrong : (y : Bool) → false ≡ true → y ≡ true
wrong y e = cc

pub either_iff : (x y : Bool) (P Q : Type 0) → ((x ≡ true) ↔ P) → ((y ≡ true) ↔ Q) → ((x || y) ≡ true) ↔ (P ⊎ Q)
either_iff true y P Q h k = (λ e. inl (h.0 refl), λ p. refl)
either_iff false y P Q h k = (λ e. inr (k.0 e), λ s. elim s [ inl p ↦ wrong y (h.1 p) | inr q ↦ k.1 q ])

zip_tells : (P Q : Expanded → Type 0) (qs : List Expanded) (xs ys : List Bool) → TellsAll P qs xs → TellsAll Q qs ys → TellsAll (λ q. P q × Q q) qs (zip_and xs ys)
zip_tells P Q [] [] ys h k = tt
zip_tells P Q [] (x ∷ xs) ys h k = absurd h
zip_tells P Q (q ∷ qs) [] ys h k = absurd h
zip_tells P Q (q ∷ qs) (x ∷ xs) [] h k = absurd k
zip_tells P Q (q ∷ qs) (x ∷ xs) (y ∷ ys) h k = (both_iff x y (P q) (Q q) h.0 k.0, zip_tells P Q qs xs ys h.1 k.1)

zip_either : (P Q : Expanded → Type 0) (qs : List Expanded) (xs ys : List Bool) → TellsAll P qs xs → TellsAll Q qs ys → TellsAll (λ q. P q ⊎ Q q) qs (zip_or xs ys)
zip_either P Q [] [] ys h k = tt
zip_either P Q [] (x ∷ xs) ys h k = absurd h
zip_either P Q (q ∷ qs) [] ys h k = absurd h
zip_either P Q (q ∷ qs) (x ∷ xs) [] h k = absurd k
zip_either P Q (q ∷ qs) (x ∷ xs) (y ∷ ys) h k = (either_iff x y (P q) (Q q) h.0 k.0, zip_either P Q qs xs ys h.1 k.1)

-- the same answers for what is the same
pub all_same : (P Q : Expanded → Type 0) → ((q : Expanded) → P q ↔ Q q) → (qs : List Expanded) (rs : List Bool) → TellsAll P qs rs → TellsAll Q qs rs
all_same P Q e [] [] h = tt
all_same P Q e [] (r ∷ rs) h = absurd h
all_same P Q e (q ∷ qs) [] h = absurd h
all_same P Q e (q ∷ qs) (r ∷ rs) h = ((λ k. (e q).0 (h.0.0 k), λ k. h.0.1 ((e q).1 k)), all_same P Q e qs rs h.1)

pub both_tell : (P Q : Expanded → Type 0) (qs : List Expanded) (a b : RowOf) → RowTells P qs a → RowTells Q qs b → RowTells (λ q. P q × Q q) qs (both_rows a b)
both_tell P Q qs never b h k = λ q p. h q p.0
both_tell P Q qs always never h k = λ q p. k q p.1
both_tell P Q qs always always h k = λ q. (h q, k q)
both_tell P Q qs always (known ys) h k = all_same Q (λ q. P q × Q q) (λ q. (λ y. (h q, y), λ p. p.1)) qs ys k
both_tell P Q qs (known xs) never h k = λ q p. k q p.1
both_tell P Q qs (known xs) always h k = all_same P (λ q. P q × Q q) (λ q. (λ x. (x, k q), λ p. p.0)) qs xs h
both_tell P Q qs (known xs) (known ys) h k = zip_tells P Q qs xs ys h k

pub either_tells : (P Q : Expanded → Type 0) (qs : List Expanded) (a b : RowOf) → RowTells P qs a → RowTells Q qs b → RowTells (λ q. P q ⊎ Q q) qs (either_row a b)
either_tells P Q qs always b h k = λ q. inl (h q)
either_tells P Q qs never never h k = λ q s. elim s [ inl p ↦ h q p | inr p ↦ k q p ]
either_tells P Q qs never always h k = λ q. inr (k q)
either_tells P Q qs never (known ys) h k = all_same Q (λ q. P q ⊎ Q q) (λ q. (λ y. inr y, λ s. elim s [ inl p ↦ absurd (h q p) | inr p ↦ p ])) qs ys k
either_tells P Q qs (known xs) always h k = λ q. inr (k q)
either_tells P Q qs (known xs) never h k = all_same P (λ q. P q ⊎ Q q) (λ q. (λ x. inl x, λ s. elim s [ inl p ↦ p | inr p ↦ absurd (k q p) ])) qs xs h
either_tells P Q qs (known xs) (known ys) h k = zip_either P Q qs xs ys h k

-- a row from its first place on
pub from_start : (P : Expanded → Type 0) (qs : List Expanded) (a : RowOf) → RowTells P qs a → RowTellsFrom P qs 0 a
from_start P qs never h = h
from_start P qs always h = h
from_start P qs (known rs) h = all_tell P qs rs h

-- ---- from a place on

row_first : (P : Expanded → Type 0) (qs us : List Expanded) (n : ℕ) (a : RowOf) → RowTellsFrom P (qs ++ us) n a → RowTellsFrom P qs n a
row_first P qs us n never h = h
row_first P qs us n always h = h
row_first P qs us n (known rs) h = tells_first P qs us (drop n rs) h

row_behind : (P : Expanded → Type 0) (qs us : List Expanded) (n : ℕ) (a : RowOf) → RowTellsFrom P (qs ++ us) n a → RowTellsFrom P us (n + length qs) a
row_behind P qs us n never h = h
row_behind P qs us n always h = h
row_behind P qs us n (known rs) h = subst (λ (x : List Bool). Tells P us x) (drop-drop (length qs) n rs) (tells_behind P qs us (drop n rs) h)

inner_first : (a : Expanded) (qs us : List Expanded) (rs : List Bool) → InnerTells a (qs ++ us) rs → InnerTells a qs rs
inner_first (sequence t) qs us rs h = tells_first (IsSubtype t) qs us rs h
inner_first (null_or t) qs us rs h = tells_first (IsSubtype t) qs us rs h
inner_first (token_or xs t) qs us rs h = tells_first (IsSubtype t) qs us rs h
inner_first a qs us rs h = tt

inner_behind : (a : Expanded) (qs us : List Expanded) (rs : List Bool) → InnerTells a (qs ++ us) rs → InnerTells a us (drop (length qs) rs)
inner_behind (sequence t) qs us rs h = tells_behind (IsSubtype t) qs us rs h
inner_behind (null_or t) qs us rs h = tells_behind (IsSubtype t) qs us rs h
inner_behind (token_or xs t) qs us rs h = tells_behind (IsSubtype t) qs us rs h
inner_behind a qs us rs h = tt

-- what is known for the parts of a second type, and then for those behind them
pub known_first : (a : Expanded) (qs us : List Expanded) (n : ℕ) (f : RowOf) (rs : List Bool) → KnownTells a (qs ++ us) n f rs → KnownTells a qs n f rs
known_first a qs us n f rs h = record { firsts_tell = row_first (ByFirst a) qs us n f h.firsts_tell; inner_tells = inner_first a qs us (drop n rs) h.inner_tells }

known_behind : (a : Expanded) (qs us : List Expanded) (n : ℕ) (f : RowOf) (rs : List Bool) → KnownTells a (qs ++ us) n f rs → KnownTells a us (n + length qs) f rs
known_behind a qs us n f rs h = record {
  firsts_tell = row_behind (ByFirst a) qs us n f h.firsts_tell;
  inner_tells = subst (λ (x : List Bool). InnerTells a us x) (drop-drop (length qs) n rs) (inner_behind a qs us (drop n rs) h.inner_tells);
}

-- as many answers more as parts
pub adds_length : (P : Expanded → Type 0) (qs : List Expanded) (x y : List Bool) → Adds P qs x y → length y ≡ length x + length qs
adds_length P qs x y h = ap length h.grown ∙ (length-append x h.added ∙ ap (λ n. length x + n) (all_length P qs h.added h.tell))

pub known_next : (a : Expanded) (P : Expanded → Type 0) (qs us : List Expanded) (x y : List Bool) (f : RowOf) (rs : List Bool) → KnownTells a (qs ++ us) (length x) f rs → Adds P qs x y
    → KnownTells a us (length y) f rs
known_next a P qs us x y f rs h k = subst (λ (n : ℕ). KnownTells a us n f rs) (sym (adds_length P qs x y k)) (known_behind a qs us (length x) f rs h)
