-- Answers for a second type behind those for its parts.
use Rattle.std.proofs.Common.{◌≡◌, ◌↔◌, ℕ, ◌+◌, ◌<◌, Bool, true, false, List, [], ◌∷◌, ◌++◌, length, drop, refl, ap, sym, subst, append_assoc, length-append, arith, ◌∙◌, inl, inr}
use Rattle.std.proofs.lemmas.List.{append-nil, drop-drop}
use Rattle.std.specs.Prelude.{◌⊎◌, ◌||◌, ◌&&◌, IfSome, OnSome, Option, Some, None}
use Rattle.cl_lattice.specs.Expanded.{Expanded, everything, sequence, some_of, each_of, null_or, token_or, host, ExpandedTypes, none, part, weight}
use Rattle.cl_lattice.specs.Subtypes.{IsSubtype}
use Rattle.cl_lattice.specs.Subtypes as rule
use Rattle.cl_lattice.specs.SubtypeRows.{parts_of, parts_of_all, Tells, TellsAll, Adds, BelowSome, InnerTells, InnerAgrees, HostInherits, RowOf, RowTellsFrom, KnownTells, is_alone, Fills, FillsSome, FillsEach}
use Rattle.cl_lattice.specs.SubtypeWays.{ByHeads, BelowEach, ByFirst, BySecond}
use Rattle.cl_lattice.proofs.SubtypeSplitLemmas.{and_split}
use Rattle.cl_lattice.proofs.SubtypeWayLemmas.{either}
use Rattle.cl_lattice.proofs.SubtypeRowLemmas.{step_some, step_null, step_token}
use Rattle.cl_lattice.proofs.SubtypeRowLemmas.{tells_behind, all_length, all_tell, adds_join, adds_one, either_iff, wrong, adds_length, known_next}

-- ---- parts in turn

pub adds_none : (P : Expanded → Type 0) (x : List Bool) → Adds P [] x x
adds_none P x = record { added = []; grown = sym (append-nil x); tell = tt }

along : {A B C : Type 0} → (A ↔ B) → (B ↔ C) → (A ↔ C)
along h k = (λ x. k.0 (h.0 x), λ z. h.1 (k.1 z))

some_along : (so_far r : Bool) (P Q : Type 0) → ((r ≡ true) ↔ P) → (((so_far || r) ≡ true) ⊎ Q) ↔ ((so_far ≡ true) ⊎ (P ⊎ Q))
some_along true r P Q h = (λ s. inl refl, λ s. inl refl)
some_along false r P Q h = (
  λ s. elim s [ inl e ↦ inr (inl (h.0 e)) | inr q ↦ inr (inr q) ],
  λ s. elim s [ inl e ↦ inl (wrong r e) | inr p ↦ elim p [ inl x ↦ inl (h.1 x) | inr q ↦ inr q ] ],
)

pub some_none : (a : Expanded) (x : List Bool) (so_far : Bool) → FillsSome a none x x so_far so_far
some_none a x so_far = record { told = (λ e. inl e, λ s. elim s [ inl e ↦ e | inr h ↦ absurd h ]); adds = adds_none (IsSubtype a) x }

pub some_more : (a t : Expanded) (ts : ExpandedTypes) (x y z : List Bool) (so_far r s : Bool) → Fills a t x y r → FillsSome a ts y z (so_far || r) s
    → FillsSome a (part t ts) x z so_far s
some_more a t ts x y z so_far r s h k = record {
  told = along k.told (some_along so_far r (IsSubtype a t) (BelowSome a ts) h.told);
  adds = adds_join (IsSubtype a) (parts_of t) (parts_of_all ts) x y z h.adds k.adds;
}

each_along : (so_far r : Bool) (P Q : Type 0) → ((r ≡ true) ↔ P) → (((so_far && r) ≡ true) × Q) ↔ ((so_far ≡ true) × (P × Q))
each_along true r P Q h = (λ s. (refl, (h.0 s.0, s.1)), λ s. (h.1 s.1.0, s.1.1))
each_along false r P Q h = (λ s. absurd cc, λ s. absurd cc)

pub each_none : (a : Expanded) (x : List Bool) (so_far : Bool) → FillsEach a none x x so_far so_far
each_none a x so_far = record { told = (λ e. (e, tt), λ s. s.0); adds = adds_none (IsSubtype a) x }

pub each_more : (a t : Expanded) (ts : ExpandedTypes) (x y z : List Bool) (so_far r s : Bool) → Fills a t x y r → FillsEach a ts y z (so_far && r) s
    → FillsEach a (part t ts) x z so_far s
each_more a t ts x y z so_far r s h k = record {
  told = along k.told (each_along so_far r (IsSubtype a t) (BelowEach a ts) h.told);
  adds = adds_join (IsSubtype a) (parts_of t) (parts_of_all ts) x y z h.adds k.adds;
}

-- ---- the whole behind its parts

closed : (a t : Expanded) (qs : List Expanded) (x y : List Bool) (r : Bool) → parts_of t ≡ qs ++ t ∷ [] → Adds (IsSubtype a) qs x y → ((r ≡ true) ↔ IsSubtype a t) → Fills a t x (y ++ r ∷ []) r
closed a t qs x y r e h k = record {
  told = k;
  adds = subst (λ (ps : List Expanded). Adds (IsSubtype a) ps x (y ++ r ∷ [])) (sym e) (adds_join (IsSubtype a) qs (t ∷ []) x y (y ++ r ∷ []) h (adds_one (IsSubtype a) t y r k));
}

none_before : (Q : Type 0) → ((false ≡ true) ⊎ Q) ↔ Q
none_before Q = (λ s. elim s [ inl e ↦ absurd cc | inr q ↦ q ], λ q. inr q)

all_before : (Q : Type 0) → ((true ≡ true) × Q) ↔ Q
all_before Q = (λ s. s.1, λ q. (refl, q))

pub close_some : (a : Expanded) (ts : ExpandedTypes) (x y : List Bool) (r own : Bool) → FillsSome a ts x y false r → ((own ≡ true) ↔ ByFirst a (some_of ts))
    → Fills a (some_of ts) x (y ++ (r || own) ∷ []) (r || own)
close_some a ts x y r own h k =
    closed a (some_of ts) (parts_of_all ts) x y (r || own) refl h.adds
    (along (either_iff r own (BelowSome a ts) (ByFirst a (some_of ts)) (along h.told (none_before (BelowSome a ts))) k) (step_some a ts))

pub close_each : (a : Expanded) (ts : ExpandedTypes) (x y : List Bool) (r : Bool) → FillsEach a ts x y true r → Fills a (each_of ts) x (y ++ r ∷ []) r
close_each a ts x y r h = closed a (each_of ts) (parts_of_all ts) x y r refl h.adds (along h.told (along (all_before (BelowEach a ts)) (and_split a ts)))

pub close_null : (a t : Expanded) (x y : List Bool) (r heads own : Bool) → Fills a t x y r → ((heads ≡ true) ↔ ByHeads a (null_or t)) → ((own ≡ true) ↔ ByFirst a (null_or t))
    → Fills a (null_or t) x (y ++ ((r || heads) || own) ∷ []) ((r || heads) || own)
close_null a t x y r heads own h k l =
    closed a (null_or t) (parts_of t) x y ((r || heads) || own) refl h.adds
    (along (either_iff (r || heads) own (IsSubtype a t ⊎ ByHeads a (null_or t)) (ByFirst a (null_or t)) (either_iff r heads (IsSubtype a t) (ByHeads a (null_or t)) h.told k) l) (step_null a t))

pub close_token : (a : Expanded) (ys : List (List ℕ)) (t : Expanded) (x y : List Bool) (r heads own : Bool) → Fills a t x y r → ((heads ≡ true) ↔ ByHeads a (token_or ys t))
    → ((own ≡ true) ↔ ByFirst a (token_or ys t)) → Fills a (token_or ys t) x (y ++ ((r || heads) || own) ∷ []) ((r || heads) || own)
close_token a ys t x y r heads own h k l =
    closed a (token_or ys t) (parts_of t) x y ((r || heads) || own) refl h.adds
    (along (either_iff (r || heads) own (IsSubtype a t ⊎ ByHeads a (token_or ys t)) (ByFirst a (token_or ys t)) (either_iff r heads (IsSubtype a t) (ByHeads a (token_or ys t)) h.told k) l) (step_token a ys t))

pub close_sequence : (a t : Expanded) (x y : List Bool) (r heads own : Bool) → Fills a t x y r → ((heads ≡ true) ↔ ByHeads a (sequence t)) → ((own ≡ true) ↔ ByFirst a (sequence t))
    → Fills a (sequence t) x (y ++ (heads || own) ∷ []) (heads || own)
close_sequence a t x y r heads own h k l =
    closed a (sequence t) (parts_of t) x y (heads || own) refl h.adds
    (along (either_iff heads own (ByHeads a (sequence t)) (ByFirst a (sequence t)) k l) (either a (sequence t)))

-- a type that is its own only part
close_alone : (a t : Expanded) (x : List Bool) (heads own : Bool) → parts_of t ≡ t ∷ [] → ((BySecond a t) ≡ (ByHeads a t)) → ((heads ≡ true) ↔ ByHeads a t)
    → ((own ≡ true) ↔ ByFirst a t) → Fills a t x (x ++ (heads || own) ∷ []) (heads || own)
close_alone a t x heads own e same k l =
    closed a t [] x x (heads || own) e (adds_none (IsSubtype a) x)
    (along (either_iff heads own (ByHeads a t) (ByFirst a t) k l) (subst (λ (B : Type 0). (B ⊎ ByFirst a t) ↔ IsSubtype a t) same (either a t)))

-- ---- what is put behind the others

pub put_filled : (a t : Expanded) (x y z : List Bool) (r : Bool) (o : Option Bool) → IfSome o (λ s. s ≡ r) → OnSome o (z ≡ y ++ r ∷ []) → Fills a t x (y ++ r ∷ []) r → IfSome o (λ s. Fills a t x z s)
put_filled a t x y z r None same grown f = tt
put_filled a t x y z r (Some s) same grown f =
    subst (λ (v : Bool). Fills a t x z v) (sym same) (subst (λ (v : List Bool). Fills a t x v r) (sym grown) f)

pub put_told : (a t : Expanded) (x y z : List Bool) (v r : Bool) (o : Option Bool) → r ≡ v → IfSome o (λ s. s ≡ r) → OnSome o (z ≡ y ++ r ∷ []) → Fills a t x (y ++ v ∷ []) v
    → IfSome o (λ s. Fills a t x z s)
put_told a t x y z v r o e same grown f = put_filled a t x y z r o same grown (subst (λ (b : Bool). Fills a t x (y ++ b ∷ []) b) (sym e) f)

pub own_tells : (a t : Expanded) (P : Expanded → Type 0) (qs : List Expanded) (x y : List Bool) (f : RowOf) (rs : List Bool) (place : ℕ) → KnownTells a (qs ++ t ∷ []) (length x) f rs → Adds P qs x y
    → place ≡ length y → RowTellsFrom (ByFirst a) (t ∷ []) place f
own_tells a t P qs x y f rs place h k e =
    subst (λ (n : ℕ). RowTellsFrom (ByFirst a) (t ∷ []) n f) (sym e) (known_next a P qs (t ∷ []) x y f rs h k).firsts_tell

-- a type stands last among its parts
record Last (u : Expanded) : Type 0 where
  front : List Expanded
  whole : parts_of u ≡ front ++ u ∷ []

last : (u : Expanded) → Last u
last (sequence t) = record { front = parts_of t; whole = refl }
last (some_of ts) = record { front = parts_of_all ts; whole = refl }
last (each_of ts) = record { front = parts_of_all ts; whole = refl }
last (null_or t) = record { front = parts_of t; whole = refl }
last (token_or xs t) = record { front = parts_of t; whole = refl }
last u = record { front = []; whole = refl }

at_first : (P : Expanded → Type 0) (u : Expanded) (us : List Expanded) (rs : List Bool) (ans : Bool) → Tells P (u ∷ us) rs → ((r : Bool) (ss : List Bool) → rs ≡ r ∷ ss → ans ≡ r) → (ans ≡ true) ↔ P u
at_first P u us [] ans h e = absurd h
at_first P u us (r ∷ rs) ans h e = subst (λ (v : Bool). (v ≡ true) ↔ P u) (sym (e r rs refl)) h.0

-- the answer before a place is that of the part that ends there
pub before_tells : (P : Expanded → Type 0) (u : Expanded) (us : List Expanded) (n place : ℕ) (rs : List Bool) (ans : Bool) → Tells P (parts_of u ++ us) (drop n rs)
    → place ≡ n + length (parts_of u) → ((k : ℕ) → place ≡ k + 1 → (r : Bool) (ss : List Bool) → drop k rs ≡ r ∷ ss → ans ≡ r) → (ans ≡ true) ↔ P u
before_tells P u us n place rs ans h e b =
    let l = last u in
    let split : parts_of u ++ us ≡ l.front ++ (u ∷ us) = ap (λ v. v ++ us) l.whole ∙ append_assoc l.front (u ∷ []) us in
    let behind : Tells P (u ∷ us) (drop (length l.front) (drop n rs)) =
    tells_behind P l.front (u ∷ us) (drop n rs) (subst (λ (v : List Expanded). Tells P v (drop n rs)) split h) in
    let here : Tells P (u ∷ us) (drop (n + length l.front) rs) = subst (λ (v : List Bool). Tells P (u ∷ us) v) (drop-drop (length l.front) n rs) behind in
    let size : length (parts_of u) ≡ length l.front + 1 = ap length l.whole ∙ length-append l.front (u ∷ []) in
    at_first P u us (drop (n + length l.front) rs) ans here (b (n + length l.front) (e ∙ omega (arith, size)))

inner_of : (a u : Expanded) (t : Expanded) (x y : List Bool) (f : RowOf) (rs : List Bool) (place : ℕ) (ans : Bool) → InnerTells a (parts_of u ++ t ∷ []) (drop (length x) rs)
    → Adds (IsSubtype a) (parts_of u) x y → place ≡ length y → ((k : ℕ) → place ≡ k + 1 → (r : Bool) (ss : List Bool) → drop k rs ≡ r ∷ ss → ans ≡ r)
    → (P : Expanded → Type 0) → Tells P (parts_of u ++ t ∷ []) (drop (length x) rs) → (ans ≡ true) ↔ P u
inner_of a u t x y f rs place ans h k e b P tells = before_tells P u (t ∷ []) (length x) place rs ans tells (e ∙ adds_length (IsSubtype a) (parts_of u) x y k) b

pub sequence_agrees : (a u : Expanded) (x y : List Bool) (f : RowOf) (rs : List Bool) (place : ℕ) (ans : Bool) → KnownTells a (parts_of (sequence u)) (length x) f rs → Adds (IsSubtype a) (parts_of u) x y
    → place ≡ length y → ((k : ℕ) → place ≡ k + 1 → (r : Bool) (ss : List Bool) → drop k rs ≡ r ∷ ss → ans ≡ r) → InnerAgrees a (sequence u) ans
sequence_agrees (sequence v) u x y f rs place ans h k e b = inner_of (sequence v) u (sequence u) x y f rs place ans h.inner_tells k e b (IsSubtype v) h.inner_tells
sequence_agrees a u x y f rs place ans h k e b = tt

pub null_agrees : (a u : Expanded) (x y : List Bool) (f : RowOf) (rs : List Bool) (place : ℕ) (ans : Bool) → KnownTells a (parts_of (null_or u)) (length x) f rs → Adds (IsSubtype a) (parts_of u) x y
    → place ≡ length y → ((k : ℕ) → place ≡ k + 1 → (r : Bool) (ss : List Bool) → drop k rs ≡ r ∷ ss → ans ≡ r) → InnerAgrees a (null_or u) ans
null_agrees (null_or v) u x y f rs place ans h k e b = inner_of (null_or v) u (null_or u) x y f rs place ans h.inner_tells k e b (IsSubtype v) h.inner_tells
null_agrees a u x y f rs place ans h k e b = tt

pub token_agrees : (a u : Expanded) (ys : List (List ℕ)) (x y : List Bool) (f : RowOf) (rs : List Bool) (place : ℕ) (ans : Bool) → KnownTells a (parts_of (token_or ys u)) (length x) f rs
    → Adds (IsSubtype a) (parts_of u) x y → place ≡ length y → ((k : ℕ) → place ≡ k + 1 → (r : Bool) (ss : List Bool) → drop k rs ≡ r ∷ ss → ans ≡ r) → InnerAgrees a (token_or ys u) ans
token_agrees (token_or xs v) u ys x y f rs place ans h k e b = inner_of (token_or xs v) u (token_or ys u) x y f rs place ans h.inner_tells k e b (IsSubtype v) h.inner_tells
token_agrees a u ys x y f rs place ans h k e b = tt

pub close_everything : (a : Expanded) (x : List Bool) → Fills a everything x (x ++ true ∷ []) true
close_everything a x = record { told = (λ e. rule.in_everything a, λ d. refl); adds = adds_one (IsSubtype a) everything x true (λ e. rule.in_everything a, λ d. refl) }

-- ---- types that are their own only part

pub alone_parts : (t : Expanded) → is_alone t ≡ true → parts_of t ≡ t ∷ []
alone_parts everything e = cc
alone_parts (sequence u) e = cc
alone_parts (some_of ts) e = cc
alone_parts (each_of ts) e = cc
alone_parts (null_or u) e = cc
alone_parts (token_or ys u) e = cc
alone_parts t e = refl

pub finish_alone : (a t : Expanded) (x : List Bool) (heads own : Bool) → is_alone t ≡ true → ((heads ≡ true) ↔ ByHeads a t) → ((own ≡ true) ↔ ByFirst a t) → Fills a t x (x ++ (heads || own) ∷ []) (heads || own)
finish_alone a everything x heads own e h o = cc
finish_alone a (sequence u) x heads own e h o = cc
finish_alone a (some_of ts) x heads own e h o = cc
finish_alone a (each_of ts) x heads own e h o = cc
finish_alone a (null_or u) x heads own e h o = cc
finish_alone a (token_or ys u) x heads own e h o = cc
finish_alone a t x heads own e h o = close_alone a t x heads own refl refl h o

-- where no way by the second leads to it
pub finish_another : (a t : Expanded) (x : List Bool) (own : Bool) → is_alone t ≡ true → (BySecond a t → ⊥) → ((own ≡ true) ↔ ByFirst a t) → Fills a t x (x ++ own ∷ []) own
finish_another a t x own e apart k =
    closed a t [] x x own (alone_parts t e) (adds_none (IsSubtype a) x)
    (λ h. (either a t).0 (inr (k.0 h)), λ d. elim ((either a t).1 d) [ inl s ↦ absurd (apart s) | inr f ↦ k.1 f ])

-- where it is known to be a subtype
pub finish_below : (a t : Expanded) (x : List Bool) → is_alone t ≡ true → IsSubtype a t → Fills a t x (x ++ true ∷ []) true
finish_below a t x e d = closed a t [] x x true (alone_parts t e) (adds_none (IsSubtype a) x) (λ h. d, λ k. refl)

pub alone_agrees : (a t : Expanded) (r : Bool) → is_alone t ≡ true → InnerAgrees a t r
alone_agrees (sequence b) (sequence u) r e = cc
alone_agrees (null_or b) (null_or u) r e = cc
alone_agrees (token_or zs b) (token_or ys u) r e = cc
alone_agrees a t r e = tt

-- ---- a whole row

pub adds_all : (P : Expanded → Type 0) (qs : List Expanded) (y : List Bool) → Adds P qs [] y → TellsAll P qs y
adds_all P qs y h = subst (λ (v : List Bool). TellsAll P qs v) (sym h.grown) h.tell

pub last_tells : (P : Expanded → Type 0) (u : Expanded) (rs : List Bool) (place : ℕ) (ans : Bool) → TellsAll P (parts_of u) rs → place ≡ length rs
    → ((k : ℕ) → place ≡ k + 1 → (r : Bool) (ss : List Bool) → drop k rs ≡ r ∷ ss → ans ≡ r) → (ans ≡ true) ↔ P u
last_tells P u rs place ans h e b =
    before_tells P u [] 0 place rs ans (subst (λ (v : List Expanded). Tells P v rs) (sym (append-nil (parts_of u))) (all_tell P (parts_of u) rs h))
    (e ∙ (all_length P (parts_of u) rs h ∙ omega arith)) b

pub host_row : (a e : Expanded) (qs : List Expanded) (rs : List Bool) → HostInherits a e → TellsAll (IsSubtype e) qs rs → TellsAll (ByFirst a) qs rs
host_row (host x low high) e qs rs h k = subst (λ (v : Expanded). TellsAll (IsSubtype v) qs rs) h k
host_row a e qs rs h k = absurd h

pub host_lighter : (a e : Expanded) → HostInherits a e → weight e < weight a
host_lighter (host x low high) e h = rw h (omega arith)
host_lighter a e h = absurd h
