-- The walk that finds the inheritance order.
use Rattle.std.proofs.Common.{◌≡◌, ◌<◌, ◌+◌, ◌++◌, ℕ, zero, suc, Bool, true, false, length, reverse, List, [], ◌∷◌, refl, sym, ap, ◌∙◌, subst, inl, inr, arith}
use Rattle.std.specs.Prelude.{All, ◌⊎◌, ◌||◌, if◌then◌else◌}
use Rattle.std.specs.List.{flat_map}
use Rattle.std.specs.Str.{bytes_eq}
use Rattle.std.proofs.lemmas.List.{reverse-append, reverse-reverse, length-append}
use Rattle.std.proofs.lemmas.List.Elements.{All-nil, All-cons, All-append}
use Rattle.cl_tables.specs.Inheritance.{TableDecls, is_among, parents_of, preorder_within, preorder, inheritance}
use Rattle.cl_tables.specs.Rings.{Reaches, directly, IsOnRing, HasNoRing}
use Rattle.cl_tables.specs.Walk.{Visits, is_visited, with_more, with_visit}
use Rattle.cl_tables.proofs.NameLemmas.{same_name, own_name, is_among-last, among_left, among_head, among_tail, unseen, unseen-nil, unseen-new, unseen-all_seen, has_last}
use Rattle.cl_tables.proofs.RingLemmas.{reaches_on, reaches_join, preorder_is}

-- a name waits, and a table reaches all that wait before it
pub data Waits (tables : TableDecls) (v p : List ℕ) : List (List ℕ) → Type 0 where
  next : (rest : List (List ℕ)) → Waits tables v p (p ∷ rest)
  later : (q : List ℕ) (rest : List (List ℕ)) → Reaches tables v q → Waits tables v p rest → Waits tables v p (q ∷ rest)

-- each parent of a table that was visited was visited, or waits before all that the table does not reach
abbrev pub LooksAhead : TableDecls → List (List ℕ) → List (List ℕ) → Type 0
LooksAhead tables order waiting =
    (v p : List ℕ) → is_among v order ≡ true → is_among p (parents_of tables v) ≡ true → (is_among p order ≡ true) ⊎ Waits tables v p waiting

pub record Walk (tables : TableDecls) (root : List ℕ) (visits : Visits) (order waiting : List (List ℕ)) : Type 0 where
  pub same : (x : List ℕ) → is_visited x visits ≡ is_among x order
  pub ahead : LooksAhead tables order waiting
  pub leads : order ++ unseen order (flat_map (preorder tables) waiting) ≡ inheritance tables root

append-nil : {A : Type 0} (xs : List A) → xs ++ [] ≡ xs
append-nil [] = refl
append-nil (x ∷ xs) = ap (λ ys. x ∷ ys) (append-nil xs)

append_assoc : {A : Type 0} (xs ys zs : List A) → (xs ++ ys) ++ zs ≡ xs ++ (ys ++ zs)
append_assoc [] ys zs = refl
append_assoc (x ∷ xs) ys zs = ap (λ ws. x ∷ ws) (append_assoc xs ys zs)

flat_map-append : (f : List ℕ → List (List ℕ)) (xs ys : List (List ℕ)) → flat_map f (xs ++ ys) ≡ flat_map f xs ++ flat_map f ys
flat_map-append f [] ys = refl
flat_map-append f (x ∷ xs) ys = ap (λ zs. f x ++ zs) (flat_map-append f xs ys) ∙ sym (append_assoc (f x) (flat_map f xs) (flat_map f ys))

-- ---- the beginning

pub walk_begins : (tables : TableDecls) (root : List ℕ) → Walk tables root [] [] (root ∷ [])
unfolding inheritance preorder
walk_begins tables root =
    record {
      same = λ x. refl;
      ahead = λ v p h m. cc;
      leads = ap (λ xs. unseen [] xs) (append-nil (preorder tables root)) ∙ unseen-nil (preorder tables root);
    }

-- ---- a table that was visited before

drop_first : (tables : TableDecls) (order : List (List ℕ)) (x v p : List ℕ) (rest : List (List ℕ)) → is_among x order ≡ true → Waits tables v p (x ∷ rest)
    → (is_among p order ≡ true) ⊎ Waits tables v p rest
drop_first tables order _ v p _ h (next rest) = inl h
drop_first tables order _ v p _ h (later x rest r w) = inr w

-- what stands above the table
data IsFrom (tables : TableDecls) (x : List ℕ) : List ℕ → Type 0 where
  itself : IsFrom tables x x
  above : (v : List ℕ) → Reaches tables x v → IsFrom tables x v

from_more : (tables : TableDecls) (x v p : List ℕ) → IsFrom tables x v → is_among p (parents_of tables v) ≡ true → Reaches tables x p
from_more tables x _ p itself m = directly x p m
from_more tables x _ p (above v r) m = reaches_on tables x v p r m

ring_of : (tables : TableDecls) (x v : List ℕ) → IsFrom tables x v → Reaches tables v x → IsOnRing tables x
ring_of tables x _ itself r = r
ring_of tables x _ (above v s) r = reaches_join tables x v x s r

waits_seen : (tables : TableDecls) → HasNoRing tables → (order : List (List ℕ)) (x v p : List ℕ) (rest : List (List ℕ)) → is_among x order ≡ true → IsFrom tables x v
    → Waits tables v p (x ∷ rest) → is_among p order ≡ true
waits_seen tables ring order _ v p _ h f (next rest) = h
waits_seen tables ring order _ v p _ h f (later x rest r w) = absurd (ring x (ring_of tables x v f r))

either : {A B C : Type 0} → (A → C) → (B → C) → A ⊎ B → C
either f g (inl a) = f a
either f g (inr b) = g b

-- the parents of a visited table that the next one reaches were visited
parent_seen : (tables : TableDecls) → HasNoRing tables → (order : List (List ℕ)) (x : List ℕ) (rest : List (List ℕ)) → LooksAhead tables order (x ∷ rest) → is_among x order ≡ true
    → (v p : List ℕ) → IsFrom tables x v → is_among v order ≡ true → is_among p (parents_of tables v) ≡ true → is_among p order ≡ true
parent_seen tables ring order x rest ahead h v p f s m = either (λ a. a) (λ w. waits_seen tables ring order x v p rest h f w) (ahead v p s m)

abbrev Seen : List (List ℕ) → List (List ℕ) → Type 0
Seen order xs = All (λ y. is_among y order ≡ true) xs

seen_each : (f : List ℕ → List (List ℕ)) (order ps : List (List ℕ)) → ((p : List ℕ) → is_among p ps ≡ true → Seen order (f p)) → Seen order (flat_map f ps)
seen_each f order [] h = All-nil (λ y. is_among y order ≡ true)
seen_each f order (p ∷ ps) h =
    All-append (λ y. is_among y order ≡ true) (f p) (flat_map f ps) (h p (among_head p ps)) (seen_each f order ps (λ q m. h q (among_tail q p ps m)))

-- so all that stands in the preorder of the next one was visited
seen_within : (tables : TableDecls) → HasNoRing tables → (order : List (List ℕ)) (x : List ℕ) (rest : List (List ℕ)) → LooksAhead tables order (x ∷ rest) → is_among x order ≡ true
    → (n : ℕ) (v : List ℕ) → IsFrom tables x v → is_among v order ≡ true → Seen order (preorder_within n tables v)
seen_within tables ring order x rest ahead h zero v f s = All-nil (λ y. is_among y order ≡ true)
seen_within tables ring order x rest ahead h (suc n) v f s =
    All-cons (λ y. is_among y order ≡ true) v (flat_map (preorder_within n tables) (parents_of tables v)) s
    (seen_each (preorder_within n tables) order (parents_of tables v)
    (λ p m. seen_within tables ring order x rest ahead h n p (above p (from_more tables x v p f m)) (parent_seen tables ring order x rest ahead h v p f s m)))

pub walk_skips : (tables : TableDecls) → HasNoRing tables → (root : List ℕ) (visits : Visits) (order : List (List ℕ)) (x : List ℕ) (rest : List (List ℕ))
    → is_visited x visits ≡ true → Walk tables root visits order (x ∷ rest) → Walk tables root visits order rest
unfolding preorder
walk_skips tables ring root visits order x rest h w =
    let seen : is_among x order ≡ true = sym (w.same x) ∙ h in
    let all : Seen order (preorder tables x) = seen_within tables ring order x rest w.ahead seen (length tables + 1) x itself seen in
    record {
      same = w.same;
      ahead = λ v p s m. either inl (λ a. drop_first tables order x v p rest seen a) (w.ahead v p s m);
      leads = ap (λ xs. order ++ xs) (sym (unseen-all_seen order (preorder tables x) (flat_map (preorder tables) rest) all)) ∙ w.leads;
    }

-- ---- a table that was not visited before

waits_behind : (tables : TableDecls) (v p : List ℕ) (qs rest : List (List ℕ)) → ((q : List ℕ) → is_among q qs ≡ true → Reaches tables v q)
    → Waits tables v p rest → Waits tables v p (qs ++ rest)
waits_behind tables v p [] rest r w = w
waits_behind tables v p (q ∷ qs) rest r w = later q (qs ++ rest) (r q (among_head q qs)) (waits_behind tables v p qs rest (λ z m. r z (among_tail z q qs m)) w)

waits_in : (tables : TableDecls) (v p : List ℕ) (qs rest : List (List ℕ)) → ((q : List ℕ) → is_among q qs ≡ true → Reaches tables v q)
    → is_among p qs ≡ true → Waits tables v p (qs ++ rest)
waits_in tables v p [] rest r m = cc
waits_in tables v p (q ∷ qs) rest r m = by (bytes_eq p q) refl m (λ k. waits_in tables v p qs rest (λ z n. r z (among_tail z q qs n)) k)
  where
    by : (b : Bool) → bytes_eq p q ≡ b → (b || is_among p qs) ≡ true → (is_among p qs ≡ true → Waits tables v p (qs ++ rest)) → Waits tables v p (q ∷ qs ++ rest)
    by true e k more = subst (λ (z : List ℕ). Waits tables v p (z ∷ qs ++ rest)) (same_name p q e) (next (qs ++ rest))
    by false e k more = later q (qs ++ rest) (r q (among_head q qs)) (more k)

or_true : (a b : Bool) → (a || b) ≡ true → (a ≡ true) ⊎ (b ≡ true)
or_true true b h = inl refl
or_true false b h = inr h

last_among : (x : List ℕ) (order : List (List ℕ)) → is_among x (order ++ x ∷ []) ≡ true
last_among x order = is_among-last x x order ∙ by (is_among x order)
  where
    by : (b : Bool) → (b || bytes_eq x x) ≡ true
    by true = refl
    by false = own_name x

old_ahead : (tables : TableDecls) (order : List (List ℕ)) (x v p : List ℕ) (rest : List (List ℕ)) → Waits tables v p (x ∷ rest)
    → (is_among p (order ++ x ∷ []) ≡ true) ⊎ Waits tables v p (parents_of tables x ++ rest)
old_ahead tables order _ v p _ (next rest) = inl (last_among p order)
old_ahead tables order _ v p _ (later x rest r w) = inr (waits_behind tables v p (parents_of tables x) rest (λ q m. reaches_on tables v x q r m) w)

ahead_more : (tables : TableDecls) (order : List (List ℕ)) (x : List ℕ) (rest : List (List ℕ)) → LooksAhead tables order (x ∷ rest)
    → LooksAhead tables (order ++ x ∷ []) (parents_of tables x ++ rest)
ahead_more tables order x rest ahead v p s m =
    either
    (λ old. either (λ a. inl (among_left p order (x ∷ []) a)) (λ w. old_ahead tables order x v p rest w) (ahead v p old m))
    (λ same. inr (own (same_name v x same)))
    (or_true (is_among v order) (bytes_eq v x) (sym (is_among-last v x order) ∙ s))
  where
    own : v ≡ x → Waits tables v p (parents_of tables x ++ rest)
    own e = subst (λ (z : List ℕ). Waits tables v p (parents_of tables z ++ rest)) e (waits_in tables v p (parents_of tables v) rest (λ q n. directly v q n) m)

abbrev flat : TableDecls → List (List ℕ) → List (List ℕ)
flat tables xs = flat_map (preorder tables) xs

flat-visit : (tables : TableDecls) → HasNoRing tables → (x : List ℕ) (rest : List (List ℕ)) → flat tables (x ∷ rest) ≡ x ∷ flat tables (parents_of tables x ++ rest)
flat-visit tables ring x rest =
    ap (λ xs. xs ++ flat tables rest) (preorder_is tables ring x)
    ∙ ap (λ xs. x ∷ xs) (sym (flat_map-append (preorder tables) (parents_of tables x) rest))

pub walk_visits : (tables : TableDecls) → HasNoRing tables → (root : List ℕ) (visits : Visits) (order : List (List ℕ)) (x : List ℕ) (rest : List (List ℕ))
    → is_visited x visits ≡ false → Walk tables root visits order (x ∷ rest)
    → Walk tables root (visits ++ (x, record { name = x }) ∷ []) (order ++ x ∷ []) (parents_of tables x ++ rest)
walk_visits tables ring root visits order x rest h w =
    let new : is_among x order ≡ false = sym (w.same x) ∙ h in
    let more : List (List ℕ) = flat tables (parents_of tables x ++ rest) in
    let step : unseen order (flat tables (x ∷ rest)) ≡ x ∷ unseen (order ++ x ∷ []) more = ap (unseen order) (flat-visit tables ring x rest) ∙ unseen-new x order more new in
    record {
      same = λ y. has_last y (x, record { name = x }) visits ∙ ap (λ b. b || bytes_eq y x) (w.same y) ∙ sym (is_among-last y x order);
      ahead = ahead_more tables order x rest w.ahead;
      leads = append_assoc order (x ∷ []) (unseen (order ++ x ∷ []) more) ∙ ap (λ xs. order ++ xs) (sym step) ∙ w.leads;
    }

-- ---- each step of the walk

front : (items : List (List ℕ)) (x : List ℕ) → reverse (items ++ x ∷ []) ≡ x ∷ reverse items
front items x = reverse-append items (x ∷ [])

pushed : (items parents : List (List ℕ)) → reverse (items ++ reverse parents) ≡ parents ++ reverse items
pushed items parents = reverse-append items (reverse parents) ∙ ap (λ xs. xs ++ reverse items) (reverse-reverse parents)

walk_by : (b : Bool) (tables : TableDecls) → HasNoRing tables → (root : List ℕ) (visits : Visits) (order : List (List ℕ)) (x : List ℕ) (items : List (List ℕ))
    → is_visited x visits ≡ b → Walk tables root visits order (x ∷ reverse items)
    → Walk tables root (if b then visits else visits ++ (x, record { name = x }) ∷ []) (with_more b order (x ∷ [])) (reverse (with_more b items (reverse (parents_of tables x))))
walk_by true tables ring root visits order x items h w = walk_skips tables ring root visits order x (reverse items) h w
walk_by false tables ring root visits order x items h w =
    subst (Walk tables root (visits ++ (x, record { name = x }) ∷ []) (order ++ x ∷ [])) (sym (pushed items (parents_of tables x)))
    (walk_visits tables ring root visits order x (reverse items) h w)

pub walk_goes_on : (tables : TableDecls) → HasNoRing tables → (root : List ℕ) (visits : Visits) (order : List (List ℕ)) (x : List ℕ) (items : List (List ℕ))
    → Walk tables root visits order (reverse (items ++ x ∷ []))
    → Walk tables root (with_visit x visits) (with_more (is_visited x visits) order (x ∷ []))
    (reverse (with_more (is_visited x visits) items (reverse (parents_of tables x))))
walk_goes_on tables ring root visits order x items w =
    walk_by (is_visited x visits) tables ring root visits order x items refl (subst (Walk tables root visits order) (front items x) w)

pub walk_ends : (tables : TableDecls) (root : List ℕ) (visits : Visits) (order : List (List ℕ)) → Walk tables root visits order [] → order ≡ inheritance tables root
walk_ends tables root visits order w = sym (append-nil order) ∙ w.leads

-- what is left of the preorder falls
falls_by : (b : Bool) (tables : TableDecls) → HasNoRing tables → (x : List ℕ) (items : List (List ℕ))
    → length (flat tables (reverse (with_more b items (reverse (parents_of tables x))))) < length (flat tables (x ∷ reverse items))
falls_by true tables ring x items =
    let all : length (flat tables (x ∷ reverse items)) ≡ length (x ∷ flat tables (parents_of tables x ++ reverse items)) = ap length (flat-visit tables ring x (reverse items)) in
    let joined : length (flat tables (parents_of tables x ++ reverse items)) ≡ length (flat tables (parents_of tables x)) + length (flat tables (reverse items))
    = ap length (flat_map-append (preorder tables) (parents_of tables x) (reverse items)) ∙ length-append (flat tables (parents_of tables x)) (flat tables (reverse items)) in
    omega (arith, all, joined)
falls_by false tables ring x items =
    let all : length (flat tables (x ∷ reverse items)) ≡ length (x ∷ flat tables (parents_of tables x ++ reverse items)) = ap length (flat-visit tables ring x (reverse items)) in
    let same : length (flat tables (reverse (items ++ reverse (parents_of tables x)))) ≡ length (flat tables (parents_of tables x ++ reverse items))
    = ap (λ xs. length (flat tables xs)) (pushed items (parents_of tables x)) in
    omega (arith, all, same)

pub walk_falls : (tables : TableDecls) → HasNoRing tables → (visits : Visits) (x : List ℕ) (items : List (List ℕ))
    → length (flat_map (preorder tables) (reverse (with_more (is_visited x visits) items (reverse (parents_of tables x)))))
    < length (flat_map (preorder tables) (reverse (items ++ x ∷ [])))
walk_falls tables ring visits x items =
    subst (λ (xs : List (List ℕ)). length (flat tables (reverse (with_more (is_visited x visits) items (reverse (parents_of tables x))))) < length (flat tables xs))
    (sym (front items x)) (falls_by (is_visited x visits) tables ring x items)
