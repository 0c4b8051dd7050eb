-- The search for a ring: what is visited is reached, and once nothing waits, all that is reached was visited.
use Rattle.std.proofs.Common.{◌≡◌, ◌≤◌, ◌<◌, ◌+◌, ◌++◌, ◌==◌, ℕ, zero, suc, Bool, true, false, cond, length, drop, drop-cons, get_or, reverse}
use Rattle.std.proofs.Common.{List, [], ◌∷◌, Option, Some, None, refl, sym, ap, ◌∙◌, subst, inl, inr, arith}
use Rattle.std.specs.Prelude.{◌⊎◌, ◌||◌, is_some, if◌then◌else◌}
use Rattle.std.specs.Cmp.Lexicographic.{pointwise}
use Rattle.std.specs.Str.{bytes_eq}
use Rattle.std.proofs.lemmas.List.{reverse-append, length-append, length-reverse, drop_all}
use Rattle.std.proofs.lemmas.List.Elements.{All-get_or}
use Rattle.std.proofs.lemmas.Option.{slice_get-get_or}
use Rattle.cl_table.specs.Names.{named, declared_at, declared_in, Differ, IsTable}
use Rattle.cl_tables.specs.Clearing.{pending}
use Rattle.cl_tables.specs.Inheritance.{TableDecls, is_among, parents_by, parents_of}
use Rattle.cl_tables.specs.Rings.{Reaches, directly, through, IsOnRing, HasNoRing, IsFirstOnRing}
use Rattle.cl_tables.specs.Walk.{Visits, is_visited, with_more, with_visit}
use Rattle.cl_tables.specs.declared.declarations.TableDecl.{TableDecl}
use Rattle.cl_tables.proofs.ClearingLemmas.{pending_less, pending_more, visited_more, visited_last}
use Rattle.cl_tables.proofs.NameLemmas.{same_name, own_name, has_last, is_among-append, among_left, among_right, among_head}
use Rattle.cl_tables.proofs.RingLemmas.{reaches_on}

-- a table was visited, or waits
abbrev pub IsKnown : Visits → List (List ℕ) → List ℕ → Type 0
IsKnown visits waiting p = (is_visited p visits ≡ true) ⊎ (is_among p waiting ≡ true)

pub record Search (tables : TableDecls) (x : List ℕ) (visits : Visits) (waiting : List (List ℕ)) : Type 0 where
  pub visited : (y : List ℕ) → is_visited y visits ≡ true → Reaches tables x y
  pub reached : (y : List ℕ) → is_among y waiting ≡ true → Reaches tables x y
  pub root : (p : List ℕ) → is_among p (parents_of tables x) ≡ true → IsKnown visits waiting p
  pub closed : (v p : List ℕ) → is_visited v visits ≡ true → is_among p (parents_of tables v) ≡ true → IsKnown visits waiting p

or_true : (a b : Bool) → (a || b) ≡ true → (a ≡ true) ⊎ (b ≡ true)
or_true true b h = inl refl
or_true false b h = inr h

either : {A B C : Type 0} → (A → C) → (B → C) → A ⊎ B → C
either f g (inl a) = f a
either f g (inr b) = g b

-- names in a row and reversed are the same names
among-cons : (y x : List ℕ) (xs : List (List ℕ)) → is_among y (x ∷ xs) ≡ true → (bytes_eq y x ≡ true) ⊎ (is_among y xs ≡ true)
among-cons y x xs h = or_true (bytes_eq y x) (is_among y xs) h

is_among-reverse : (y : List ℕ) (xs : List (List ℕ)) → is_among y (reverse xs) ≡ is_among y xs
is_among-reverse y [] = refl
is_among-reverse y (x ∷ xs) =
    ap (is_among y) (reverse-append (x ∷ []) xs) ∙ is_among-append y (reverse xs) (x ∷ []) ∙ swapped (is_among y (reverse xs)) (bytes_eq y x)
    ∙ ap (λ b. bytes_eq y x || b) (is_among-reverse y xs)
  where
    swapped : (a b : Bool) → (a || (b || false)) ≡ (b || a)
    swapped true true = refl
    swapped true false = refl
    swapped false true = refl
    swapped false false = refl

pub search_begins : (tables : TableDecls) (x : List ℕ) (parents : List (List ℕ)) → parents_of tables x ≡ parents → Search tables x [] (reverse parents)
search_begins tables x parents is =
    record {
      visited = λ y h. cc;
      reached = λ y h. directly x y (ap (is_among y) is ∙ sym (is_among-reverse y parents) ∙ h);
      root = λ p m. inr (is_among-reverse p parents ∙ sym (ap (is_among p) is) ∙ m);
      closed = λ v p h m. cc;
    }

-- ---- each step

last_or_before : (p x : List ℕ) (items : List (List ℕ)) → is_among p (items ++ x ∷ []) ≡ true → (is_among p items ≡ true) ⊎ (p ≡ x)
last_or_before p x items h =
    either inl (λ last. either (λ e. inr (same_name p x e)) (λ no_more. cc) (among-cons p x [] last))
    (or_true (is_among p items) (is_among p (x ∷ [])) (sym (is_among-append p items (x ∷ [])) ∙ h))

known_seen : (visits : Visits) (items : List (List ℕ)) (x p : List ℕ) → is_visited x visits ≡ true → IsKnown visits (items ++ x ∷ []) p → IsKnown visits items p
known_seen visits items x p h known =
    either inl (λ w. either inr (λ e. inl (ap (λ y. is_visited y visits) e ∙ h)) (last_or_before p x items w)) known

search_skips : (tables : TableDecls) (x y : List ℕ) (visits : Visits) (items : List (List ℕ)) → is_visited y visits ≡ true → Search tables x visits (items ++ y ∷ [])
    → Search tables x visits items
search_skips tables x y visits items h s =
    record {
      visited = s.visited;
      reached = λ z m. s.reached z (among_left z items (y ∷ []) m);
      root = λ p m. known_seen visits items y p h (s.root p m);
      closed = λ v p k m. known_seen visits items y p h (s.closed v p k m);
    }

known_more : (tables : TableDecls) (visits : Visits) (items : List (List ℕ)) (y p : List ℕ) → IsKnown visits (items ++ y ∷ []) p
    → IsKnown (visits ++ (y, record { name = y }) ∷ []) (items ++ reverse (parents_of tables y)) p
known_more tables visits items y p known =
    either (λ v. inl (visited_more p (y, record { name = y }) visits v))
    (λ w. either (λ m. inr (among_left p items (reverse (parents_of tables y)) m))
    (λ e. inl (subst (λ z. is_visited z (visits ++ (y, record { name = y }) ∷ []) ≡ true) (sym e) (visited_last y (record { name = y }) visits)))
    (last_or_before p y items w))
    known

search_visits : (tables : TableDecls) (x y : List ℕ) (visits : Visits) (items : List (List ℕ)) → Search tables x visits (items ++ y ∷ [])
    → Search tables x (visits ++ (y, record { name = y }) ∷ []) (items ++ reverse (parents_of tables y))
search_visits tables x y visits items s =
    let here : Reaches tables x y = s.reached y (among_right y items (y ∷ []) (among_head y [])) in
    record {
      visited = λ z v. either (λ old. s.visited z old) (λ same. subst (Reaches tables x) (sym (same_name z y same)) here)
          (or_true (is_visited z visits) (bytes_eq z y) (sym (has_last z (y, record { name = y }) visits) ∙ v));
      reached = λ z m. either (λ old. s.reached z (among_left z items (y ∷ []) old))
          (λ parent. reaches_on tables x y z here (sym (is_among-reverse z (parents_of tables y)) ∙ parent))
          (or_true (is_among z items) (is_among z (reverse (parents_of tables y))) (sym (is_among-append z items (reverse (parents_of tables y))) ∙ m));
      root = λ p m. known_more tables visits items y p (s.root p m);
      closed = λ v p k m. either (λ old. known_more tables visits items y p (s.closed v p old m))
          (λ same. inr (among_right p items (reverse (parents_of tables y))
          (is_among-reverse p (parents_of tables y) ∙ subst (λ z. is_among p (parents_of tables z) ≡ true) (same_name v y same) m)))
          (or_true (is_visited v visits) (bytes_eq v y) (sym (has_last v (y, record { name = y }) visits) ∙ k));
    }

search_by : (b : Bool) (tables : TableDecls) (x y : List ℕ) (visits : Visits) (items : List (List ℕ)) → is_visited y visits ≡ b → Search tables x visits (items ++ y ∷ [])
    → Search tables x (if b then visits else visits ++ (y, record { name = y }) ∷ []) (with_more b items (reverse (parents_of tables y)))
search_by true tables x y visits items h s = search_skips tables x y visits items h s
search_by false tables x y visits items h s = search_visits tables x y visits items s

pub search_goes_on : (tables : TableDecls) (x y : List ℕ) (visits : Visits) (items : List (List ℕ)) → Search tables x visits (items ++ y ∷ [])
    → Search tables x (with_visit y visits) (with_more (is_visited y visits) items (reverse (parents_of tables y)))
search_goes_on tables x y visits items s = search_by (is_visited y visits) tables x y visits items refl s

-- ---- what is left of the search falls

visit_left : (o : Option TableDecl) (tables : TableDecls) (y : List ℕ) (visits : Visits) → named y tables ≡ o → is_visited y visits ≡ false
    → pending tables (visits ++ (y, record { name = y }) ∷ []) + length (parents_by o) ≤ pending tables visits
visit_left None tables y visits h new = omega (arith, pending_more tables (y, record { name = y }) visits)
visit_left (Some d) tables y visits h new = omega (arith, pending_less tables y d (record { name = y }) visits h new)

falls_by : (b : Bool) (tables : TableDecls) (y : List ℕ) (visits : Visits) (items : List (List ℕ)) → is_visited y visits ≡ b
    → pending tables (if b then visits else visits ++ (y, record { name = y }) ∷ []) + length (with_more b items (reverse (parents_of tables y)))
    < pending tables visits + length (items ++ y ∷ [])
falls_by true tables y visits items h = omega (arith, length-append items (y ∷ []))
falls_by false tables y visits items h =
    omega (
      arith,
      length-append items (y ∷ []),
      length-append items (reverse (parents_of tables y)),
      length-reverse (parents_of tables y),
      visit_left (named y tables) tables y visits refl h,
    )

pub search_falls : (tables : TableDecls) (y : List ℕ) (visits : Visits) (items : List (List ℕ))
    → pending tables (with_visit y visits) + length (with_more (is_visited y visits) items (reverse (parents_of tables y))) < pending tables visits + length (items ++ y ∷ [])
search_falls tables y visits items = falls_by (is_visited y visits) tables y visits items refl

-- ---- the end of the search

was_visited : (visits : Visits) (p : List ℕ) → IsKnown visits [] p → is_visited p visits ≡ true
was_visited visits p known = either (λ v. v) (λ w. cc) known

all_visited : (tables : TableDecls) (visits : Visits) → ((v p : List ℕ) → is_visited v visits ≡ true → is_among p (parents_of tables v) ≡ true → is_visited p visits ≡ true)
    → (v z : List ℕ) → ((p : List ℕ) → is_among p (parents_of tables v) ≡ true → is_visited p visits ≡ true) → Reaches tables v z → is_visited z visits ≡ true
all_visited tables visits closed v z from (directly _ _ m) = from z m
all_visited tables visits closed v z from (through _ w _ m r) = all_visited tables visits closed w z (λ p n. closed w p (from w m) n) r

pub reached_is_visited : (tables : TableDecls) (x : List ℕ) (visits : Visits) → Search tables x visits [] → IsOnRing tables x → is_visited x visits ≡ true
reached_is_visited tables x visits s ring =
    all_visited tables visits (λ v p k m. was_visited visits p (s.closed v p k m)) x x (λ p m. was_visited visits p (s.root p m)) ring

-- ---- the first declaration on a ring

-- what is first among the declarations that are left is first among all
abbrev pub GoesOn : TableDecls → ℕ → Type 0
GoesOn tables place = (r : Option ℕ) → IsFirstOnRing tables (drop place tables) r → IsFirstOnRing tables tables r

past_one : (tables : TableDecls) (t : List ℕ × TableDecl) (ts : TableDecls) (r : Option ℕ) → (IsOnRing tables t.0 → ⊥) → IsFirstOnRing tables ts r → IsFirstOnRing tables (t ∷ ts) r
past_one tables t ts None off h = (off, h)
past_one tables t ts (Some at) off h = inr (off, h)

some-inj : {A : Type 0} (a b : A) → Some a ≡ Some b → a ≡ b
some-inj a b e = cc

-- the declaration in a place, with those behind it
pub record IsHere (tables : TableDecls) (place : ℕ) (d : TableDecl) : Type 0 where
  pub entry : List ℕ × TableDecl
  pub own : entry.0 ≡ d.name
  pub is : entry.1 ≡ d
  pub rest : drop place tables ≡ entry ∷ drop (place + 1) tables
  pub found : named entry.0 tables ≡ Some entry.1

found_by : (b : Bool) (x : List ℕ) (d : TableDecl) (t : List ℕ × TableDecl) (ts : TableDecls) → pointwise ◌==◌ x t.0 ≡ b → named t.0 ts ≡ None → named x ts ≡ Some d
    → cond b (Some t.1) (named x ts) ≡ Some d
found_by true x d t ts same none h = let no : None ≡ Some d = sym none ∙ ap (λ (y : List ℕ). named y ts) (sym (same_name x t.0 same)) ∙ h in cc
found_by false x d t ts same none h = h

found_own : (x : List ℕ) (d : TableDecl) (o : Option TableDecl) → cond (pointwise ◌==◌ x x) (Some d) o ≡ Some d
found_own x d o = ap (λ b. cond b (Some d) o) (own_name x)

entry_found : (tables : TableDecls) (place : ℕ) (e d : List ℕ × TableDecl) → Differ tables → place < length tables → get_or tables place d ≡ e → named e.0 tables ≡ Some e.1
entry_found [] place e d differ l is = absurd (omega (arith, l))
entry_found (t ∷ ts) zero e d differ l is = subst (λ (f : List ℕ × TableDecl). named f.0 (t ∷ ts) ≡ Some f.1) is (found_own t.0 t.1 (named t.0 ts))
entry_found (t ∷ ts) (suc place) e d differ l is =
    found_by (pointwise ◌==◌ e.0 t.0) e.0 e.1 t ts refl differ.0 (entry_found ts place e d differ.1 (omega (arith, l)) is)

pub here : (tables : TableDecls) (place : ℕ) (d : TableDecl) → IsTable (λ t. t.name) tables → place < length tables → declared_at place tables ≡ Some d → IsHere tables place d
here tables place d table l at =
    let nobody : List ℕ × TableDecl = (d.name, d) in
    let e : List ℕ × TableDecl = get_or tables place nobody in
    let is : e.1 ≡ d = some-inj e.1 d (sym (ap declared_in (slice_get-get_or tables place nobody l)) ∙ at) in
    let next : suc place ≡ place + 1 = omega arith in
    record {
      entry = e;
      own = All-get_or (λ (f : List ℕ × TableDecl). f.0 ≡ f.1.name) tables place nobody l table.owned ∙ ap (λ (t : TableDecl). t.name) is;
      is = is;
      rest = drop-cons tables place nobody l ∙ ap (λ n. e ∷ drop n tables) next;
      found = entry_found tables place e nobody table.differ l refl;
    }

pub parents_here : (tables : TableDecls) (place : ℕ) (d : TableDecl) → IsHere tables place d → parents_of tables d.name ≡ d.inherit_from
parents_here tables place d h =
    ap (λ (x : List ℕ). parents_of tables x) (sym h.own) ∙ ap parents_by h.found ∙ ap (λ (t : TableDecl). t.inherit_from) h.is

pub first_goes_on : (tables : TableDecls) (place : ℕ) (d : TableDecl) → IsHere tables place d → (IsOnRing tables d.name → ⊥) → GoesOn tables place → GoesOn tables (place + 1)
first_goes_on tables place d h off on r left =
    on r (subst (λ (es : TableDecls). IsFirstOnRing tables es r) (sym h.rest)
    (past_one tables h.entry (drop (place + 1) tables) r (λ ring. off (subst (IsOnRing tables) h.own ring)) left))

pub first_stops : (tables : TableDecls) (place : ℕ) (d : TableDecl) → IsHere tables place d → IsOnRing tables d.name → GoesOn tables place → IsFirstOnRing tables tables (Some d.at)
first_stops tables place d h ring on =
    on (Some d.at) (subst (λ (es : TableDecls). IsFirstOnRing tables es (Some d.at)) (sym h.rest)
    (inl (subst (IsOnRing tables) (sym h.own) ring, ap (λ (t : TableDecl). t.at) h.is)))

pub none_left : (tables : TableDecls) (place : ℕ) → length tables ≤ place → GoesOn tables place → IsFirstOnRing tables tables None
none_left tables place l on = on None (subst (λ (es : TableDecls). IsFirstOnRing tables es None) (sym (drop_all place tables l)) tt)

-- ---- no ring

has_parents : (o : Option TableDecl) (p : List ℕ) → is_among p (parents_by o) ≡ true → is_some o ≡ true
has_parents None p m = cc
has_parents (Some d) p m = refl

declared : (tables : TableDecls) (x : List ℕ) → IsOnRing tables x → is_some (named x tables) ≡ true
declared tables x (directly _ _ m) = has_parents (named x tables) x m
declared tables x (through _ y _ m r) = has_parents (named x tables) y m

none_on_ring : (tables ts : TableDecls) (x : List ℕ) → IsFirstOnRing tables ts None → is_some (named x ts) ≡ true → IsOnRing tables x → ⊥
none_on_ring tables [] x none there ring = cc
none_on_ring tables (t ∷ ts) x none there ring = by (pointwise ◌==◌ x t.0) refl there (λ k. none_on_ring tables ts x none.1 k ring)
  where
    by : (b : Bool) → pointwise ◌==◌ x t.0 ≡ b → is_some (cond b (Some t.1) (named x ts)) ≡ true → (is_some (named x ts) ≡ true → ⊥) → ⊥
    by true e k rest = none.0 (subst (IsOnRing tables) (same_name x t.0 e) ring)
    by false e k rest = rest k

pub clear_of_rings : (tables : TableDecls) → IsFirstOnRing tables tables None → HasNoRing tables
clear_of_rings tables none x ring = none_on_ring tables tables x none (declared tables x ring) ring
