-- Tables that are on no ring, and how much of a walk is left.
use Rattle.std.proofs.Common.{◌≡◌, ◌≤◌, ◌+◌, ◌++◌, ◌==◌, ℕ, Bool, true, false, cond, length, List, [], ◌∷◌, Option, Some, None, refl, sym, ap, ◌∙◌, subst, arith}
use Rattle.std.specs.Prelude.{Result, Ok, Err, OnOk, is_some, not, ◌||◌, ◌&&◌, if◌then◌else◌}
use Rattle.std.specs.List.{list_all}
use Rattle.std.specs.Cmp.Lexicographic.{pointwise}
use Rattle.std.specs.Str.{bytes_eq}
use Rattle.cl_table.specs.Names.{named}
use Rattle.cl_tables.specs.Clearing.{AreClear, is_clear, pending}
use Rattle.cl_tables.specs.Inheritance.{TableDecls, is_among, parents_by, parents_of}
use Rattle.cl_tables.specs.Rings.{directly, through, IsOnRing}
use Rattle.cl_tables.specs.Walk.{Visits, is_visited, with_visit}
use Rattle.cl_tables.specs.declared.declarations.TableDecl.{TableDecl}
use Rattle.cl_tables.specs.declared.walk.Visited.{Visited}
use Rattle.cl_tables.proofs.NameLemmas.{same_name, own_name, has_last}
use Rattle.cl_tables.proofs.RingLemmas.{reaches_on}

-- ---- rings

-- a ring goes on from a table to one of its parents
ring_parent : (tables : TableDecls) (x : List ℕ) → IsOnRing tables x → (p : List ℕ) × (is_among p (parents_of tables x) ≡ true) × IsOnRing tables p
ring_parent tables x (directly _ _ m) = (x, m, directly x x m)
ring_parent tables x (through _ y _ m r) = (y, m, reaches_on tables y x y r m)

undeclared : (tables : TableDecls) (o : Option TableDecl) (p : List ℕ) → not (is_some o) ≡ true → is_among p (parents_by o) ≡ true → ⊥
undeclared tables None p h m = cc
undeclared tables (Some d) p h m = cc

clear_one : (tables : TableDecls) (clear : Visits) (x : List ℕ) → AreClear tables clear → is_clear tables clear x ≡ true → IsOnRing tables x → ⊥
clear_one tables clear x all h ring = by (is_visited x clear) refl h
  where
    by : (b : Bool) → is_visited x clear ≡ b → (b || not (is_some (named x tables))) ≡ true → ⊥
    by true e k = all x e ring
    by false e k = let next = ring_parent tables x ring in undeclared tables (named x tables) next.0 k next.1

all_clear : (p : List ℕ → Bool) (x : List ℕ) (xs : List (List ℕ)) → list_all p xs ≡ true → is_among x xs ≡ true → p x ≡ true
all_clear p x [] h m = cc
all_clear p x (y ∷ ys) h m = by (bytes_eq x y) (p y) refl refl h m (λ k n. all_clear p x ys k n)
  where
    by : (b c : Bool) → bytes_eq x y ≡ b → p y ≡ c → (c && list_all p ys) ≡ true → (b || is_among x ys) ≡ true
        → (list_all p ys ≡ true → is_among x ys ≡ true → p x ≡ true) → p x ≡ true
    by b false e f k n rest = cc
    by true true e f k n rest = ap p (same_name x y e) ∙ f
    by false true e f k n rest = rest k n

-- a table whose parents are clear is on no ring
parents_clear : (tables : TableDecls) (clear : Visits) (x : List ℕ) → AreClear tables clear → list_all (is_clear tables clear) (parents_of tables x) ≡ true → IsOnRing tables x → ⊥
parents_clear tables clear x all h ring =
    let next = ring_parent tables x ring in
    clear_one tables clear next.0 all (all_clear (is_clear tables clear) next.0 (parents_of tables x) h next.1) next.2

pub visited_by : (b : Bool) (x y : List ℕ) (visits : Visits) → is_visited y (if b then visits else visits ++ (x, record { name = x }) ∷ []) ≡ true
    → (is_visited y visits || bytes_eq y x) ≡ true
visited_by true x y visits h = ap (λ c. c || bytes_eq y x) h
visited_by false x y visits h = sym (has_last y (x, record { name = x }) visits) ∙ h

pub clear_more : (tables : TableDecls) (clear : Visits) (x : List ℕ) → AreClear tables clear → list_all (is_clear tables clear) (parents_of tables x) ≡ true
    → AreClear tables (with_visit x clear)
clear_more tables clear x all h y v ring = by (is_visited y clear) refl (visited_by (is_visited x clear) x y clear v)
  where
    by : (b : Bool) → is_visited y clear ≡ b → (b || bytes_eq y x) ≡ true → ⊥
    by true e k = all y e ring
    by false e k = parents_clear tables clear x all h (subst (IsOnRing tables) (same_name y x k) ring)

-- ---- what is left of a walk

abbrev weight : Bool → ℕ → ℕ
weight visited n = if visited then 0 else n

lighter : (a b : Bool) (n : ℕ) → (a ≡ true → b ≡ true) → weight b n ≤ weight a n
lighter true true n h = omega arith
lighter true false n h = let no : false ≡ true = h refl in cc
lighter false true n h = omega arith
lighter false false n h = omega arith

pub visited_more : (x : List ℕ) (e : List ℕ × Visited) (visits : Visits) → is_visited x visits ≡ true → is_visited x (visits ++ e ∷ []) ≡ true
visited_more x e visits h = has_last x e visits ∙ ap (λ b. b || bytes_eq x e.0) h

right : (a b : Bool) → b ≡ true → (a || b) ≡ true
right true b h = refl
right false b h = h

pub visited_last : (x : List ℕ) (d : Visited) (visits : Visits) → is_visited x (visits ++ (x, d) ∷ []) ≡ true
visited_last x d visits = has_last x (x, d) visits ∙ right (is_visited x visits) (bytes_eq x x) (own_name x)

pub pending_more : (ts : TableDecls) (e : List ℕ × Visited) (visits : Visits) → pending ts (visits ++ e ∷ []) ≤ pending ts visits
pending_more [] e visits = omega arith
pending_more (t ∷ ts) e visits =
    omega (arith, pending_more ts e visits, lighter (is_visited t.0 visits) (is_visited t.0 (visits ++ e ∷ [])) (length t.1.inherit_from + 1) (visited_more t.0 e visits))

pending_head : (x : List ℕ) (d : TableDecl) (v : Visited) (t : List ℕ × TableDecl) (ts : TableDecls) (visits : Visits) → x ≡ t.0 → t.1 ≡ d → is_visited x visits ≡ false
    → pending (t ∷ ts) (visits ++ (x, v) ∷ []) + length d.inherit_from + 1 ≤ pending (t ∷ ts) visits
pending_head x d v t ts visits e is new =
    let n : ℕ = length t.1.inherit_from + 1 in
    let after : weight (is_visited t.0 (visits ++ (x, v) ∷ [])) n ≡ 0 = ap (λ b. weight b n) (ap (λ y. is_visited y (visits ++ (x, v) ∷ [])) (sym e) ∙ visited_last x v visits) in
    let before : weight (is_visited t.0 visits) n ≡ n = ap (λ b. weight b n) (ap (λ y. is_visited y visits) (sym e) ∙ new) in
    let same : length t.1.inherit_from ≡ length d.inherit_from = ap (λ (u : TableDecl). length u.inherit_from) is in
    omega (arith, pending_more ts (x, v) visits, after, before, same)

some-inj : {A : Type 0} (a b : A) → Some a ≡ Some b → a ≡ b
some-inj a b e = cc

pending_by : (b : Bool) (x : List ℕ) (d : TableDecl) (v : Visited) (t : List ℕ × TableDecl) (ts : TableDecls) (visits : Visits) → pointwise ◌==◌ x t.0 ≡ b
    → cond b (Some t.1) (named x ts) ≡ Some d → is_visited x visits ≡ false
    → (named x ts ≡ Some d → pending ts (visits ++ (x, v) ∷ []) + length d.inherit_from + 1 ≤ pending ts visits)
    → pending (t ∷ ts) (visits ++ (x, v) ∷ []) + length d.inherit_from + 1 ≤ pending (t ∷ ts) visits
pending_by true x d v t ts visits same h new rest = pending_head x d v t ts visits (same_name x t.0 same) (some-inj t.1 d h) new
pending_by false x d v t ts visits same h new rest =
    omega (arith, rest h, lighter (is_visited t.0 visits) (is_visited t.0 (visits ++ (x, v) ∷ [])) (length t.1.inherit_from + 1) (visited_more t.0 (x, v) visits))

-- a declared table that is visited is left no more, nor are its parents
pub pending_less : (ts : TableDecls) (x : List ℕ) (d : TableDecl) (v : Visited) (visits : Visits) → named x ts ≡ Some d → is_visited x visits ≡ false
    → pending ts (visits ++ (x, v) ∷ []) + length d.inherit_from + 1 ≤ pending ts visits
pending_less [] x d v visits h new = cc
pending_less (t ∷ ts) x d v visits h new = pending_by (pointwise ◌==◌ x t.0) x d v t ts visits refl h new (λ k. pending_less ts x d v visits k new)

pub on_ok : {A E : Type 0} (P Q : Type 0) (r : Result A E) → (P → Q) → OnOk r P → OnOk r Q
on_ok P Q (Ok a) f h = f h
on_ok P Q (Err e) f h = h

pub entered : (ts : TableDecls) (x : List ℕ) (d : TableDecl) (old : Visits) (more less : ℕ) → named x ts ≡ Some d → is_visited x old ≡ false
    → more ≤ less + length d.inherit_from + 1
    → pending ts (with_visit x old) + more ≤ pending ts old + less
entered ts x d old more less h new grows =
    let is : with_visit x old ≡ old ++ (x, record { name = x }) ∷ [] = ap (λ b. if b then old else old ++ (x, record { name = x }) ∷ []) new in
    let falls : pending ts (old ++ (x, record { name = x }) ∷ []) + length d.inherit_from + 1 ≤ pending ts old = pending_less ts x d (record { name = x }) old h new in
    let same : pending ts (with_visit x old) ≡ pending ts (old ++ (x, record { name = x }) ∷ []) = ap (pending ts) is in
    omega (arith, falls, same, grows)
