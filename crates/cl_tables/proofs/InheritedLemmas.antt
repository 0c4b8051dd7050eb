-- The tables of an inheritance order are those that are reached.
use Rattle.std.proofs.Common.{◌≡◌, ◌+◌, Bool, true, false, cond, not, ℕ, zero, suc, length, List, [], ◌∷◌, refl, sym, ap, ◌∙◌, subst, inl, inr}
use Rattle.std.specs.Prelude.{◌⊎◌, ◌↔◌, ◌||◌, filter}
use Rattle.std.specs.List.{flat_map}
use Rattle.std.specs.Str.{bytes_eq}
use Rattle.cl_tables.specs.Inheritance.{TableDecls, firsts, inheritance, is_among, is_other, parents_of, preorder, preorder_within}
use Rattle.cl_tables.specs.Laws.{IsInherited}
use Rattle.cl_tables.specs.Rings.{Reaches, directly, through, HasNoRing}
use Rattle.cl_tables.proofs.NameLemmas.{same_name, is_among-append, among_left, among_right, among_head, among_tail}
use Rattle.cl_tables.proofs.RingLemmas.{preorder_is}

either : {A B C : Type 0} → (A → C) → (B → C) → A ⊎ B → C
either f g (inl a) = f a
either f g (inr b) = g b

or_true : (a b : Bool) → (a || b) ≡ true → (a ≡ true) ⊎ (b ≡ true)
or_true true b h = inl refl
or_true false b h = inr h

-- ---- a name is among the first occurrences where it is among the names

kept : (x y : List ℕ) (ys : List (List ℕ)) → bytes_eq y x ≡ false → is_among y (filter (is_other x) ys) ≡ is_among y ys
kept x y [] h = refl
kept x y (z ∷ ys) h = by (bytes_eq x z) refl (kept x y ys h)
  where
    by : (b : Bool) → bytes_eq x z ≡ b → is_among y (filter (is_other x) ys) ≡ is_among y ys
        → is_among y (cond (not b) (z ∷ filter (is_other x) ys) (filter (is_other x) ys)) ≡ (bytes_eq y z || is_among y ys)
    by true e rest = rest ∙ ap (λ b. b || is_among y ys) (sym (ap (bytes_eq y) (sym (same_name x z e)) ∙ h))
    by false e rest = ap (λ b. bytes_eq y z || b) rest

pub is_among-firsts : (y : List ℕ) (xs : List (List ℕ)) → is_among y (firsts xs) ≡ is_among y xs
is_among-firsts y [] = refl
is_among-firsts y (x ∷ xs) = by (bytes_eq y x) refl (is_among-firsts y xs)
  where
    by : (b : Bool) → bytes_eq y x ≡ b → is_among y (firsts xs) ≡ is_among y xs → (b || is_among y (filter (is_other x) (firsts xs))) ≡ (b || is_among y xs)
    by true e rest = refl
    by false e rest = kept x y (firsts xs) e ∙ rest

-- ---- what stands in a preorder is reached

further : (tables : TableDecls) (x p y : List ℕ) → is_among p (parents_of tables x) ≡ true → IsInherited tables p y → IsInherited tables x y
further tables x p y m (inl e) = inr (subst (Reaches tables x) e (directly x p m))
further tables x p y m (inr r) = inr (through x p y m r)

in_one : (f : List ℕ → List (List ℕ)) (y : List ℕ) (ps : List (List ℕ)) (P : Type 0) → ((p : List ℕ) → is_among p ps ≡ true → is_among y (f p) ≡ true → P)
    → is_among y (flat_map f ps) ≡ true → P
in_one f y [] P h m = cc
in_one f y (p ∷ ps) P h m =
    either (λ here. h p (among_head p ps) here) (λ rest. in_one f y ps P (λ q n k. h q (among_tail q p ps n) k) rest)
    (or_true (is_among y (f p)) (is_among y (flat_map f ps)) (sym (is_among-append y (f p) (flat_map f ps)) ∙ m))

within_reached : (tables : TableDecls) (n : ℕ) (x y : List ℕ) → is_among y (preorder_within n tables x) ≡ true → IsInherited tables x y
within_reached tables zero x y m = cc
within_reached tables (suc n) x y m =
    either (λ e. inl (sym (same_name y x e)))
    (λ rest. in_one (preorder_within n tables) y (parents_of tables x) (IsInherited tables x y) (λ p k here. further tables x p y k (within_reached tables n p y here)) rest)
    (or_true (bytes_eq y x) (is_among y (flat_map (preorder_within n tables) (parents_of tables x))) m)

-- ---- what is reached stands in the preorder

in_flat : (f : List ℕ → List (List ℕ)) (y p : List ℕ) (ps : List (List ℕ)) → is_among p ps ≡ true → is_among y (f p) ≡ true → is_among y (flat_map f ps) ≡ true
in_flat f y p [] m h = cc
in_flat f y p (q ∷ ps) m h =
    either (λ e. among_left y (f q) (flat_map f ps) (subst (λ z. is_among y (f z) ≡ true) (same_name p q e) h))
    (λ rest. among_right y (f q) (flat_map f ps) (in_flat f y p ps rest h))
    (or_true (bytes_eq p q) (is_among p ps) m)

in_parent : (tables : TableDecls) → HasNoRing tables → (x p y : List ℕ) → is_among p (parents_of tables x) ≡ true → is_among y (preorder tables p) ≡ true
    → is_among y (preorder tables x) ≡ true
in_parent tables ring x p y m h =
    ap (is_among y) (preorder_is tables ring x) ∙ among_tail y x (flat_map (preorder tables) (parents_of tables x)) (in_flat (preorder tables) y p (parents_of tables x) m h)

itself : (tables : TableDecls) → HasNoRing tables → (x : List ℕ) → is_among x (preorder tables x) ≡ true
itself tables ring x = ap (is_among x) (preorder_is tables ring x) ∙ among_head x (flat_map (preorder tables) (parents_of tables x))

reached_within : (tables : TableDecls) → HasNoRing tables → (x y : List ℕ) → Reaches tables x y → is_among y (preorder tables x) ≡ true
reached_within tables ring x y (directly _ _ m) = in_parent tables ring x y y m (itself tables ring y)
reached_within tables ring x y (through _ p _ m r) = in_parent tables ring x p y m (reached_within tables ring p y r)

-- the inheritance order has the table and those that it reaches
pub inherited_is : (tables : TableDecls) → HasNoRing tables → (x y : List ℕ) → (is_among y (inheritance tables x) ≡ true) ↔ IsInherited tables x y
unfolding inheritance preorder
inherited_is tables ring x y = (
  λ m. within_reached tables (length tables + 1) x y (sym (is_among-firsts y (preorder tables x)) ∙ m),
  λ inherited. is_among-firsts y (preorder tables x)
      ∙ either (λ e. subst (λ z. is_among z (preorder tables x) ≡ true) e (itself tables ring x)) (λ r. reached_within tables ring x y r) inherited,
)
