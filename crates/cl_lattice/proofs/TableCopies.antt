-- Tables that are made of another one, declaration by declaration.
use Rattle.std.proofs.Common.{◌≡◌, ◌++◌, ◌+◌, ◌==◌, ℕ, zero, suc, Bool, true, false, cond, List, [], ◌∷◌, Option, Some, None, map, take, refl, sym, ap, ◌∙◌, arith}
use Rattle.std.specs.Prelude.{All, is_some, if◌then◌else◌}
use Rattle.std.specs.Cmp.Lexicographic.{pointwise}
use Rattle.std.proofs.lemmas.List.{map-append}
use Rattle.std.proofs.lemmas.List.Elements.{All-head, All-tail}
use Rattle.std.proofs.lemmas.Slice.Eq.{bytes_eq-Decides}
use Rattle.cl_table.specs.Names.{Differ, IsTable, declared_at, named, with_first}
use Rattle.cl_lattice.specs.RingSearch.{has}
use Rattle.cl_lattice.proofs.RingEntries.{same_name}

own_name : (x y : List ℕ) → x ≡ y → pointwise ◌==◌ x y ≡ true
own_name x y h = (bytes_eq-Decides x y).1 h

module _ {D : Type 0} where
  abbrev pub IsOwned : (D → List ℕ) → List ℕ × D → Type 0
  IsOwned own e = e.0 ≡ own e.1

  -- a declaration at a place of a table
  record Placed (own : D → List ℕ) (t : List (List ℕ × D)) (i : ℕ) (d : D) : Type 0 where
    name : List ℕ
    owned : name ≡ own d
    next : take (suc i) t ≡ take i t ++ (name, d) ∷ []
    new : has name (take i t) ≡ false
    there : has name t ≡ true

  here_or : (b : Bool) (d : D) (o : Option D) → b ≡ true → is_some (cond b (Some d) o) ≡ true
  here_or true d o h = refl
  here_or false d o h = cc

  there_or : (b : Bool) (d : D) (o : Option D) → is_some o ≡ true → is_some (cond b (Some d) o) ≡ true
  there_or true d o h = refl
  there_or false d o h = h

  not_here : (b : Bool) (x : List ℕ) (e : List ℕ × D) (t : List (List ℕ × D)) (o : Option D) → pointwise ◌==◌ x e.0 ≡ b → named e.0 t ≡ None → has x t ≡ true → is_some o ≡ false
      → is_some (cond b (Some e.1) o) ≡ false
  not_here true x e t o same none h k =
      let no : has e.0 t ≡ true = ap (λ (y : List ℕ). has y t) (sym (same_name x e.0 same)) ∙ h in
      let yes : has e.0 t ≡ false = ap is_some none in
      cc
  not_here false x e t o same none h k = k

  placed : (own : D → List ℕ) (t : List (List ℕ × D)) (i : ℕ) (d : D) → All (IsOwned own) t → Differ t → Some d ≡ declared_at i t → Placed own t i d
  placed own [] zero d all diff h = cc
  placed own [] (suc i) d all diff h = cc
  placed own (e ∷ t) zero d all diff h =
      let same : d ≡ e.1 = cc in
      record {
        name = e.0;
        owned = All-head (IsOwned own) e t all ∙ ap own (sym same);
        next = ap (λ (c : D). (e.0, c) ∷ []) (sym same);
        new = refl;
        there = here_or (pointwise ◌==◌ e.0 e.0) e.1 (named e.0 t) (own_name e.0 e.0 refl);
      }
  placed own (e ∷ t) (suc i) d all diff h =
      let rest : Placed own t i d = placed own t i d (All-tail (IsOwned own) e t all) diff.1 h in
      record {
        name = rest.name;
        owned = rest.owned;
        next = ap (λ (es : List (List ℕ × D)). e ∷ es) rest.next;
        new = not_here (pointwise ◌==◌ rest.name e.0) rest.name e t (named rest.name (take i t)) refl diff.0 rest.there rest.new;
        there = there_or (pointwise ◌==◌ rest.name e.0) e.1 (named rest.name t) rest.there;
      }

  with_new : (b : Bool) (table : List (List ℕ × D)) (x : List ℕ) (d : D) → b ≡ false → (if b then table else table ++ (x, d) ∷ []) ≡ table ++ (x, d) ∷ []
  with_new true table x d h = cc
  with_new false table x d h = refl

module _ {D E : Type 0} where
  -- what is made of each declaration, under the same names
  abbrev pub copies : (D → E) → List (List ℕ × D) → List (List ℕ × E)
  copies f t = map (λ e. (e.0, f e.1)) t

  has_copies : (f : D → E) (x : List ℕ) (t : List (List ℕ × D)) → has x (copies f t) ≡ has x t
  has_copies f x [] = refl
  has_copies f x (e ∷ t) = by_name (pointwise ◌==◌ x e.0) (has_copies f x t)
    where
      by_name : (b : Bool) → has x (copies f t) ≡ has x t → is_some (cond b (Some (f e.1)) (named x (copies f t))) ≡ is_some (cond b (Some e.1) (named x t))
      by_name true h = refl
      by_name false h = h

  -- one more
  pub copied_next : (own : D → List ℕ) (other : E → List ℕ) (f : D → E) (t : List (List ℕ × D)) (table : List (List ℕ × E)) (i : ℕ) (d : D) (c : E) → IsTable own t
      → Some d ≡ declared_at i t → table ≡ copies f (take i t) → c ≡ f d → other (f d) ≡ own d → with_first other table c ≡ copies f (take (i + 1) t)
  copied_next own other f t table i d c is h same copy names =
      let one : Placed own t i d = placed own t i d is.owned is.differ h in
      let called : other (f d) ≡ one.name = names ∙ sym one.owned in
      let new : has (other (f d)) (copies f (take i t)) ≡ false = ap (λ (x : List ℕ). has x (copies f (take i t))) called ∙ has_copies f one.name (take i t) ∙ one.new in
      let next : i + 1 ≡ suc i = omega arith in
      rw (same, copy)
      (with_new (has (other (f d)) (copies f (take i t))) (copies f (take i t)) (other (f d)) (f d) new
      ∙ ap (λ (x : List ℕ). copies f (take i t) ++ (x, f d) ∷ []) called
      ∙ sym (map-append (λ (e : List ℕ × D). (e.0, f e.1)) (take i t) ((one.name, d) ∷ []))
      ∙ ap (copies f) (sym one.next ∙ ap (λ (n : ℕ). take n t) (sym next)))

module _ {D : Type 0} where
  pub same_copies : (t : List (List ℕ × D)) → copies (λ (d : D). d) t ≡ t
  same_copies [] = refl
  same_copies (e ∷ t) = ap (λ (es : List (List ℕ × D)). e ∷ es) (same_copies t)
