-- What stands in a table by name, and how many names of another table are not in it.
use Rattle.std.proofs.Common.{◌≡◌, ◌≤◌, ◌+◌, ◌++◌, ◌==◌, ℕ, Bool, true, false, cond, List, [], ◌∷◌, Option, Some, None, refl, sym, ap, ◌∙◌, arith}
use Rattle.std.specs.Prelude.{is_some}
use Rattle.std.specs.Cmp.Lexicographic.{pointwise}
use Rattle.std.proofs.lemmas.Slice.Eq.{bytes_eq-Decides}
use Rattle.cl_table.specs.Names.{named}
use Rattle.cl_lattice.specs.RingSearch.{has}

pub same_name : (x y : List ℕ) → pointwise ◌==◌ x y ≡ true → x ≡ y
same_name x y h = (bytes_eq-Decides x y).0 h

own_name : (x : List ℕ) → pointwise ◌==◌ x x ≡ true
own_name x = (bytes_eq-Decides x x).1 refl

module _ {D : Type 0} where
  front : (b : Bool) (d : D) (o o' : Option D) → (is_some o ≡ true → is_some o' ≡ true) → is_some (cond b (Some d) o) ≡ true → is_some (cond b (Some d) o') ≡ true
  front true d o o' more h = refl
  front false d o o' more h = more h

  -- what is there stays
  pub has_more : (x : List ℕ) (es more : List (List ℕ × D)) → has x es ≡ true → has x (es ++ more) ≡ true
  has_more x [] more h = cc
  has_more x (e ∷ es) more h = front (pointwise ◌==◌ x e.0) e.1 (named x es) (named x (es ++ more)) (has_more x es more) h

  here : (b : Bool) (d : D) (o : Option D) → b ≡ true → is_some (cond b (Some d) o) ≡ true
  here true d o h = refl
  here false d o h = cc

  there : (b : Bool) (d : D) (o : Option D) → is_some o ≡ true → is_some (cond b (Some d) o) ≡ true
  there true d o h = refl
  there false d o h = h

  -- what was added is there
  pub has_last : (x : List ℕ) (d : D) (es : List (List ℕ × D)) → has x (es ++ (x, d) ∷ []) ≡ true
  has_last x d [] = here (pointwise ◌==◌ x x) d None (own_name x)
  has_last x d (e ∷ es) = there (pointwise ◌==◌ x e.0) e.1 (named x (es ++ (x, d) ∷ [])) (has_last x d es)

abbrev pub one_unless : Bool → ℕ
one_unless true = 0
one_unless false = 1

fewer : (a b : Bool) → (a ≡ true → b ≡ true) → one_unless b ≤ one_unless a
fewer true true h = omega arith
fewer true false h = let no : false ≡ true = h refl in cc
fewer false true h = omega arith
fewer false false h = omega arith

none_left : (b : Bool) → b ≡ true → one_unless b ≡ 0
none_left true h = refl
none_left false h = cc

one_left : (b : Bool) → b ≡ false → one_unless b ≡ 1
one_left true h = cc
one_left false h = refl

module _ {C D : Type 0} where
  -- how many of a table's names are not among others
  abbrev pub missing : List (List ℕ × C) → List (List ℕ × D) → ℕ
  missing [] es = 0
  missing (c ∷ cs) es = one_unless (has c.0 es) + missing cs es

  missing_more : (cs : List (List ℕ × C)) (es more : List (List ℕ × D)) → missing cs (es ++ more) ≤ missing cs es
  missing_more [] es more = omega arith
  missing_more (c ∷ cs) es more = omega (arith, missing_more cs es more, fewer (has c.0 es) (has c.0 (es ++ more)) (has_more c.0 es more))

  missing_head : (x : List ℕ) (d : D) (c : List ℕ × C) (cs : List (List ℕ × C)) (es : List (List ℕ × D)) → x ≡ c.0 → has x es ≡ false
      → missing (c ∷ cs) (es ++ (x, d) ∷ []) + 1 ≤ missing (c ∷ cs) es
  missing_head x d c cs es e h =
      let after : one_unless (has c.0 (es ++ (x, d) ∷ [])) ≡ 0 = none_left (has c.0 (es ++ (x, d) ∷ [])) (ap (λ (y : List ℕ). has y (es ++ (x, d) ∷ [])) (sym e) ∙ has_last x d es) in
      let before : one_unless (has c.0 es) ≡ 1 = one_left (has c.0 es) (ap (λ (y : List ℕ). has y es) (sym e) ∙ h) in
      omega (arith, missing_more cs es ((x, d) ∷ []), after, before)

  missing_by : (b : Bool) (x : List ℕ) (d : D) (c : List ℕ × C) (cs : List (List ℕ × C)) (es : List (List ℕ × D)) → pointwise ◌==◌ x c.0 ≡ b
      → is_some (cond b (Some c.1) (named x cs)) ≡ true → has x es ≡ false
      → (has x cs ≡ true → missing cs (es ++ (x, d) ∷ []) + 1 ≤ missing cs es)
      → missing (c ∷ cs) (es ++ (x, d) ∷ []) + 1 ≤ missing (c ∷ cs) es
  missing_by true x d c cs es same h new rest = missing_head x d c cs es (same_name x c.0 same) new
  missing_by false x d c cs es same h new rest = omega (arith, rest h, fewer (has c.0 es) (has c.0 (es ++ (x, d) ∷ [])) (has_more c.0 es ((x, d) ∷ [])))

  -- one fewer, where a name of the table is added
  pub missing_less : (x : List ℕ) (d : D) (cs : List (List ℕ × C)) (es : List (List ℕ × D)) → has x cs ≡ true → has x es ≡ false
      → missing cs (es ++ (x, d) ∷ []) + 1 ≤ missing cs es
  missing_less x d [] es h new = cc
  missing_less x d (c ∷ cs) es h new =
      missing_by (pointwise ◌==◌ x c.0) x d c cs es refl h new (λ k. missing_less x d cs es k new)
