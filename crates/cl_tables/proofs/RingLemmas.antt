-- Where no table reaches itself, as many tables as are declared stand above one at most: its preorder goes by its parents' preorders.
use Rattle.std.proofs.Common.{◌≡◌, ◌≤◌, ◌+◌, ◌++◌, ◌==◌, ℕ, zero, suc, Bool, true, false, cond, length, List, [], ◌∷◌, Option, Some, None, refl, sym, ap, ◌∙◌, subst, arith}
use Rattle.std.specs.Prelude.{All, is_some, ◌||◌}
use Rattle.std.specs.Cmp.Lexicographic.{pointwise}
use Rattle.std.specs.List.{flat_map}
use Rattle.std.specs.Str.{bytes_eq}
use Rattle.std.proofs.lemmas.List.Elements.{All-nil, All-cons, All-head, All-tail, All-weaker}
use Rattle.cl_table.specs.Names.{named}
use Rattle.cl_tables.specs.Inheritance.{TableDecls, is_among, parents_by, parents_of, preorder_within, preorder}
use Rattle.cl_tables.specs.Rings.{Reaches, directly, through, HasNoRing}
use Rattle.cl_tables.specs.declared.declarations.TableDecl.{TableDecl}
use Rattle.cl_tables.proofs.NameLemmas.{same_name, among_head, among_tail}

-- one parent further
pub reaches_on : (tables : TableDecls) (x y z : List ℕ) → Reaches tables x y → is_among z (parents_of tables y) ≡ true → Reaches tables x z
reaches_on tables _ _ z (directly x y m) n = through x y z m (directly y z n)
reaches_on tables _ _ z (through x y v m r) n = through x y z m (reaches_on tables y v z r n)

pub reaches_join : (tables : TableDecls) (x y z : List ℕ) → Reaches tables x y → Reaches tables y z → Reaches tables x z
reaches_join tables _ _ z (directly x y m) s = through x y z m s
reaches_join tables _ _ z (through x y v m r) s = through x y z m (reaches_join tables y v z r s)

abbrev one_unless : Bool → ℕ
one_unless true = 0
one_unless false = 1

fewer : (a b : Bool) → (a ≡ true → b ≡ true) → one_unless b ≤ one_unless a
fewer true true h = omega arith
fewer true false h = let no : false ≡ true = h refl in cc
fewer false true h = omega arith
fewer false false h = omega arith

-- how many of the tables are not among names
abbrev missing : TableDecls → List (List ℕ) → ℕ
missing [] path = 0
missing (t ∷ ts) path = one_unless (is_among t.0 path) + missing ts path

missing_none : (tables : TableDecls) → missing tables [] ≡ length tables
missing_none [] = refl
missing_none (t ∷ ts) = omega (arith, missing_none ts)

missing_more : (tables : TableDecls) (x : List ℕ) (path : List (List ℕ)) → missing tables (x ∷ path) ≤ missing tables path
missing_more [] x path = omega arith
missing_more (t ∷ ts) x path = omega (arith, missing_more ts x path, fewer (is_among t.0 path) (is_among t.0 (x ∷ path)) (among_tail t.0 x path))

missing_by : (b : Bool) (x : List ℕ) (t : List ℕ × TableDecl) (ts : TableDecls) (path : List (List ℕ)) → pointwise ◌==◌ x t.0 ≡ b
    → is_some (cond b (Some t.1) (named x ts)) ≡ true → is_among x path ≡ false
    → (is_some (named x ts) ≡ true → missing ts (x ∷ path) + 1 ≤ missing ts path)
    → missing (t ∷ ts) (x ∷ path) + 1 ≤ missing (t ∷ ts) path
missing_by true x t ts path same h new rest =
    let is : x ≡ t.0 = same_name x t.0 same in
    let after : one_unless (is_among t.0 (x ∷ path)) ≡ 0 = ap one_unless (ap (λ (y : List ℕ). is_among y (x ∷ path)) (sym is) ∙ among_head x path) in
    let before : one_unless (is_among t.0 path) ≡ 1 = ap one_unless (ap (λ (y : List ℕ). is_among y path) (sym is) ∙ new) in
    omega (arith, missing_more ts x path, after, before)
missing_by false x t ts path same h new rest = omega (arith, rest h, fewer (is_among t.0 path) (is_among t.0 (x ∷ path)) (among_tail t.0 x path))

missing_less : (tables : TableDecls) (x : List ℕ) (path : List (List ℕ)) → is_some (named x tables) ≡ true → is_among x path ≡ false
    → missing tables (x ∷ path) + 1 ≤ missing tables path
missing_less [] x path h new = cc
missing_less (t ∷ ts) x path h new = missing_by (pointwise ◌==◌ x t.0) x t ts path refl h new (λ k. missing_less ts x path k new)

-- ---- the preorder through one table more is the same

among_all : (P : List ℕ → Type 0) (x : List ℕ) (xs : List (List ℕ)) → is_among x xs ≡ true → All P xs → P x
among_all P x [] h all = cc
among_all P x (y ∷ ys) h all = by (bytes_eq x y) refl h (λ k. among_all P x ys k (All-tail P y ys all))
  where
    by : (b : Bool) → bytes_eq x y ≡ b → (b || is_among x ys) ≡ true → (is_among x ys ≡ true → P x) → P x
    by true e k rest = subst P (sym (same_name x y e)) (All-head P y ys all)
    by false e k rest = rest k

flat_map-same : (f g : List ℕ → List (List ℕ)) (ps : List (List ℕ)) → ((p : List ℕ) → is_among p ps ≡ true → f p ≡ g p) → flat_map f ps ≡ flat_map g ps
flat_map-same f g [] h = refl
flat_map-same f g (p ∷ ps) h =
    ap (λ xs. xs ++ flat_map f ps) (h p (among_head p ps))
    ∙ ap (λ xs. g p ++ xs) (flat_map-same f g ps (λ q k. h q (among_tail q p ps k)))

-- all on the path reach the table at its end
abbrev Above : TableDecls → List ℕ → List (List ℕ) → Type 0
Above tables x path = All (λ q. Reaches tables q x) path

declared : (o : Option TableDecl) (p : List ℕ) → is_among p (parents_by o) ≡ true → is_some o ≡ true
declared None p h = cc
declared (Some d) p h = refl

-- a table on the path is no other's parent that comes again
not_above : (tables : TableDecls) → HasNoRing tables → (x : List ℕ) (path : List (List ℕ)) → Above tables x path → is_among x path ≡ false
not_above tables ring x path above = by (is_among x path) refl
  where
    by : (b : Bool) → is_among x path ≡ b → is_among x path ≡ false
    by true e = absurd (ring x (among_all (λ q. Reaches tables q x) x path e above))
    by false e = e

-- one parent further, one table fewer is left
left : (tables : TableDecls) → HasNoRing tables → (n : ℕ) (x : List ℕ) (path : List (List ℕ)) → Above tables x path → missing tables path ≤ n
    → (p : List ℕ) → is_among p (parents_of tables x) ≡ true → missing tables (x ∷ path) + 1 ≤ n
left tables ring n x path above few p m =
    omega (arith, few, missing_less tables x path (declared (named x tables) p m) (not_above tables ring x path above))

above_more : (tables : TableDecls) (x : List ℕ) (path : List (List ℕ)) → Above tables x path → (p : List ℕ) → is_among p (parents_of tables x) ≡ true
    → Above tables p (x ∷ path)
above_more tables x path above p m =
    All-cons (λ q. Reaches tables q p) x path (directly x p m)
    (All-weaker (λ q. Reaches tables q x) (λ q. Reaches tables q p) (λ q r. reaches_on tables q x p r m) path above)

stable : (tables : TableDecls) → HasNoRing tables → (n : ℕ) (x : List ℕ) (path : List (List ℕ)) → Above tables x path → missing tables path ≤ n
    → preorder_within (suc n) tables x ≡ preorder_within (suc (suc n)) tables x
stable tables ring zero x path above few =
    ap (λ xs. x ∷ xs) (flat_map-same (preorder_within zero tables) (preorder_within (suc zero) tables) (parents_of tables x)
    (λ p m. absurd (omega (arith, left tables ring zero x path above few p m))))
stable tables ring (suc n) x path above few =
    ap (λ xs. x ∷ xs) (flat_map-same (preorder_within (suc n) tables) (preorder_within (suc (suc n)) tables) (parents_of tables x)
    (λ p m. stable tables ring n p (x ∷ path) (above_more tables x path above p m) (omega (arith, left tables ring (suc n) x path above few p m))))

one_more : (n : ℕ) → n + 1 ≡ suc n
one_more n = omega arith

-- the preorder of a table: the table, and then its parents' preorders
pub preorder_is : (tables : TableDecls) → HasNoRing tables → (x : List ℕ) → preorder tables x ≡ x ∷ flat_map (preorder tables) (parents_of tables x)
unfolding preorder
preorder_is tables ring x =
    let n : ℕ = length tables in
    let few : missing tables [] ≤ n = omega (arith, missing_none tables) in
    let same : preorder_within (n + 1) tables x ≡ preorder_within (suc n) tables x = ap (λ k. preorder_within k tables x) (one_more n) in
    same ∙ stable tables ring n x [] (All-nil (λ q. Reaches tables q x)) few
    ∙ ap (λ k. x ∷ flat_map (preorder_within k tables) (parents_of tables x)) (sym (one_more n))
