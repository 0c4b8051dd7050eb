-- Records of output as trees. What a branch holds stands relative to the place of the branch, and so does what its head says.
use Rattle.std.specs.Prelude.{◌≡◌, ℕ, ◌+◌, ℤ, Bool, true, false, ◌&&◌, if◌then◌else◌, List, [], ◌∷◌, refl}
use Rattle.std.proofs.Common.{ap}
use Rattle.std.proofs.lemmas.Bool.{eqb-false}
use Rattle.std.specs.Coded.{Coded, code_by, coded_ℤ, coded×}
use base.Stored.{Gv, gnil, gnum, gcons}
use Rattle.cl_value.specs.Data.{code_head, code_kind, code_tail, has_parts}
use Rattle.cl_region.specs.declared.rects.Shift.{Shift}
use Rattle.cl_record.specs.Heads.{HeadAt, head_code}
use Rattle.cl_record.specs.Labels.{LabelAt, label_code}
use Rattle.cl_record.specs.Shifts.{join_shifts, still}

mutual
  -- over the items A: an item, a presentation with its label, or an update with its head, these with their places
  pub data Tree (A : Type 0) : Type 0 where
    leaf : A → Tree A
    presentation : LabelAt → Shift → Trees A → Tree A
    update : HeadAt → Shift → Trees A → Tree A

  -- trees in a row
  pub data Trees (A : Type 0) : Type 0 where
    none : Trees A
    tree : Tree A → Trees A → Trees A

module _ {A : Type 0} where
  -- the trees of a list
  abbrev pub trees_of : List (Tree A) → Trees A
  trees_of [] = none
  trees_of (t ∷ ts) = tree t (trees_of ts)

  -- where it stands; an item has no place beside its own
  abbrev pub place_of : Tree A → Shift
  place_of (leaf a) = still
  place_of (presentation l p ts) = p
  place_of (update h p ts) = p

  -- what it holds
  abbrev pub children_of : Tree A → Trees A
  children_of (leaf a) = none
  children_of (presentation l p ts) = ts
  children_of (update h p ts) = ts

  -- whether there is neither an item nor an update in it, at any depth
  abbrev mutual
    pub is_bare : Tree A → Bool
    is_bare (leaf a) = false
    is_bare (presentation l p ts) = are_bare ts
    is_bare (update h p ts) = false

    -- a row of trees holds neither an item nor an update
    pub are_bare : Trees A → Bool
    are_bare none = true
    are_bare (tree t ts) = is_bare t && are_bare ts

  -- the same tree elsewhere; what it holds stays as it is. Where a presentation holds no item and no update there is nothing to move.
  abbrev pub move_tree : (Shift → A → A) → Shift → Tree A → Tree A
  move_tree move v (leaf a) = leaf (move v a)
  move_tree move v (presentation l p ts) = presentation l (if are_bare ts then p else join_shifts p v) ts
  move_tree move v (update h p ts) = update h (join_shifts p v) ts

  -- ---- measure

  abbrev mutual
    -- how large a tree is, by which a recursion over it ends
    pub size_of : Tree A → ℕ
    size_of (leaf a) = 1
    size_of (presentation l p ts) = 4 + size_of_all ts
    size_of (update h p ts) = 4 + size_of_all ts

    -- the sizes of a row of trees together
    pub size_of_all : Trees A → ℕ
    size_of_all none = 0
    size_of_all (tree t ts) = size_of t + size_of_all ts

-- ---- how the logic stores trees

-- how the logic stores a move
abbrev pub shift_code : Coded Shift
shift_code = code_by (ℤ × ℤ) (coded× coded_ℤ coded_ℤ) (λ v. (v.dx, v.dy)) (λ p. record { dx = p.0; dy = p.1 }) (λ _. refl)

module _ {A : Type 0} (c : Coded A) where
  -- the number of a tree's kind
  abbrev kind_of : Tree A → ℕ
  kind_of (leaf a) = 0
  kind_of (presentation l p ts) = 1
  kind_of (update h p ts) = 2

  abbrev mutual
    -- the term of a tree
    code : Tree A → Gv
    code (leaf a) = gcons (gnum 0) (c.code a)
    code (presentation l p ts) = gcons (gnum 1) (gcons (label_code.code l) (gcons (shift_code.code p) (code_all ts)))
    code (update h p ts) = gcons (gnum 2) (gcons (head_code.code h) (gcons (shift_code.code p) (code_all ts)))

    -- the term of a row of trees
    code_all : Trees A → Gv
    code_all none = gnil
    code_all (tree t ts) = gcons (code t) (code_all ts)

  mutual
    -- trees of one term are one tree
    pub code-inj : (x y : Tree A) → code x ≡ code y → x ≡ y
    code-inj (leaf a) (leaf b) e = ap leaf (c.inj a b (ap code_tail e))
    code-inj (presentation l p ts) (presentation m q us) e =
        let labels : l ≡ m = label_code.inj l m (ap (λ g. code_head (code_tail g)) e) in
        let places : p ≡ q = shift_code.inj p q (ap (λ g. code_head (code_tail (code_tail g))) e) in
        let inside : ts ≡ us = code_all-inj ts us (ap (λ g. code_tail (code_tail (code_tail g))) e) in
        λ i. presentation (labels i) (places i) (inside i)
    code-inj (update l p ts) (update m q us) e =
        let heads : l ≡ m = head_code.inj l m (ap (λ g. code_head (code_tail g)) e) in
        let places : p ≡ q = shift_code.inj p q (ap (λ g. code_head (code_tail (code_tail g))) e) in
        let inside : ts ≡ us = code_all-inj ts us (ap (λ g. code_tail (code_tail (code_tail g))) e) in
        λ i. update (heads i) (places i) (inside i)
    code-inj x y e = absurd (eqb-false (kind_of x) (kind_of y) refl (ap code_kind e))

    -- rows of one term are one row
    pub code_all-inj : (ts us : Trees A) → code_all ts ≡ code_all us → ts ≡ us
    code_all-inj none none e = refl
    code_all-inj (tree t ts) (tree u us) e =
        let first : t ≡ u = code-inj t u (ap code_head e) in
        let rest : ts ≡ us = code_all-inj ts us (ap code_tail e) in
        λ i. tree (first i) (rest i)
    code_all-inj none (tree u us) e = absurd (eqb-false 0 1 refl (ap has_parts e))
    code_all-inj (tree t ts) none e = absurd (eqb-false 1 0 refl (ap has_parts e))

  -- how the logic stores a tree
  abbrev pub tree_code : Coded (Tree A)
  tree_code = record { code = code; inj = code-inj }
