-- The tree of the forms of a text, each with its offset.
use Rattle.std.specs.Prelude.{◌≡◌, ℕ, ◌+◌, ℤ, List, [], ◌∷◌, ◌++◌, refl}
use Rattle.std.specs.Coded.{Coded, coded_ℕ, coded_ℤ, coded_list}
use Rattle.std.proofs.Common.{ap}
use Rattle.std.proofs.lemmas.Bool.{eqb-false}
use base.Stored.{Gv, gnil, gnum, gcons}

mutual
  -- a number, a literal, a name or a form, with its offset
  pub data Tree : Type 0 where
    number : ℤ → ℕ → Tree
    literal : List ℕ → ℕ → Tree
    name : List ℕ → ℕ → Tree
    form : Trees → ℕ → Tree

  -- trees, one after another
  pub data Trees : Type 0 where
    none : Trees
    item : Tree → Trees → Trees

-- a list of trees as a form holds it
abbrev pub trees_of : List Tree → Trees
trees_of [] = none
trees_of (t ∷ ts) = item t (trees_of ts)

-- how many atoms and forms there are
abbrev mutual
  pub weight : Tree → ℕ
  weight (number z at) = 1
  weight (literal s at) = 1
  weight (name s at) = 1
  weight (form ts at) = 1 + weights ts

  -- how many atoms and forms there are in trees in a row
  pub weights : Trees → ℕ
  weights none = 0
  weights (item t ts) = weight t + weights ts

-- ---- spelling

-- a token with its content and its offset
pub data Lexeme : Type 0 where
  open_at : ℕ → Lexeme
  close : Lexeme
  number_at : ℤ → ℕ → Lexeme
  literal_at : List ℕ → ℕ → Lexeme
  name_at : List ℕ → ℕ → Lexeme

-- a form as it is written
abbrev mutual
  pub spelled : Tree → List Lexeme
  spelled (number z at) = number_at z at ∷ []
  spelled (literal s at) = literal_at s at ∷ []
  spelled (name s at) = name_at s at ∷ []
  spelled (form ts at) = open_at at ∷ (spelled_all ts ++ close ∷ [])

  -- forms in a row as they are written
  pub spelled_all : Trees → List Lexeme
  spelled_all none = []
  spelled_all (item t ts) = spelled t ++ spelled_all ts

-- ---- how the logic stores a tree

-- the term of a row of bytes
abbrev pub bytes_code : List ℕ → Gv
bytes_code s = (coded_list coded_ℕ).code s

abbrev mutual
  -- the term of a tree
  pub code : Tree → Gv
  code (number z at) = gcons (gnum 0) (gcons (coded_ℤ.code z) (gnum at))
  code (literal s at) = gcons (gnum 1) (gcons (bytes_code s) (gnum at))
  code (name s at) = gcons (gnum 2) (gcons (bytes_code s) (gnum at))
  code (form ts at) = gcons (gnum 3) (gcons (codes_of ts) (gnum at))

  -- the term of trees in a row
  pub codes_of : Trees → Gv
  codes_of none = gnil
  codes_of (item t ts) = gcons (code t) (codes_of ts)

-- the first part of a term
abbrev pub code_head : Gv → Gv
code_head gnil = gnil
code_head (gnum n) = gnil
code_head (gcons a b) = a

-- what is behind the first part of a term
abbrev pub code_tail : Gv → Gv
code_tail gnil = gnil
code_tail (gnum n) = gnil
code_tail (gcons a b) = b

-- the number that a term is, or 0
abbrev pub code_number : Gv → ℕ
code_number gnil = 0
code_number (gnum n) = n
code_number (gcons a b) = 0

-- 1 for a term of two parts, or 0
abbrev pub has_parts : Gv → ℕ
has_parts gnil = 0
has_parts (gnum n) = 0
has_parts (gcons a b) = 1

-- the number of a kind
abbrev pub kind_of : Tree → ℕ
kind_of (number z at) = 0
kind_of (literal s at) = 1
kind_of (name s at) = 2
kind_of (form ts at) = 3

mutual
  -- trees of one term are one tree
  pub code-inj : (x y : Tree) → code x ≡ code y → x ≡ y
  code-inj (number z m) (number w n) p =
      let first : z ≡ w = coded_ℤ.inj z w (ap (λ g. code_head (code_tail g)) p) in
      let at : m ≡ n = ap (λ g. code_number (code_tail (code_tail g))) p in
      λ i. number (first i) (at i)
  code-inj (literal s m) (literal t n) p =
      let first : s ≡ t = (coded_list coded_ℕ).inj s t (ap (λ g. code_head (code_tail g)) p) in
      let at : m ≡ n = ap (λ g. code_number (code_tail (code_tail g))) p in
      λ i. literal (first i) (at i)
  code-inj (name s m) (name t n) p =
      let first : s ≡ t = (coded_list coded_ℕ).inj s t (ap (λ g. code_head (code_tail g)) p) in
      let at : m ≡ n = ap (λ g. code_number (code_tail (code_tail g))) p in
      λ i. name (first i) (at i)
  code-inj (form ts m) (form us n) p =
      let first : ts ≡ us = codes_of-inj ts us (ap (λ g. code_head (code_tail g)) p) in
      let at : m ≡ n = ap (λ g. code_number (code_tail (code_tail g))) p in
      λ i. form (first i) (at i)
  code-inj x y p = absurd (eqb-false (kind_of x) (kind_of y) refl (ap (λ g. code_number (code_head g)) p))

  -- rows of one term are one row
  pub codes_of-inj : (ts us : Trees) → codes_of ts ≡ codes_of us → ts ≡ us
  codes_of-inj none none p = refl
  codes_of-inj (item t ts) (item u us) p =
      let first : t ≡ u = code-inj t u (ap code_head p) in
      let rest : ts ≡ us = codes_of-inj ts us (ap code_tail p) in
      λ i. item (first i) (rest i)
  codes_of-inj none (item u us) p = absurd (eqb-false 0 1 refl (ap has_parts p))
  codes_of-inj (item t ts) none p = absurd (eqb-false 1 0 refl (ap has_parts p))

-- how the logic stores a tree
abbrev pub tree_code : Coded Tree
tree_code = record { code = code; inj = code-inj }
