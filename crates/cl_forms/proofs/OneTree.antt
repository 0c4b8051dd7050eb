-- There is one tree for what is written.
use Rattle.std.proofs.Common.{◌≡◌, ℕ, List, [], ◌∷◌, ◌++◌, append-nil, refl, sym, ap, ◌∙◌, arith}
use Rattle.std.proofs.lemmas.List.{append_assoc}
use Rattle.std.specs.Prelude.{⊤}
use Rattle.cl_forms.specs.Tree.{Tree, Trees, number, literal, name, form, none, item, spelled, spelled_all, Lexeme, open_at, close, number_at, literal_at, name_at}

-- nothing, or a `)` first
abbrev Ends : List Lexeme → Type 0
Ends [] = ⊤
Ends (l ∷ ls) = l ≡ close

abbrev is_open : List Lexeme → ℕ
is_open [] = 0
is_open (open_at at ∷ ls) = 1
is_open (close ∷ ls) = 0
is_open (number_at z at ∷ ls) = 1
is_open (literal_at s at ∷ ls) = 1
is_open (name_at s at ∷ ls) = 1

-- what ends is no form
ends_open : (ls : List Lexeme) → Ends ls → is_open ls ≡ 0
ends_open [] e = refl
ends_open (l ∷ ls) e = ap (λ x. is_open (x ∷ ls)) e

tree_open : (t : Tree) (ls : List Lexeme) → is_open (spelled t ++ ls) ≡ 1
tree_open (number z at) ls = refl
tree_open (literal s at) ls = refl
tree_open (name s at) ls = refl
tree_open (form ts at) ls = refl

apart : (t : Tree) (ls x : List Lexeme) → Ends x → x ≡ spelled t ++ ls → ⊥
apart t ls x e p = let f : ◌≡◌ {A = ℕ} 0 1 = sym (ends_open x e) ∙ ap is_open p ∙ tree_open t ls in omega (arith, f)

mutual
  one_tree : (s t : Tree) (x y : List Lexeme) → spelled s ++ x ≡ spelled t ++ y → (s ≡ t) × (x ≡ y)
  one_tree (number z m) (number w n) x y p = (cc, cc)
  one_tree (literal s m) (literal t n) x y p = (cc, cc)
  one_tree (name s m) (name t n) x y p = (cc, cc)
  one_tree (form ts m) (form us n) x y p =
      let at : m ≡ n = cc in
      let parts : spelled_all ts ++ close ∷ [] ++ x ≡ spelled_all us ++ close ∷ [] ++ y = cc in
      let both : (ts ≡ us) × ((close ∷ x) ≡ (close ∷ y)) =
      one_trees ts us (close ∷ x) (close ∷ y) refl refl (sym (append_assoc (spelled_all ts) (close ∷ []) x) ∙ parts ∙ append_assoc (spelled_all us) (close ∷ []) y) in
      let same : ts ≡ us = both.0 in
      let rest : (close ∷ x) ≡ (close ∷ y) = both.1 in
      (λ i. form (same i) (at i), cc)
  one_tree s t x y p = (cc, cc)

  one_trees : (a b : Trees) (x y : List Lexeme) → Ends x → Ends y → spelled_all a ++ x ≡ spelled_all b ++ y → (a ≡ b) × (x ≡ y)
  one_trees none none x y e f p = (refl, p)
  one_trees none (item u us) x y e f p = absurd (apart u (spelled_all us ++ y) x e (p ∙ append_assoc (spelled u) (spelled_all us) y))
  one_trees (item t ts) none x y e f p = absurd (apart t (spelled_all ts ++ x) y f (sym p ∙ append_assoc (spelled t) (spelled_all ts) x))
  one_trees (item t ts) (item u us) x y e f p =
      let first : (t ≡ u) × (spelled_all ts ++ x ≡ spelled_all us ++ y) =
      one_tree t u (spelled_all ts ++ x) (spelled_all us ++ y) (sym (append_assoc (spelled t) (spelled_all ts) x) ∙ p ∙ append_assoc (spelled u) (spelled_all us) y) in
      let others : (ts ≡ us) × (x ≡ y) = one_trees ts us x y e f first.1 in
      (λ i. item (first.0 i) (others.0 i), others.1)

pub one_forest : (a b : Trees) → spelled_all a ≡ spelled_all b → a ≡ b
one_forest a b p = (one_trees a b [] [] tt tt (append-nil (spelled_all a) ∙ p ∙ sym (append-nil (spelled_all b)))).0
