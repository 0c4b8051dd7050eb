-- How the logic stores a statement.
use Rattle.std.proofs.Common.{◌≡◌, ℕ, refl, ap}
use Rattle.std.proofs.lemmas.Bool.{eqb-false}
use Rattle.std.specs.Coded.{Coded, coded_bool}
use base.Stored.{Gv, gnil, gnum, gcons}
use Rattle.cl_syntax.specs.Code.{head, tail, tag, has_parts, name_code, name_code-inj}
use Rattle.cl_syntax.specs.ExprTreeCode.{coded_expr_tree, coded_bindings}
use Rattle.cl_syntax.specs.ActTree.{ActTree, Setf, Reply, Switch, OpenDialog, If, When, Let, Dolist, Progn, ActTrees, none, statement}

-- the place of a row in its table
abbrev pub row : ActTree → ℕ
row (Setf x t) = 0
row (Reply t) = 1
row (If t r s) = 2
row (When t ss) = 3
row (Let bs ss) = 4
row (Dolist x t ss) = 5
row (Progn ss) = 6
row (Switch x on) = 7
row (OpenDialog x) = 8

abbrev mutual
  -- the term of a statement
  pub code : ActTree → Gv
  code (Setf x t) = gcons (gnum 0) (gcons (name_code x) (coded_expr_tree.code t))
  code (Reply t) = gcons (gnum 1) (coded_expr_tree.code t)
  code (If t r s) = gcons (gnum 2) (gcons (coded_expr_tree.code t) (gcons (code r) (code s)))
  code (When t ss) = gcons (gnum 3) (gcons (coded_expr_tree.code t) (code_all ss))
  code (Let bs ss) = gcons (gnum 4) (gcons (coded_bindings.code bs) (code_all ss))
  code (Dolist x t ss) = gcons (gnum 5) (gcons (name_code x) (gcons (coded_expr_tree.code t) (code_all ss)))
  code (Progn ss) = gcons (gnum 6) (code_all ss)
  code (Switch x on) = gcons (gnum 7) (gcons (name_code x) (coded_bool.code on))
  code (OpenDialog x) = gcons (gnum 8) (name_code x)

  -- the term of a row of statements
  pub code_all : ActTrees → Gv
  code_all none = gnil
  code_all (statement s ss) = gcons (code s) (code_all ss)

mutual
  -- statements of one term are one statement
  pub code-inj : (x y : ActTree) → code x ≡ code y → x ≡ y
  code-inj (Setf x t) (Setf x' t') p =
      let px : x ≡ x' = name_code-inj x x' (ap (λ g. head (tail g)) p) in
      let pt : t ≡ t' = coded_expr_tree.inj t t' (ap (λ g. tail (tail g)) p) in
      λ i. Setf (px i) (pt i)
  code-inj (Reply t) (Reply t') p = ap Reply (coded_expr_tree.inj t t' (ap tail p))
  code-inj (If t r s) (If t' r' s') p =
      let pt : t ≡ t' = coded_expr_tree.inj t t' (ap (λ g. head (tail g)) p) in
      let pr : r ≡ r' = code-inj r r' (ap (λ g. head (tail (tail g))) p) in
      let ps : s ≡ s' = code-inj s s' (ap (λ g. tail (tail (tail g))) p) in
      λ i. If (pt i) (pr i) (ps i)
  code-inj (When t ss) (When t' ss') p =
      let pt : t ≡ t' = coded_expr_tree.inj t t' (ap (λ g. head (tail g)) p) in
      let pss : ss ≡ ss' = code_all-inj ss ss' (ap (λ g. tail (tail g)) p) in
      λ i. When (pt i) (pss i)
  code-inj (Let bs ss) (Let bs' ss') p =
      let pbs : bs ≡ bs' = coded_bindings.inj bs bs' (ap (λ g. head (tail g)) p) in
      let pss : ss ≡ ss' = code_all-inj ss ss' (ap (λ g. tail (tail g)) p) in
      λ i. Let (pbs i) (pss i)
  code-inj (Dolist x t ss) (Dolist x' t' ss') p =
      let px : x ≡ x' = name_code-inj x x' (ap (λ g. head (tail g)) p) in
      let pt : t ≡ t' = coded_expr_tree.inj t t' (ap (λ g. head (tail (tail g))) p) in
      let pss : ss ≡ ss' = code_all-inj ss ss' (ap (λ g. tail (tail (tail g))) p) in
      λ i. Dolist (px i) (pt i) (pss i)
  code-inj (Progn ss) (Progn ss') p = ap Progn (code_all-inj ss ss' (ap tail p))
  code-inj (Switch x on) (Switch x' on') p =
      let px : x ≡ x' = name_code-inj x x' (ap (λ g. head (tail g)) p) in
      let pon : on ≡ on' = coded_bool.inj on on' (ap (λ g. tail (tail g)) p) in
      λ i. Switch (px i) (pon i)
  code-inj (OpenDialog x) (OpenDialog x') p = ap OpenDialog (name_code-inj x x' (ap tail p))
  code-inj x y p = absurd (eqb-false (row x) (row y) refl (ap tag p))

  -- rows of one term are one row
  pub code_all-inj : (xs ys : ActTrees) → code_all xs ≡ code_all ys → xs ≡ ys
  code_all-inj none none p = refl
  code_all-inj (statement x xs) (statement y ys) p =
      let first : x ≡ y = code-inj x y (ap head p) in
      let rest : xs ≡ ys = code_all-inj xs ys (ap tail p) in
      λ i. statement (first i) (rest i)
  code_all-inj none (statement y ys) p = absurd (eqb-false 0 1 refl (ap has_parts p))
  code_all-inj (statement x xs) none p = absurd (eqb-false 1 0 refl (ap has_parts p))

-- how the logic stores a statement
abbrev pub coded_act_tree : Coded ActTree
coded_act_tree = record { code = code; inj = code-inj }
