-- How the logic stores a display form.
use Rattle.std.proofs.Common.{◌≡◌, ℕ, refl, ap}
use Rattle.std.proofs.lemmas.Bool.{eqb-false}
use Rattle.std.specs.Coded.{Coded}
use base.Stored.{Gv, gnil, gnum, gcons}
use Rattle.cl_syntax.specs.contracts.figures.Figure as figure_code
use Rattle.cl_syntax.specs.Code.{head, tail, tag, has_parts, name_code, name_code-inj}
use Rattle.cl_syntax.specs.ExprTreeCode.{coded_expr_tree, coded_expr_trees, coded_bindings}
use Rattle.cl_syntax.specs.ShapeTree.{ShapeTree, WriteText, Newline, Draw, Indent, Ink, Room, Present, AsPresentation, Update, If, When}
use Rattle.cl_syntax.specs.ShapeTree.{Let, Dolist, Progn, Call, ShapeTrees, none, form}
use Rattle.cl_syntax.specs.PresentationTree.{coded_presentation}
use Rattle.cl_syntax.specs.TypeSpecTreeCode.{coded_type_spec_tree}
use Rattle.cl_syntax.specs.UpdateTree.{coded_update}

-- the place of a row in its table
abbrev pub row : ShapeTree → ℕ
row (WriteText t) = 0
row Newline = 1
row (Draw figure ts) = 2
row (Indent t fs) = 3
row (Ink t fs) = 4
row (Room fs) = 5
row (Present t spec) = 6
row (AsPresentation p fs) = 7
row (Update u fs) = 8
row (If t e f) = 9
row (When t fs) = 10
row (Let bs fs) = 11
row (Dolist x t fs) = 12
row (Progn fs) = 13
row (Call d ts) = 14

abbrev mutual
  -- the term of a display form
  pub code : ShapeTree → Gv
  code (WriteText t) = gcons (gnum 0) (coded_expr_tree.code t)
  code Newline = gcons (gnum 1) gnil
  code (Draw figure ts) = gcons (gnum 2) (gcons (figure_code.the_row.coded.code figure) (coded_expr_trees.code ts))
  code (Indent t fs) = gcons (gnum 3) (gcons (coded_expr_tree.code t) (code_all fs))
  code (Ink t fs) = gcons (gnum 4) (gcons (coded_expr_tree.code t) (code_all fs))
  code (Room fs) = gcons (gnum 5) (code_all fs)
  code (Present t spec) = gcons (gnum 6) (gcons (coded_expr_tree.code t) (coded_type_spec_tree.code spec))
  code (AsPresentation p fs) = gcons (gnum 7) (gcons (coded_presentation.code p) (code_all fs))
  code (Update u fs) = gcons (gnum 8) (gcons (coded_update.code u) (code_all fs))
  code (If t e f) = gcons (gnum 9) (gcons (coded_expr_tree.code t) (gcons (code e) (code f)))
  code (When t fs) = gcons (gnum 10) (gcons (coded_expr_tree.code t) (code_all fs))
  code (Let bs fs) = gcons (gnum 11) (gcons (coded_bindings.code bs) (code_all fs))
  code (Dolist x t fs) = gcons (gnum 12) (gcons (name_code x) (gcons (coded_expr_tree.code t) (code_all fs)))
  code (Progn fs) = gcons (gnum 13) (code_all fs)
  code (Call d ts) = gcons (gnum 14) (gcons (name_code d) (coded_expr_trees.code ts))

  -- the term of a row of display forms
  pub code_all : ShapeTrees → Gv
  code_all none = gnil
  code_all (form f fs) = gcons (code f) (code_all fs)

mutual
  -- display forms of one term are one form
  pub code-inj : (x y : ShapeTree) → code x ≡ code y → x ≡ y
  code-inj (WriteText t) (WriteText t') p = ap WriteText (coded_expr_tree.inj t t' (ap tail p))
  code-inj Newline Newline p = refl
  code-inj (Draw figure ts) (Draw figure' ts') p =
      let pf : figure ≡ figure' = figure_code.the_row.coded.inj figure figure' (ap (λ g. head (tail g)) p) in
      let pts : ts ≡ ts' = coded_expr_trees.inj ts ts' (ap (λ g. tail (tail g)) p) in
      λ i. Draw (pf i) (pts i)
  code-inj (Indent t fs) (Indent t' fs') p =
      let pt : t ≡ t' = coded_expr_tree.inj t t' (ap (λ g. head (tail g)) p) in
      let pfs : fs ≡ fs' = code_all-inj fs fs' (ap (λ g. tail (tail g)) p) in
      λ i. Indent (pt i) (pfs i)
  code-inj (Ink t fs) (Ink t' fs') p =
      let pt : t ≡ t' = coded_expr_tree.inj t t' (ap (λ g. head (tail g)) p) in
      let pfs : fs ≡ fs' = code_all-inj fs fs' (ap (λ g. tail (tail g)) p) in
      λ i. Ink (pt i) (pfs i)
  code-inj (Room fs) (Room fs') p = ap Room (code_all-inj fs fs' (ap tail p))
  code-inj (Present t spec) (Present t' spec') p =
      let pt : t ≡ t' = coded_expr_tree.inj t t' (ap (λ g. head (tail g)) p) in
      let ps : spec ≡ spec' = coded_type_spec_tree.inj spec spec' (ap (λ g. tail (tail g)) p) in
      λ i. Present (pt i) (ps i)
  code-inj (AsPresentation q fs) (AsPresentation q' fs') p =
      let pq : q ≡ q' = coded_presentation.inj q q' (ap (λ g. head (tail g)) p) in
      let pfs : fs ≡ fs' = code_all-inj fs fs' (ap (λ g. tail (tail g)) p) in
      λ i. AsPresentation (pq i) (pfs i)
  code-inj (Update u fs) (Update u' fs') p =
      let pu : u ≡ u' = coded_update.inj u u' (ap (λ g. head (tail g)) p) in
      let pfs : fs ≡ fs' = code_all-inj fs fs' (ap (λ g. tail (tail g)) p) in
      λ i. Update (pu i) (pfs i)
  code-inj (If t e f) (If t' e' f') p =
      let pt : t ≡ t' = coded_expr_tree.inj t t' (ap (λ g. head (tail g)) p) in
      let pe : e ≡ e' = code-inj e e' (ap (λ g. head (tail (tail g))) p) in
      let pf : f ≡ f' = code-inj f f' (ap (λ g. tail (tail (tail g))) p) in
      λ i. If (pt i) (pe i) (pf i)
  code-inj (When t fs) (When t' fs') p =
      let pt : t ≡ t' = coded_expr_tree.inj t t' (ap (λ g. head (tail g)) p) in
      let pfs : fs ≡ fs' = code_all-inj fs fs' (ap (λ g. tail (tail g)) p) in
      λ i. When (pt i) (pfs i)
  code-inj (Let bs fs) (Let bs' fs') p =
      let pbs : bs ≡ bs' = coded_bindings.inj bs bs' (ap (λ g. head (tail g)) p) in
      let pfs : fs ≡ fs' = code_all-inj fs fs' (ap (λ g. tail (tail g)) p) in
      λ i. Let (pbs i) (pfs i)
  code-inj (Dolist x t fs) (Dolist x' t' fs') p =
      let px : x ≡ x' = name_code-inj x x' (ap (λ g. head (tail g)) p) in
      let pt : t ≡ t' = coded_expr_tree.inj t t' (ap (λ g. head (tail (tail g))) p) in
      let pfs : fs ≡ fs' = code_all-inj fs fs' (ap (λ g. tail (tail (tail g))) p) in
      λ i. Dolist (px i) (pt i) (pfs i)
  code-inj (Progn fs) (Progn fs') p = ap Progn (code_all-inj fs fs' (ap tail p))
  code-inj (Call d ts) (Call d' ts') p =
      let pd : d ≡ d' = name_code-inj d d' (ap (λ g. head (tail g)) p) in
      let pts : ts ≡ ts' = coded_expr_trees.inj ts ts' (ap (λ g. tail (tail g)) p) in
      λ i. Call (pd i) (pts i)
  code-inj x y p = absurd (eqb-false (row x) (row y) refl (ap tag p))

  -- rows of one term are one row
  pub code_all-inj : (xs ys : ShapeTrees) → code_all xs ≡ code_all ys → xs ≡ ys
  code_all-inj none none p = refl
  code_all-inj (form x xs) (form y ys) p =
      let first : x ≡ y = code-inj x y (ap head p) in
      let rest : xs ≡ ys = code_all-inj xs ys (ap tail p) in
      λ i. form (first i) (rest i)
  code_all-inj none (form y ys) p = absurd (eqb-false 0 1 refl (ap has_parts p))
  code_all-inj (form x xs) none p = absurd (eqb-false 1 0 refl (ap has_parts p))

-- how the logic stores a display form
abbrev pub coded_shape_tree : Coded ShapeTree
coded_shape_tree = record { code = code; inj = code-inj }
