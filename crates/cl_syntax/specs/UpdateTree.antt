-- What tells an update from others.
use Rattle.std.specs.Prelude.{ℕ, Option, refl}
use Rattle.std.specs.Coded.{Coded, code_by, coded_option, coded_ℕ, coded×}
use Rattle.cl_syntax.specs.ExprTree.{ExprTree, ExprTrees}
use Rattle.cl_syntax.specs.ExprTreeCode.{coded_expr_tree, coded_expr_trees}
use Rattle.cl_syntax.specs.declared.sites.Site.{Site}

-- the place of the form, the expression of its id, and the paths of its cache, if they are there
pub record UpdateTree : Type 0 where
  pub site : Site
  pub id : Option ExprTree
  pub cache : Option ExprTrees

-- ---- how the logic stores them

-- how the logic stores a site
abbrev pub site_code : Coded Site
site_code = code_by (ℕ × ℕ) (coded× coded_ℕ coded_ℕ) (λ s. (s.form, s.query)) (λ p. record { form = p.0; query = p.1 }) (λ _. refl)

-- how the logic stores an update
abbrev pub coded_update : Coded UpdateTree
coded_update =
    code_by (Site × (Option ExprTree × Option ExprTrees)) (coded× site_code (coded× (coded_option coded_expr_tree) (coded_option coded_expr_trees)))
    (λ u. (u.site, (u.id, u.cache))) (λ q. record { site = q.0; id = q.1.0; cache = q.1.1 }) (λ _. refl)
