-- What a form presents.
use Rattle.std.specs.Prelude.{Bool, refl}
use Rattle.std.specs.Coded.{Coded, code_by, coded_bool, coded×}
use Rattle.cl_syntax.specs.ExprTree.{ExprTree}
use Rattle.cl_syntax.specs.ExprTreeCode.{coded_expr_tree}
use Rattle.cl_syntax.specs.TypeSpecTree.{TypeSpecTree}
use Rattle.cl_syntax.specs.TypeSpecTreeCode.{coded_type_spec_tree}

-- an object, the specifier of its type, and whether the presentation is sensitive all over its box
pub record PresentationTree : Type 0 where
  pub object : ExprTree
  pub spec : TypeSpecTree
  pub single_box : Bool

-- how the logic stores it
abbrev pub coded_presentation : Coded PresentationTree
coded_presentation =
    code_by (ExprTree × (TypeSpecTree × Bool)) (coded× coded_expr_tree (coded× coded_type_spec_tree coded_bool)) (λ p. (p.object, (p.spec, p.single_box)))
    (λ q. record { object = q.0; spec = q.1.0; single_box = q.1.1 }) (λ _. refl)
