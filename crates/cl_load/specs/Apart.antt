-- That panes lie apart is a fact: it has one proof at most.
use Rattle.std.specs.Prelude.{List, [], ◌∷◌}
use Rattle.std.specs.Coded.{×_prop, Π_prop, Unit-prop}
use mathlib.Core.Bool.{Bool-set}
use Rattle.cl_application.specs.Panes.{LieApart}
use Rattle.cl_application.specs.declared.declarations.PaneDecl.{PaneDecl}

-- that panes lie apart holds in one way
pub LieApart-prop : (ps : List PaneDecl) → IsProp (LieApart ps)
LieApart-prop [] = Unit-prop
LieApart-prop (p ∷ ps) = ×_prop (Π_prop λ k. Π_prop λ d. Π_prop λ l. Bool-set _ _) (LieApart-prop ps)
