-- The paths that expressions are.
use Rattle.std.specs.Prelude.{List, [], ◌∷◌, ◌++◌, Option, Some, None}
use Rattle.cl_syntax.specs.ExprTree as expr
use Rattle.cl_syntax.specs.ExprTree.{ExprTree, ExprTrees, none, part}
use Rattle.cl_syntax.specs.Paths.{Along}
use Rattle.cl_syntax.specs.declared.operators.Operator.TheVariants as operator
use Rattle.cl_syntax.specs.declared.operators.RecordOperator.TheVariants as fields
use Rattle.cl_syntax.specs.declared.paths.Path.{Path}
use Rattle.cl_syntax.specs.declared.paths.Root.TheVariants as root

-- the path that an expression is of which these fields are taken: a variable, a slot or a field of a path. No other expression is one
abbrev pub path_along : Along → ExprTree → Option Path
path_along along (expr.Variable x) = Some (record { root = root.Variable x; fields = along })
path_along along (expr.Slot x) = Some (record { root = root.Slot x; fields = along })
path_along along (expr.Operation (operator.Record (fields.Get f)) (part t none)) = path_along (f ∷ along) t
path_along along t = None

-- the path, if it is there
abbrev pub one_or_none : Option Path → List Path
one_or_none None = []
one_or_none (Some p) = p ∷ []

-- the paths among expressions, in their order
abbrev pub paths_of : ExprTrees → List Path
paths_of none = []
paths_of (part t ts) = one_or_none (path_along [] t) ++ paths_of ts
