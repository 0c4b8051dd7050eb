-- The paths that forms read as the expressions of a cache.
use Rattle.std.specs.Prelude.{ℕ, Bool, false, if◌then◌else◌, List, [], ◌∷◌, ◌++◌, map}
use Rattle.std.specs.List.{list_any}
use Rattle.cl_application.specs.declared.applications.App.{App}
use Rattle.cl_cover.specs.Walk.{reads_of}
use Rattle.cl_syntax.specs.ExprTree as expr
use Rattle.cl_syntax.specs.ExprTree.{ExprTree, ExprTrees, expr_trees_of, none, part}
use Rattle.cl_syntax.specs.Paths.{Along, is_prefix}
use Rattle.cl_syntax.specs.ShapeTree.{ShapeTrees}
use Rattle.cl_syntax.specs.declared.operators.Operator.TheVariants as operator
use Rattle.cl_syntax.specs.declared.operators.RecordOperator.TheVariants as fields
use Rattle.cl_syntax.specs.declared.paths.Path.{Path}
use Rattle.cl_syntax.specs.declared.paths.Root.{Root}
use Rattle.cl_syntax.specs.declared.paths.Root.TheVariants as root

-- ---- each path once

-- two paths are the same: each begins the other
abbrev pub is_same : Path → Path → Bool
is_same p q = if is_prefix p q then is_prefix q p else false

-- one of the paths is this one
abbrev pub is_among : Path → List Path → Bool
is_among p qs = list_any (λ q. is_same q p) qs

-- the path behind the others, where it is not among them
abbrev pub with_path : List Path → Path → List Path
with_path earlier p = if is_among p earlier then earlier else earlier ++ p ∷ []

-- paths behind others, each at its first place alone
abbrev pub once_behind : List Path → List Path → List Path
once_behind earlier [] = earlier
once_behind earlier (p ∷ ps) = once_behind (with_path earlier p) ps

-- ---- as expressions

-- a variable, or `(slot NAME)`
abbrev pub root_expression : Root → ExprTree
root_expression (root.Variable x) = expr.Variable x
root_expression (root.Slot x) = expr.Slot x

-- `(get E FIELD)`
abbrev pub field_taken : ExprTree → List ℕ → ExprTree
field_taken t f = expr.Operation (operator.Record (fields.Get f)) (part t none)

-- fields of an expression in turn
abbrev pub fields_taken : ExprTree → Along → ExprTree
fields_taken t [] = t
fields_taken t (f ∷ along) = fields_taken (field_taken t f) along

-- a path as an expression
abbrev pub path_expression : Path → ExprTree
path_expression p = fields_taken (root_expression p.root) p.fields

-- the paths that forms read, each at its first place alone
abbrev pub paths_once : App → ShapeTrees → List Path
paths_once app fs = once_behind [] (reads_of app fs)

-- the cache of an update with this body
abbrev pub cache_of : App → ShapeTrees → ExprTrees
cache_of app body = expr_trees_of (map path_expression (paths_once app body))
