-- What a text reads and calls, in its order. A call stands behind the parts that are its arguments.
use Rattle.std.specs.Prelude.{if◌then◌else◌, List, [], ◌∷◌, ◌++◌, Option, Some, None}
use Rattle.cl_syntax.specs.ExprTree as expr
use Rattle.cl_syntax.specs.ExprTree.{ExprTree, ExprTrees, Bindings, none, part, unbound, binding}
use Rattle.cl_syntax.specs.ShapeTree as shape
use Rattle.cl_syntax.specs.ShapeTree.{ShapeTree, ShapeTrees, shape_trees_of}
use Rattle.cl_syntax.specs.TypeSpecTree as type_spec
use Rattle.cl_syntax.specs.TypeSpecTree.{TypeSpecTree, specifier, TypeArgTree, Constant, Any, Param, Spec, Names, TypeArgTrees, argument}
use Rattle.cl_syntax.specs.declared.type_decls.TypeDecl.{TypeDecl}
use Rattle.cl_table.specs.Names.{named}
use Rattle.cl_application.specs.App.{function_named, display_named, present_method}
use Rattle.cl_application.specs.declared.applications.App.{App}
use Rattle.cl_application.specs.declared.declarations.FunctionDecl.{FunctionDecl}
use Rattle.cl_application.specs.declared.declarations.DisplayDecl.{DisplayDecl}
use Rattle.cl_application.specs.declared.declarations.MethodDecl.{MethodDecl}
use Rattle.cl_syntax.specs.Paths.{Along}
use Rattle.cl_eval.specs.ReadPaths.{operand_fields}
use Rattle.cl_cover.specs.Sights.{behind, behind_all, is_hidden, slots}
use Rattle.cl_syntax.specs.declared.callees.Callee.{Callee}
use Rattle.cl_syntax.specs.declared.callees.Callee.TheVariants as callee
use Rattle.cl_syntax.specs.declared.paths.Root.TheVariants as root
use Rattle.cl_cover.specs.declared.sights.Sight.{Sight}
use Rattle.cl_cover.specs.declared.steps.Step.{Step}
use Rattle.cl_cover.specs.declared.steps.Step.TheVariants as step

-- the steps of an expression of which these fields are taken
abbrev mutual
  pub steps : Sight → Along → ExprTree → List Step
  steps sight along (expr.Constant d) = []
  steps sight along (expr.Variable x) = if is_hidden sight x then [] else step.Reads (record { root = root.Variable x; fields = along }) ∷ []
  steps sight along (expr.Slot x) = step.Reads (record { root = root.Slot x; fields = along }) ∷ []
  steps sight along (expr.If t u v) = steps sight [] t ++ (steps sight [] u ++ steps sight [] v)
  steps sight along (expr.Let bs t) = steps_bound sight bs ++ steps (behind_all bs sight) [] t
  steps sight along (expr.And ts) = steps_among sight [] ts
  steps sight along (expr.Or ts) = steps_among sight [] ts
  steps sight along (expr.Map x t body) = steps sight [] t ++ steps (behind x sight) [] body
  steps sight along (expr.Filter x t body) = steps sight [] t ++ steps (behind x sight) [] body
  steps sight along (expr.Fold x t accumulator opening body) =
      steps sight [] t ++ (steps sight [] opening ++ steps (behind accumulator (behind x sight)) [] body)
  steps sight along (expr.Operation o ts) = steps_among sight (operand_fields o ts along) ts
  steps sight along (expr.Call f ts) = steps_among sight [] ts ++ step.Calls (callee.Function f) ∷ []

  -- those of parts
  pub steps_among : Sight → Along → ExprTrees → List Step
  steps_among sight along none = []
  steps_among sight along (part t ts) = steps sight along t ++ steps_among sight along ts

  -- those of the values of bindings
  pub steps_bound : Sight → Bindings → List Step
  steps_bound sight unbound = []
  steps_bound sight (binding x t bs) = steps sight [] t ++ steps_bound (behind x sight) bs

-- a call for the present method of a specifier's type, those of its arguments, and one for what the type inherits from
abbrev mutual
  pub steps_spec : TypeSpecTree → List Step
  steps_spec (specifier x ts o) = step.Calls (callee.PresentMethod x) ∷ (steps_args ts ++ step.Calls (callee.Inherited x) ∷ [])

  -- the steps of the arguments of a specifier
  pub steps_args : TypeArgTrees → List Step
  steps_args type_spec.none = []
  steps_args (argument a ts) = steps_arg a ++ steps_args ts

  -- those of an argument, where it is a specifier
  pub steps_arg : TypeArgTree → List Step
  steps_arg (Constant d) = []
  steps_arg Any = []
  steps_arg (Param x) = []
  steps_arg (Spec s) = steps_spec s
  steps_arg (Names xs) = []

-- the steps of the expression of an id, if it is there
abbrev pub steps_id : Sight → Option ExprTree → List Step
steps_id sight None = []
steps_id sight (Some t) = steps sight [] t

-- those of the paths of a cache, if it is there
abbrev pub steps_cache : Sight → Option ExprTrees → List Step
steps_cache sight None = []
steps_cache sight (Some ts) = steps_among sight [] ts

-- the steps of a display form
abbrev mutual
  pub steps_form : Sight → ShapeTree → List Step
  steps_form sight (shape.WriteText t) = steps sight [] t
  steps_form sight shape.Newline = []
  steps_form sight (shape.Draw figure ts) = steps_among sight [] ts
  steps_form sight (shape.Indent t fs) = steps sight [] t ++ steps_forms sight fs
  steps_form sight (shape.Ink t fs) = steps sight [] t ++ steps_forms sight fs
  steps_form sight (shape.Room fs) = steps_forms sight fs
  steps_form sight (shape.Present t spec) = steps sight [] t ++ steps_spec spec
  steps_form sight (shape.AsPresentation q fs) = steps sight [] q.object ++ steps_forms sight fs
  steps_form sight (shape.Update u fs) = steps_id sight u.id ++ (steps_cache sight u.cache ++ steps_forms sight fs)
  steps_form sight (shape.If t f g) = steps sight [] t ++ (steps_form sight f ++ steps_form sight g)
  steps_form sight (shape.When t fs) = steps sight [] t ++ steps_forms sight fs
  steps_form sight (shape.Let bs fs) = steps_bound sight bs ++ steps_forms (behind_all bs sight) fs
  steps_form sight (shape.Dolist x t fs) = steps sight [] t ++ steps_forms (behind x sight) fs
  steps_form sight (shape.Progn fs) = steps_forms sight fs
  steps_form sight (shape.Call d ts) = steps_among sight [] ts ++ step.Calls (callee.Display d) ∷ []

  -- those of forms in a row
  pub steps_forms : Sight → ShapeTrees → List Step
  steps_forms sight shape.none = []
  steps_forms sight (shape.form f fs) = steps_form sight f ++ steps_forms sight fs

-- the steps of a function's body
abbrev pub function_steps : Option FunctionDecl → Option (List Step)
function_steps None = None
function_steps (Some d) = Some (steps slots [] d.body)

-- the steps of a display's body
abbrev pub display_steps : Option DisplayDecl → Option (List Step)
display_steps None = None
display_steps (Some d) = Some (steps_forms slots (shape_trees_of d.body))

-- the steps of a type's present method
abbrev pub method_steps : Option MethodDecl → Option (List Step)
method_steps None = None
method_steps (Some m) = Some (steps slots [] m.body)

-- the steps of what a user type inherits from
abbrev pub inherited_steps : Option TypeDecl → Option (List Step)
inherited_steps None = None
inherited_steps (Some d) = Some (steps_spec d.inherit_from)

-- the steps of what is called; None where it is not declared
abbrev pub body_steps : App → Callee → Option (List Step)
body_steps app (callee.Function f) = function_steps (function_named f app)
body_steps app (callee.Display d) = display_steps (display_named d app)
body_steps app (callee.PresentMethod x) = method_steps (present_method x app)
body_steps app (callee.Inherited x) = inherited_steps (named x app.types)
