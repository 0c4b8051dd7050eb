-- Which paths an expression, a display form and what they call read. Where a form binds a variable, its body's is another one. What is
-- called reads slots alone, since its parameters are all the variables that its body sees. What a branch reads counts whether or not
-- it is taken. A text that presents an object may be given by any present method that the specifier reaches; a form that presents an object
-- by its body calls none.
use Rattle.std.specs.Prelude.{◌≡◌, ℕ, zero, suc, false, ◌⊎◌, List, [], ◌∷◌, Option, Some, None}
use Rattle.cl_syntax.specs.ExprTree as expr
use Rattle.cl_syntax.specs.ExprTree.{ExprTree, ExprTrees, Bindings, none, part, unbound, binding}
use Rattle.cl_syntax.specs.ShapeTree as shape
use Rattle.cl_syntax.specs.ShapeTree.{ShapeTree, ShapeTrees, shape_trees_of}
use Rattle.cl_syntax.specs.TypeSpecTree as type_spec
use Rattle.cl_syntax.specs.TypeSpecTree.{TypeSpecTree, specifier, TypeArgTree, Constant, Any, Param, Spec, Names, TypeArgTrees, argument}
use Rattle.cl_syntax.specs.declared.type_decls.TypeDecl.{TypeDecl}
use Rattle.cl_syntax.specs.declared.operators.Operator.{Operator}
use Rattle.cl_syntax.specs.declared.operators.Operator.TheVariants as operator
use Rattle.cl_syntax.specs.declared.operators.RecordOperator.TheVariants as fields
use Rattle.cl_application.specs.App.{function_named, display_named, present_method}
use Rattle.cl_application.specs.declared.applications.App.{App}
use Rattle.cl_application.specs.declared.declarations.FunctionDecl.{FunctionDecl}
use Rattle.cl_application.specs.declared.declarations.DisplayDecl.{DisplayDecl}
use Rattle.cl_application.specs.declared.declarations.MethodDecl.{MethodDecl}
use Rattle.cl_table.specs.Names.{named}
use Rattle.cl_eval.specs.PathValues.{value_at}
use Rattle.cl_eval.specs.Slots.{Slots, Env, is_name}
use Rattle.cl_syntax.specs.Paths.{Along}
use Rattle.cl_syntax.specs.declared.callees.Callee.{Callee}
use Rattle.cl_syntax.specs.declared.callees.Callee.TheVariants as callee
use Rattle.cl_syntax.specs.declared.paths.Path.{Path}
use Rattle.cl_syntax.specs.declared.paths.Root.{Root}
use Rattle.cl_syntax.specs.declared.paths.Root.TheVariants as root

-- what the binding of a variable does not hide
abbrev pub Apart : List ℕ → Root → Type 0
Apart x (root.Variable y) = is_name x y ≡ false
Apart x (root.Slot y) = Unit {0}

-- what none of these bindings hides
abbrev pub ApartAll : Bindings → Root → Type 0
ApartAll unbound r = Unit {0}
ApartAll (binding x t bs) r = Apart x r × ApartAll bs r

-- the root is a slot
abbrev pub IsSlot : Root → Type 0
IsSlot (root.Variable x) = ⊥
IsSlot (root.Slot x) = Unit {0}

-- the fields that are taken of an operator's parts: its own and then those that are taken of it, where it takes a field of one part
abbrev pub operand_fields : Operator → ExprTrees → Along → Along
operand_fields (operator.Record (fields.Get f)) (part t none) along = f ∷ along
operand_fields o ts along = []

-- an expression of which these fields are taken reads a path, by what is read where it calls
abbrev mutual
  pub Reads : (Callee → Type 0) → Path → Along → ExprTree → Type 0
  Reads calls p along (expr.Constant d) = ⊥
  Reads calls p along (expr.Variable x) = p ≡ record { root = root.Variable x; fields = along }
  Reads calls p along (expr.Slot x) = p ≡ record { root = root.Slot x; fields = along }
  Reads calls p along (expr.If t u v) = Reads calls p [] t ⊎ (Reads calls p [] u ⊎ Reads calls p [] v)
  Reads calls p along (expr.Let bs t) = ReadsBound calls p bs ⊎ (ApartAll bs p.root × Reads calls p [] t)
  Reads calls p along (expr.And ts) = ReadsAmong calls p [] ts
  Reads calls p along (expr.Or ts) = ReadsAmong calls p [] ts
  Reads calls p along (expr.Map x t body) = Reads calls p [] t ⊎ (Apart x p.root × Reads calls p [] body)
  Reads calls p along (expr.Filter x t body) = Reads calls p [] t ⊎ (Apart x p.root × Reads calls p [] body)
  Reads calls p along (expr.Fold x t accumulator opening body) =
      Reads calls p [] t ⊎ (Reads calls p [] opening ⊎ (Apart x p.root × (Apart accumulator p.root × Reads calls p [] body)))
  Reads calls p along (expr.Operation o ts) = ReadsAmong calls p (operand_fields o ts along) ts
  Reads calls p along (expr.Call f ts) = ReadsAmong calls p [] ts ⊎ calls (callee.Function f)

  -- one of these does
  pub ReadsAmong : (Callee → Type 0) → Path → Along → ExprTrees → Type 0
  ReadsAmong calls p along none = ⊥
  ReadsAmong calls p along (part t ts) = Reads calls p along t ⊎ ReadsAmong calls p along ts

  -- one of the values of bindings does, each of which sees the bindings before it
  pub ReadsBound : (Callee → Type 0) → Path → Bindings → Type 0
  ReadsBound calls p unbound = ⊥
  ReadsBound calls p (binding x t bs) = Reads calls p [] t ⊎ (Apart x p.root × ReadsBound calls p bs)

-- the present methods that a specifier reaches do: that of its name, those of its parts, and those of what its type inherits from
abbrev mutual
  pub ReadsSpec : (Callee → Type 0) → TypeSpecTree → Type 0
  ReadsSpec calls (specifier x ts o) = calls (callee.PresentMethod x) ⊎ (ReadsArgs calls ts ⊎ calls (callee.Inherited x))

  -- an argument of a specifier does
  pub ReadsArgs : (Callee → Type 0) → TypeArgTrees → Type 0
  ReadsArgs calls type_spec.none = ⊥
  ReadsArgs calls (argument a ts) = ReadsArg calls a ⊎ ReadsArgs calls ts

  -- this argument of a specifier does
  pub ReadsArg : (Callee → Type 0) → TypeArgTree → Type 0
  ReadsArg calls (Constant d) = ⊥
  ReadsArg calls Any = ⊥
  ReadsArg calls (Param x) = ⊥
  ReadsArg calls (Spec s) = ReadsSpec calls s
  ReadsArg calls (Names xs) = ⊥

-- the expression of an id does, if it is there
abbrev pub ReadsId : (Callee → Type 0) → Path → Option ExprTree → Type 0
ReadsId calls p None = ⊥
ReadsId calls p (Some t) = Reads calls p [] t

-- one of the paths of a cache does, if it is there
abbrev pub ReadsCache : (Callee → Type 0) → Path → Option ExprTrees → Type 0
ReadsCache calls p None = ⊥
ReadsCache calls p (Some ts) = ReadsAmong calls p [] ts

-- a display form reads a path
abbrev mutual
  pub ReadsForm : (Callee → Type 0) → Path → ShapeTree → Type 0
  ReadsForm calls p (shape.WriteText t) = Reads calls p [] t
  ReadsForm calls p shape.Newline = ⊥
  ReadsForm calls p (shape.Draw figure ts) = ReadsAmong calls p [] ts
  ReadsForm calls p (shape.Indent t fs) = Reads calls p [] t ⊎ ReadsForms calls p fs
  ReadsForm calls p (shape.Ink t fs) = Reads calls p [] t ⊎ ReadsForms calls p fs
  ReadsForm calls p (shape.Room fs) = ReadsForms calls p fs
  ReadsForm calls p (shape.Present t spec) = Reads calls p [] t ⊎ ReadsSpec calls spec
  ReadsForm calls p (shape.AsPresentation q fs) = Reads calls p [] q.object ⊎ ReadsForms calls p fs
  ReadsForm calls p (shape.Update u fs) = ReadsId calls p u.id ⊎ (ReadsCache calls p u.cache ⊎ ReadsForms calls p fs)
  ReadsForm calls p (shape.If t f g) = Reads calls p [] t ⊎ (ReadsForm calls p f ⊎ ReadsForm calls p g)
  ReadsForm calls p (shape.When t fs) = Reads calls p [] t ⊎ ReadsForms calls p fs
  ReadsForm calls p (shape.Let bs fs) = ReadsBound calls p bs ⊎ (ApartAll bs p.root × ReadsForms calls p fs)
  ReadsForm calls p (shape.Dolist x t fs) = Reads calls p [] t ⊎ (Apart x p.root × ReadsForms calls p fs)
  ReadsForm calls p (shape.Progn fs) = ReadsForms calls p fs
  ReadsForm calls p (shape.Call d ts) = ReadsAmong calls p [] ts ⊎ calls (callee.Display d)

  -- one of these does
  pub ReadsForms : (Callee → Type 0) → Path → ShapeTrees → Type 0
  ReadsForms calls p shape.none = ⊥
  ReadsForms calls p (shape.form f fs) = ReadsForm calls p f ⊎ ReadsForms calls p fs

-- the body of a function reads a slot, or its fields
abbrev pub InFunction : (Callee → Type 0) → Path → Option FunctionDecl → Type 0
InFunction calls p None = ⊥
InFunction calls p (Some d) = IsSlot p.root × Reads calls p [] d.body

-- the body of a display reads a slot, or its fields
abbrev pub InDisplay : (Callee → Type 0) → Path → Option DisplayDecl → Type 0
InDisplay calls p None = ⊥
InDisplay calls p (Some d) = IsSlot p.root × ReadsForms calls p (shape_trees_of d.body)

-- the body of a type's present method reads a slot, or its fields
abbrev pub InMethod : (Callee → Type 0) → Path → Option MethodDecl → Type 0
InMethod calls p None = ⊥
InMethod calls p (Some m) = IsSlot p.root × Reads calls p [] m.body

-- a present method that what a user type inherits from reaches does
abbrev pub InInherited : (Callee → Type 0) → Path → Option TypeDecl → Type 0
InInherited calls p None = ⊥
InInherited calls p (Some d) = IsSlot p.root × ReadsSpec calls d.inherit_from

-- the body of what is called does
abbrev pub InBody : (Callee → Type 0) → App → Path → Callee → Type 0
InBody calls app p (callee.Function f) = InFunction calls p (function_named f app)
InBody calls app p (callee.Display d) = InDisplay calls p (display_named d app)
InBody calls app p (callee.PresentMethod x) = InMethod calls p (present_method x app)
InBody calls app p (callee.Inherited x) = InInherited calls p (named x app.types)

-- it reads the path, itself or by what it calls in turn, so many one within the other
abbrev pub Within : ℕ → App → Path → Callee → Type 0
Within zero app p c = ⊥
Within (suc n) app p c = InBody (Within n app p) app p c

-- an expression reads a path, itself or by what it calls
pub record IsRead (app : App) (p : Path) (t : ExprTree) : Type 0 where
  pub calls : ℕ
  pub reads : Reads (Within calls app p) p [] t

-- display forms read a path, themselves or by what they call
pub record AreRead (app : App) (p : Path) (fs : ShapeTrees) : Type 0 where
  pub calls : ℕ
  pub reads : ReadsForms (Within calls app p) p fs

-- the same value, or none in both, at each path that an expression reads
abbrev pub AgreeOn : App → ExprTree → Slots → Env → Slots → Env → Type 0
AgreeOn app t slots env other_slots other_env =
    (p : Path) → IsRead app p t → value_at app p slots env ≡ value_at app p other_slots other_env
