-- Opening values, defaults, what stands for queries that are not shown and functions that read a slot, in the evaluator's words for what an expression reads.
use Rattle.std.specs.Prelude.{◌≡◌, ◌⊎◌, ℕ, zero, suc, Bool, true, false, List, [], ◌∷◌, Option, Some, None}
use Rattle.cl_syntax.specs.ExprTree.{ExprTree}
use Rattle.cl_syntax.specs.declared.callees.Callee.{Callee}
use Rattle.cl_syntax.specs.declared.callees.Callee.TheVariants as callee
use Rattle.cl_syntax.specs.declared.paths.Path.{Path}
use Rattle.cl_table.specs.Names.{named}
use Rattle.cl_application.specs.declared.declarations.ArgumentDecl.{ArgumentDecl}
use Rattle.cl_application.specs.declared.declarations.ConditionDecl.{ConditionDecl}
use Rattle.cl_application.specs.declared.declarations.DefaultDecl.{DefaultDecl}
use Rattle.cl_application.specs.declared.declarations.FunctionDecl.{FunctionDecl}
use Rattle.cl_application.specs.declared.declarations.QueryDecl.{QueryDecl}
use Rattle.cl_application.specs.declared.declarations.SlotDecl.{SlotDecl}
use Rattle.cl_eval.specs.ReadPaths.{InFunction, IsSlot, Reads}

-- functions by name
abbrev pub Functions : Type 0
Functions = List (List ℕ × FunctionDecl)

-- the body of the function that is called reads the path, which is a slot's; an expression calls nothing but functions
abbrev pub InFunctions : (Callee → Type 0) → Functions → Path → Callee → Type 0
InFunctions calls fs p (callee.Function f) = InFunction calls p (named f fs)
InFunctions calls fs p (callee.Display d) = ⊥
InFunctions calls fs p (callee.PresentMethod x) = ⊥
InFunctions calls fs p (callee.Inherited x) = ⊥

-- it does, itself or by the functions that it calls in turn, so many one within the other
abbrev pub FunctionsWithin : ℕ → Functions → Path → Callee → Type 0
FunctionsWithin zero fs p c = ⊥
FunctionsWithin (suc n) fs p c = InFunctions (FunctionsWithin n fs p) fs p c

-- an expression reads a slot or fields of it, itself or through calls
pub record ReadsSlot (fs : Functions) (t : ExprTree) : Type 0 where
  pub path : Path
  pub slot : IsSlot path.root
  pub calls : ℕ
  pub reads : Reads (FunctionsWithin calls fs path) path [] t

-- one of the declarations of a table has this
abbrev pub OneHas : {D : Type 0} → (D → Type 0) → List (List ℕ × D) → Type 0
OneHas P [] = ⊥
OneHas P (e ∷ more) = P e.1 ⊎ OneHas P more

-- one of these opening values reads a slot
abbrev pub AnyReads : Functions → List (List ℕ × SlotDecl) → Type 0
AnyReads fs slots = OneHas (λ s. ReadsSlot fs s.opening) slots

-- a default that may be there reads a slot
abbrev pub DefaultReads : Functions → Option DefaultDecl → Type 0
DefaultReads fs None = ⊥
DefaultReads fs (Some d) = ReadsSlot fs d.value

-- one of the defaults of these arguments reads a slot
abbrev pub DefaultsRead : Functions → List (List ℕ × ArgumentDecl) → Type 0
DefaultsRead fs arguments = OneHas (λ a. DefaultReads fs a.default) arguments

-- the `:else` of a condition that may be there reads a slot
abbrev pub ElseReads : Functions → Option ConditionDecl → Type 0
ElseReads fs None = ⊥
ElseReads fs (Some c) = ReadsSlot fs c.otherwise

-- one of those of these queries reads a slot
abbrev pub ElsesRead : Functions → List (List ℕ × QueryDecl) → Type 0
ElsesRead fs queries = OneHas (λ q. ElseReads fs q.condition) queries

-- the function of this name reads a slot
pub record FunctionReads (fs : Functions) (x : List ℕ) : Type 0 where
  pub function : FunctionDecl
  pub declared : named x fs ≡ Some function
  pub reads : ReadsSlot fs function.body

-- ---- what the program answers

-- whether one of the slots' opening values reads a slot
abbrev pub Tells : Functions → List (List ℕ × SlotDecl) → Bool → Type 0
Tells fs slots true = AnyReads fs slots
Tells fs slots false = AnyReads fs slots → ⊥
