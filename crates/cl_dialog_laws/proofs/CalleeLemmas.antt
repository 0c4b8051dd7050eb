-- What reads a path where it calls no display reads it in an application with other displays.
use Rattle.std.proofs.Common.{ℕ, zero, suc, List, [], Option, Some, None}
use Rattle.std.proofs.Math.Logic.{⊎_map}
use Rattle.cl_application.specs.App.{function_named, present_method}
use Rattle.cl_application.specs.declared.applications.App.{App}
use Rattle.cl_application.specs.declared.declarations.FunctionDecl.{FunctionDecl}
use Rattle.cl_application.specs.declared.declarations.MethodDecl.{MethodDecl}
use Rattle.cl_dialog_forms.specs.Forms.{with_dialog_displays}
use Rattle.cl_eval.specs.ReadPaths.{InFunction, InInherited, InMethod, Within}
use Rattle.cl_eval.specs.ReadPaths.{Reads, ReadsAmong, ReadsArg, ReadsArgs, ReadsBound, ReadsSpec, operand_fields}
use Rattle.cl_syntax.specs.ExprTree as expr
use Rattle.cl_syntax.specs.ExprTree.{ExprTree, ExprTrees, Bindings, none, part, unbound, binding}
use Rattle.cl_syntax.specs.Paths.{Along}
use Rattle.cl_syntax.specs.TypeSpecTree as type_spec
use Rattle.cl_syntax.specs.TypeSpecTree.{TypeSpecTree, specifier, TypeArgTree, Constant, Any, Param, Spec, Names, TypeArgTrees, argument}
use Rattle.cl_syntax.specs.declared.callees.Callee.{Callee}
use Rattle.cl_syntax.specs.declared.callees.Callee.TheVariants as callee
use Rattle.cl_syntax.specs.declared.paths.Path.{Path}
use Rattle.cl_syntax.specs.declared.type_decls.TypeDecl.{TypeDecl}
use Rattle.cl_table.specs.Names.{named}

-- the second do what the first do, but for displays
pub record ReadNoLess (calls more : Callee → Type 0) : Type 0 where
  pub functions : (x : List ℕ) → calls (callee.Function x) → more (callee.Function x)
  pub methods : (x : List ℕ) → calls (callee.PresentMethod x) → more (callee.PresentMethod x)
  pub types : (x : List ℕ) → calls (callee.Inherited x) → more (callee.Inherited x)

module _ (calls more : Callee → Type 0) (g : ReadNoLess calls more) (p : Path) where
  -- an expression
  mutual
    reads : (along : Along) (t : ExprTree) → Reads calls p along t → Reads more p along t
    reads along (expr.Constant d) r = absurd r
    reads along (expr.Variable x) r = r
    reads along (expr.Slot x) r = r
    reads along (expr.If t u v) r = ⊎_map (reads [] t) (⊎_map (reads [] u) (reads [] v)) r
    reads along (expr.Let bs t) r = ⊎_map (reads_bound bs) (λ k. (k.0, reads [] t k.1)) r
    reads along (expr.And ts) r = reads_among [] ts r
    reads along (expr.Or ts) r = reads_among [] ts r
    reads along (expr.Map x t body) r = ⊎_map (reads [] t) (λ k. (k.0, reads [] body k.1)) r
    reads along (expr.Filter x t body) r = ⊎_map (reads [] t) (λ k. (k.0, reads [] body k.1)) r
    reads along (expr.Fold x t a opening body) r =
        ⊎_map (reads [] t) (⊎_map (reads [] opening) (λ k. (k.0, (k.1.0, reads [] body k.1.1)))) r
    reads along (expr.Operation o ts) r = reads_among (operand_fields o ts along) ts r
    reads along (expr.Call f ts) r = ⊎_map (reads_among [] ts) (g.functions f) r

    reads_among : (along : Along) (ts : ExprTrees) → ReadsAmong calls p along ts → ReadsAmong more p along ts
    reads_among along none r = absurd r
    reads_among along (part t ts) r = ⊎_map (reads along t) (reads_among along ts) r

    reads_bound : (bs : Bindings) → ReadsBound calls p bs → ReadsBound more p bs
    reads_bound unbound r = absurd r
    reads_bound (binding x t bs) r = ⊎_map (reads [] t) (λ k. (k.0, reads_bound bs k.1)) r

  -- a specifier
  mutual
    pub reads_spec : (s : TypeSpecTree) → ReadsSpec calls s → ReadsSpec more s
    reads_spec (specifier x ts o) r = ⊎_map (g.methods x) (⊎_map (reads_args ts) (g.types x)) r

    reads_args : (ts : TypeArgTrees) → ReadsArgs calls ts → ReadsArgs more ts
    reads_args type_spec.none r = absurd r
    reads_args (argument a ts) r = ⊎_map (reads_arg a) (reads_args ts) r

    reads_arg : (a : TypeArgTree) → ReadsArg calls a → ReadsArg more a
    reads_arg (Constant d) r = absurd r
    reads_arg Any r = absurd r
    reads_arg (Param x) r = absurd r
    reads_arg (Spec s) r = reads_spec s r
    reads_arg (Names xs) r = absurd r

  -- what is called
  in_function : (o : Option FunctionDecl) → InFunction calls p o → InFunction more p o
  in_function None r = absurd r
  in_function (Some d) r = (r.0, reads [] d.body r.1)

  in_method : (o : Option MethodDecl) → InMethod calls p o → InMethod more p o
  in_method None r = absurd r
  in_method (Some m) r = (r.0, reads [] m.body r.1)

  in_inherited : (o : Option TypeDecl) → InInherited calls p o → InInherited more p o
  in_inherited None r = absurd r
  in_inherited (Some d) r = (r.0, reads_spec d.inherit_from r.1)

-- what the forms of dialogs are added to reads no less before
pub no_less : (app : App) (p : Path) (n : ℕ) → ReadNoLess (Within n (with_dialog_displays app) p) (Within n app p)
no_less app p zero = record { functions = λ x r. r; methods = λ x r. r; types = λ x r. r }
no_less app p (suc n) = record {
  functions = λ x r. in_function (Within n (with_dialog_displays app) p) (Within n app p) (no_less app p n) p (function_named x app) r;
  methods = λ x r. in_method (Within n (with_dialog_displays app) p) (Within n app p) (no_less app p n) p (present_method x app) r;
  types = λ x r. in_inherited (Within n (with_dialog_displays app) p) (Within n app p) (no_less app p n) p (named x app.types) r;
}
