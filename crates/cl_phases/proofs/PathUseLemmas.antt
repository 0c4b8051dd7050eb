-- In an application, an expression reads a slot exactly where it reads a path that begins with one: it calls nothing but functions.
use Rattle.std.proofs.Common.{ℕ, zero, suc, inl, inr, ⊎_elim, List, [], Option, Some, None}
use Rattle.std.specs.Prelude.{◌↔◌}
use Rattle.cl_syntax.specs.ExprTree as expr
use Rattle.cl_syntax.specs.ExprTree.{ExprTree, ExprTrees, Bindings, none, part, unbound, binding}
use Rattle.cl_syntax.specs.Paths.{Along}
use Rattle.cl_syntax.specs.declared.callees.Callee.{Callee}
use Rattle.cl_syntax.specs.declared.callees.Callee.TheVariants as callee
use Rattle.cl_syntax.specs.declared.paths.Path.{Path}
use Rattle.cl_application.specs.App.{function_named}
use Rattle.cl_application.specs.declared.applications.App.{App}
use Rattle.cl_application.specs.declared.declarations.FunctionDecl.{FunctionDecl}
use Rattle.cl_eval.specs.ReadPaths.{InFunction, IsRead, IsSlot, Reads, ReadsAmong, ReadsBound, Within, operand_fields}
use Rattle.cl_phases.specs.SlotReads.{FunctionsWithin, ReadsSlot}

-- by what is read where functions are called
module _ (from to : Callee → Type 0) (p : Path) (more : (f : List ℕ) → from (callee.Function f) → to (callee.Function f)) where
  mutual
    pub through_calls : (along : Along) (t : ExprTree) → Reads from p along t → Reads to p along t
    through_calls along (expr.Constant d) r = r
    through_calls along (expr.Variable x) r = r
    through_calls along (expr.Slot x) r = r
    through_calls along (expr.If t u v) r =
        ⊎_elim (λ q. inl (through_calls [] t q)) (λ q. inr (⊎_elim (λ k. inl (through_calls [] u k)) (λ k. inr (through_calls [] v k)) q)) r
    through_calls along (expr.Let bs t) r = ⊎_elim (λ q. inl (through_bound bs q)) (λ q. inr (q.0, through_calls [] t q.1)) r
    through_calls along (expr.And ts) r = through_among [] ts r
    through_calls along (expr.Or ts) r = through_among [] ts r
    through_calls along (expr.Map x t body) r = ⊎_elim (λ q. inl (through_calls [] t q)) (λ q. inr (q.0, through_calls [] body q.1)) r
    through_calls along (expr.Filter x t body) r = ⊎_elim (λ q. inl (through_calls [] t q)) (λ q. inr (q.0, through_calls [] body q.1)) r
    through_calls along (expr.Fold x t accumulator opening body) r =
        ⊎_elim (λ q. inl (through_calls [] t q))
        (λ q. inr (⊎_elim (λ k. inl (through_calls [] opening k)) (λ k. inr (k.0, (k.1.0, through_calls [] body k.1.1))) q)) r
    through_calls along (expr.Operation o ts) r = through_among (operand_fields o ts along) ts r
    through_calls along (expr.Call f ts) r = ⊎_elim (λ q. inl (through_among [] ts q)) (λ c. inr (more f c)) r

    through_among : (along : Along) (ts : ExprTrees) → ReadsAmong from p along ts → ReadsAmong to p along ts
    through_among along none r = r
    through_among along (part t ts) r = ⊎_elim (λ q. inl (through_calls along t q)) (λ q. inr (through_among along ts q)) r

    through_bound : (bs : Bindings) → ReadsBound from p bs → ReadsBound to p bs
    through_bound unbound r = r
    through_bound (binding x t bs) r = ⊎_elim (λ q. inl (through_calls [] t q)) (λ q. inr (q.0, through_bound bs q.1)) r

-- the same within a body
in_function : (from to : Callee → Type 0) (p : Path) → ((f : List ℕ) → from (callee.Function f) → to (callee.Function f)) → (o : Option FunctionDecl) → InFunction from p o → InFunction to p o
in_function from to p more None r = r
in_function from to p more (Some d) r = (r.0, through_calls from to p more [] d.body r.1)

to_functions : (n : ℕ) (app : App) (p : Path) (f : List ℕ) → Within n app p (callee.Function f) → FunctionsWithin n app.functions p (callee.Function f)
to_functions zero app p f r = r
to_functions (suc n) app p f r = in_function (Within n app p) (FunctionsWithin n app.functions p) p (to_functions n app p) (function_named f app) r

from_functions : (n : ℕ) (app : App) (p : Path) (f : List ℕ) → FunctionsWithin n app.functions p (callee.Function f) → Within n app p (callee.Function f)
from_functions zero app p f r = r
from_functions (suc n) app p f r = in_function (FunctionsWithin n app.functions p) (Within n app p) p (from_functions n app p) (function_named f app) r

pub slot_is_path : (app : App) (t : ExprTree) → ReadsSlot app.functions t ↔ ((p : Path) × (IsSlot p.root × IsRead app p t))
slot_is_path app t = (
  λ r. (
    r.path,
    (
      r.slot,
      record {
        calls = r.calls;
        reads = through_calls (FunctionsWithin r.calls app.functions r.path) (Within r.calls app r.path) r.path (from_functions r.calls app r.path) [] t r.reads;
      },
    ),
  ),
  λ r. record {
    path = r.0;
    slot = r.1.0;
    calls = r.1.1.calls;
    reads = through_calls (Within r.1.1.calls app r.0) (FunctionsWithin r.1.1.calls app.functions r.0) r.0 (to_functions r.1.1.calls app r.0) [] t r.1.1.reads;
  },
)
