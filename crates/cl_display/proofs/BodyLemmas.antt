-- What the bodies of updates keep to: their limits, and the extent around all that they draw.
use Rattle.std.proofs.Common.{◌≡◌, ℕ, ◌≤◌, Result, Ok, Err, arith, subst}
use Rattle.cl_application.specs.declared.applications.App.{App}
use Rattle.cl_syntax.specs.ShapeTree.{ShapeTrees}
use Rattle.cl_eval.specs.Agrees.{Agrees, always}
use Rattle.cl_eval.specs.Outcome.{Gives, Outcome, Traps, cost_of}
use Rattle.cl_eval.specs.Slots.{Env}
use Rattle.cl_eval.specs.TypeMeanings.{AreTexts}
use Rattle.cl_eval.specs.declared.metering.Meter.{Meter}
use Rattle.cl_eval.specs.declared.metering.Stop.{Stop}
use Rattle.cl_eval.specs.declared.metering.Stop.TheVariants.{Trap, Memory}
use Rattle.cl_eval.proofs.KeepLemmas.{Kept}
use Rattle.cl_display.specs.Drawings.{DrawingAt, cursor_box}
use Rattle.cl_display.specs.Fresh.{Allowance, Scene, draws, in_order}
use Rattle.cl_display.specs.Updates.{IsAround, enter_body}
use Rattle.cl_display.proofs.CornerLemmas.{box-held, holds-itself, point-held}
use Rattle.cl_display.proofs.DisplayLemmas.{adds-body}
use Rattle.cl_display.proofs.KeptLemmas.{keeps-forms}

kept-cost : (budget depth : ℕ) (o : Outcome DrawingAt) → Kept budget depth o → cost_of o ≤ budget
kept-cost budget depth (Gives s n r) k = k.0
kept-cost budget depth (Traps kind n r) k = k.0

-- no cost passes the budget, also where memory was wanting
pub spent : (s : DrawingAt) (r : Result (Unit {0}) Stop) (m : Meter) (budget depth : ℕ) (o : Outcome DrawingAt) → Agrees (always s) r m o
    → Kept budget depth o → m.cost ≤ budget
spent s (Ok u) m budget depth o p k = (subst (Kept budget depth) p k).0
spent s (Err (Trap kind)) m budget depth o p k = (subst (Kept budget depth) p k).0
spent s (Err Memory) m budget depth o p k = omega (arith, p, kept-cost budget depth o k)

pub body-kept : (app : App) (scene : Scene) → AreTexts app scene.types.presents → (left : ℕ) (allowed : Allowance) (env : Env) (body : ShapeTrees)
    (s t : DrawingAt) (r : Result (Unit {0}) Stop) (m : Meter)
    → Agrees (always t) r m (in_order (draws left allowed scene) 0 env body s 0 0).outcome → m.cost ≤ allowed.budget
body-kept app scene texts left allowed env body s t r m p =
    spent t r m allowed.budget left (in_order (draws left allowed scene) 0 env body s 0 0).outcome p (keeps-forms app scene texts left allowed env body s)

-- no reach passes the levels that are left
pub body-reach : (app : App) (scene : Scene) → AreTexts app scene.types.presents → (left : ℕ) (allowed : Allowance) (env : Env) (body : ShapeTrees)
    (s t : DrawingAt) (n r : ℕ) → (in_order (draws left allowed scene) 0 env body s 0 0).outcome ≡ Gives t n r → r ≤ left
body-reach app scene texts left allowed env body s t n r p = (subst (Kept allowed.budget left) p (keeps-forms app scene texts left allowed env body s)).1

-- no weight passes what is allowed
pub body-weight : (scene : Scene) (left : ℕ) (allowed : Allowance) (env : Env) (body : ShapeTrees) (s t : DrawingAt) (n r : ℕ)
    → (in_order (draws left allowed scene) 0 env body (enter_body s) 0 0).outcome ≡ Gives t n r → t.weight ≤ allowed.weight
body-weight scene left allowed env body s t n r p = (adds-body left allowed scene 0 env body (enter_body s) t 0 0 n r p).light (omega arith)

-- the extent is around all
pub body-around : (scene : Scene) (left : ℕ) (allowed : Allowance) (env : Env) (body : ShapeTrees) (s t : DrawingAt) (n r : ℕ)
    → (in_order (draws left allowed scene) 0 env body (enter_body s) 0 0).outcome ≡ Gives t n r → IsAround s t
body-around scene left allowed env body s t n r p =
    let added = adds-body left allowed scene 0 env body (enter_body s) t 0 0 n r p in
    record {
      first = point-held t.part.extent s.ambient added.part.wider;
      last = point-held t.part.extent t.ambient (added.cursor (holds-itself (cursor_box s.ambient)));
      inside = rw added.part.behind (box-held t.part.extent added.marks added.part.within);
    }
