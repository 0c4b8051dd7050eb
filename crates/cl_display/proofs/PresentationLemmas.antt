-- Display forms that end once the values of their parts are there: a figure, and a form that presents a value.
use Rattle.std.proofs.Common.{◌≡◌, ℕ, Bool, true, false, if◌then◌else◌, List, [], Result, Ok, Err, ap, refl}
use Rattle.cl_value.specs.Data.{Data}
use Rattle.cl_syntax.specs.ExprTree.{ExprTrees}
use Rattle.cl_syntax.specs.PresentationTree.{PresentationTree}
use Rattle.cl_syntax.specs.ShapeTree as shape
use Rattle.cl_syntax.specs.ShapeTree.{ShapeTrees}
use Rattle.cl_syntax.specs.TypeSpecTree.{TypeSpecTree}
use Rattle.cl_syntax.specs.declared.figures.Figure.{Figure}
use Rattle.cl_eval.specs.declared.metering.Meter.{Meter}
use Rattle.cl_eval.specs.declared.metering.Stop.{Stop}
use Rattle.cl_eval.specs.declared.metering.Stop.TheVariants.{Trap, Memory}
use Rattle.cl_eval.specs.Agrees.{Agrees, Comes, always, itself}
use Rattle.cl_eval.specs.Meaning.{Go, each}
use Rattle.cl_eval.specs.Outcome.{Gives, Traps, trap}
use Rattle.cl_eval.specs.Slots.{Env}
use Rattle.cl_eval.specs.Statements.{Member}
use Rattle.cl_eval.proofs.CostLemmas.{Agrees-lift}
use Rattle.cl_display.specs.Drawings.{DrawingAt}
use Rattle.cl_display.specs.Figures.{draw_figure}
use Rattle.cl_display.specs.Fresh.{Allowance, Bodies, Draws, Scene, for_members, presents_body, shape_parts}
use Rattle.cl_display.specs.Outcomes.{Draw, opens_none}
use Rattle.cl_display.specs.Presentations.{Texts, check_member, enter_presentation, label_of, leave_presentation}
use Rattle.cl_display.proofs.FormLemmas.{DrawGrows, DrawsGrow, StopsAt, grows-for_members, stop-set}

-- a figure whose values are there ends as its drawing does
pub ends-figure : (scene : Scene) (allowed : Allowance) (value : Go) (text : Texts) (bodies : Bodies) (go : Draws) (level : ℕ) (env : Env) (figure : Figure)
    (ts : ExprTrees) (s s' : DrawingAt) (ds : List Data) (r : Result (Unit {0}) Stop) (m : Meter) (c d : ℕ)
    → each value level env ts [] c d ≡ Gives ds m.cost m.deepest → Comes (always s') r (draw_figure allowed.weight figure ds s)
    → Agrees (always s') r m (shape_parts scene allowed value text bodies go level env (shape.Draw figure ts) s c d).outcome
ends-figure scene allowed value text bodies go level env figure ts s s' ds r m c d p q =
    rw p (Agrees-lift (always s') r m (draw_figure allowed.weight figure ds s) q)

-- ---- a value that is looked at

pub member-checked : (b : Bool) (u : Unit {0}) → ◌≡◌ {A = Result (Unit {0}) ℕ} (if b then Ok tt else Err 1) (Ok u) → b ≡ true
member-checked true u p = refl
member-checked false u p = cc

stop-tested : (b : Bool) (draw : Draw) (s' : DrawingAt) (k : ℕ) (m : Meter)
    → ◌≡◌ {A = Result (Unit {0}) ℕ} (if b then Ok tt else Err 1) (Err k)
    → StopsAt s' (Trap k) m ((if b then draw else opens_none (trap 1)) m.cost m.deepest)
stop-tested true draw s' k m p = cc
stop-tested false draw s' k m p = ap (λ (r : Result (Unit {0}) ℕ). Traps (kind_in r) m.cost m.deepest) p
  where
    kind_in : Result (Unit {0}) ℕ → ℕ
    kind_in (Ok u) = 1
    kind_in (Err kind) = kind

pub stop-member : (holds : Member) (spec : TypeSpecTree) (v : Data) (draw : Draw) → DrawGrows draw → (s' : DrawingAt) (e : Stop) (m : Meter)
    → Comes {A = Unit {0}} itself (Err e) (check_member holds spec v)
    → StopsAt s' e m (for_members holds spec v draw m.cost m.deepest)
stop-member holds spec v draw g s' (Trap k) m p = stop-tested (holds v spec) draw s' k m p
stop-member holds spec v draw g s' Memory m p = grows-for_members (holds v spec) draw g m.cost m.deepest

-- an opening that there is no room for stops the form
pub stop-opened : (A : Type 0) (holds : Member) (most : ℕ) (go : Draws) → DrawsGrow go → (level : ℕ) (env : Env) (p : PresentationTree)
    (body : ShapeTrees) (v : Data) (s s' s'' : DrawingAt) (e : Stop) (m : Meter)
    → holds v p.spec ≡ true → Comes {A = A} (always s') (Err e) (enter_presentation most v s)
    → StopsAt s'' e m (for_members holds p.spec v (presents_body most go level env p body s v) m.cost m.deepest)
stop-opened A holds most go g level env p body v s s' s'' (Trap k) m h q =
    rw h (stop-set go g level env body (enter_presentation most v s) (leave_presentation (label_of p.spec p.single_box v) s.part) s' s'' (Trap k) m q)
stop-opened A holds most go g level env p body v s s' s'' Memory m h q =
    rw h (stop-set go g level env body (enter_presentation most v s) (leave_presentation (label_of p.spec p.single_box v) s.part) s' s'' Memory m tt)
