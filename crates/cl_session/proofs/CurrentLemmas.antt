-- Panes that show their displays, through a step.
use Rattle.std.proofs.Common.{◌≡◌, ℕ, Bool, true, false, All, List, [], ◌∷◌, ◌⊎◌, map, Some, None, refl, sym, subst, inl, inr}
use Rattle.std.proofs.lemmas.List.Elements.{All-cons, All-nil}
use Rattle.cl_application.specs.Panes.{panes_of}
use Rattle.cl_application.specs.declared.declarations.PaneDecl.{PaneDecl}
use Rattle.cl_frame.specs.States.{StateAt}
use Rattle.cl_frame.specs.Ground.{Ground}
use Rattle.cl_frame.specs.Panes.{PaneMarks}
use Rattle.cl_frame.specs.Settling.{marks_after, marks_settled, pane_draw, settle_pane, settle_panes}
use Rattle.cl_frame.specs.declared.settling.Which.{Which}
use Rattle.cl_frame.specs.declared.settling.Which.TheVariants as which
use Rattle.cl_gesture.specs.Gesture.{LineKind, idle, bad, does, kind_of}
use Rattle.cl_gesture.specs.Lines.{Piece}
use Rattle.cl_gesture.specs.declared.answers.Gesture.{Gesture}
use Rattle.cl_session.specs.Current.{AreCurrent, IsCurrent, IsPaneCurrent}
use Rattle.cl_session.specs.Laws.{AreCurrentAlways, IsUnchangedByFailure, worlds_of}
use Rattle.cl_session.specs.Runs.{Handled, command_trap_line}
use Rattle.cl_session.specs.Step.{Met, handled, handled_or_not, next, settled_behind, which_after}
use Rattle.cl_session.specs.Transcript.{Went, lost, stepped, world_after, world_after_piece}
use Rattle.cl_session.specs.World.{World, script_of, state_in, state_without}
use Rattle.cl_session.specs.declared.handling.After.{After}
use Rattle.cl_session.specs.declared.handling.After.TheVariants as after
use Rattle.cl_session.proofs.KeptLemmas.{Keeps, KeepsState, keeps_handled, keeps_handled_or_not}

-- each pane has its script at the opening
opening_current : (g : Ground) (state : StateAt) (ds : List PaneDecl) → AreCurrent g state ds (map (script_of g state) ds)
opening_current g state [] = tt
opening_current g state (d ∷ ds) = (inr refl, opening_current g state ds)

-- as many panes as are declared
abbrev pub AreAsMany : List PaneDecl → List PaneMarks → Type 0
AreAsMany [] [] = Unit {0}
AreAsMany [] (m ∷ ms) = ⊥
AreAsMany (d ∷ ds) [] = ⊥
AreAsMany (d ∷ ds) (m ∷ ms) = AreAsMany ds ms

pub as_many : (g : Ground) (state : StateAt) (ds : List PaneDecl) (ms : List PaneMarks) → AreCurrent g state ds ms → AreAsMany ds ms
as_many g state [] [] h = tt
as_many g state [] (m ∷ ms) h = h
as_many g state (d ∷ ds) [] h = h
as_many g state (d ∷ ds) (m ∷ ms) h = as_many g state ds ms h.1

settled_current : (g : Ground) (state : StateAt) (d : PaneDecl) (met : Bool) → IsPaneCurrent g state d (marks_settled (pane_draw g.limits g.app g.types d state).outcome met)
settled_current g state d true = inl refl
settled_current g state d false = inr refl

-- a pane that is settled, or that was current
pane_current : (g : Ground) (w : Which) (state : StateAt) (d : PaneDecl) (old : PaneMarks) (met : Bool)
    → (w ≡ which.Blank → IsPaneCurrent g state d old) → IsPaneCurrent g state d (settle_pane g w state d old met).marks
pane_current g which.All state d old met h = settled_current g state d met
pane_current g which.Force state d old met h = settled_current g state d met
pane_current g which.Blank state d None met h = settled_current g state d met
pane_current g which.Blank state d (Some marks) met h = h refl

panes_current : (g : Ground) (w : Which) (state : StateAt) (ds : List PaneDecl) (olds : List PaneMarks) (mets : List Bool) → AreAsMany ds olds
    → (w ≡ which.Blank → AreCurrent g state ds olds) → AreCurrent g state ds (map marks_after (settle_panes g w state ds olds mets))
panes_current g w state [] [] mets n h = tt
panes_current g w state [] (o ∷ os) mets n h = absurd n
panes_current g w state (d ∷ ds) [] mets n h = absurd n
panes_current g w state (d ∷ ds) (o ∷ os) [] n h =
    (pane_current g w state d o false (λ e. (h e).0), panes_current g w state ds os [] n (λ e. (h e).1))
panes_current g w state (d ∷ ds) (o ∷ os) (m ∷ ms) n h =
    (pane_current g w state d o m (λ e. (h e).0), panes_current g w state ds os ms n (λ e. (h e).1))

-- blank panes alone are tried again only where what they show stays
kept_state : (next : After) (old new : StateAt) → KeepsState next old new → which_after next ≡ which.Blank → new ≡ old
kept_state after.Nothing old new k e = k
kept_state after.Commit old new k e = cc
kept_state after.Force old new k e = k

pub behind_current : (g : Ground) (w : World) (h : Handled) (mets : List Bool) → Keeps w h → IsCurrent g w
    → AreCurrent g (state_in g.app h.world) (panes_of g.app) (map marks_after (settled_behind g h mets))
behind_current g w h mets k current =
    panes_current g (which_after h.after) (state_in g.app h.world) (panes_of g.app) h.world.panes mets
    (subst (λ (ms : List PaneMarks). AreAsMany (panes_of g.app) ms) (sym k.panes) (as_many g (state_in g.app w) (panes_of g.app) w.panes current))
    (λ e. subst (λ (s : StateAt). AreCurrent g s (panes_of g.app) h.world.panes)
    (sym (kept_state h.after (state_in g.app w) (state_in g.app h.world) (k.state g.app) e))
    (subst (λ (ms : List PaneMarks). AreCurrent g (state_in g.app w) (panes_of g.app) ms) (sym k.panes) current))

pub next_current : (g : Ground) (w : World) (act : Gesture) (met : Met) → IsCurrent g w → IsCurrent g (next g w act met).world
next_current g w act met current =
    behind_current g w (handled_or_not g w act met.handling) met.panes (keeps_handled_or_not g w act met.handling) current

after_current : (g : Ground) (w : World) (kind : LineKind) (went : Went) → IsCurrent g w → IsCurrent g (world_after g w kind went)
after_current g w idle went h = h
after_current g w bad went h = h
after_current g w (does act) lost h = h
after_current g w (does act) (stepped met) h = next_current g w act met h

all_current : (g : Ground) (w : World) (ps : List Piece) (wents : List Went) → IsCurrent g w → All (IsCurrent g) (worlds_of g w ps wents)
all_current g w [] wents h = All-cons (IsCurrent g) w [] h (All-nil (IsCurrent g))
all_current g w (p ∷ ps) [] h = All-cons (IsCurrent g) w [] h (All-nil (IsCurrent g))
all_current g w (p ∷ ps) (c ∷ cs) h =
    All-cons (IsCurrent g) w (worlds_of g (world_after_piece g w p c) ps cs) h
    (all_current g (world_after_piece g w p c) ps cs (after_current g w (kind_of p) c h))

pub current_always : AreCurrentAlways
current_always = record {
  at_opening = λ g slots failed. opening_current g (state_without slots) (panes_of g.app);
  from_then_on = all_current;
}

-- ---- failures

-- slots, line, what is enabled and the dialog behind a handling
unchanged_by : (g : Ground) (w : World) (act : Gesture) (handling : Bool)
    → (handling ≡ true) ⊎ ((kind : ℕ) × ((handled g w act).replies ≡ command_trap_line kind ∷ []))
    → ((handled_or_not g w act handling).world.slots ≡ w.slots) × ((handled_or_not g w act handling).world.line ≡ w.line)
    × ((handled_or_not g w act handling).world.enabled ≡ w.enabled) × ((handled_or_not g w act handling).world.dialog ≡ w.dialog)
unchanged_by g w act true h = (refl, refl, refl, refl)
unchanged_by g w act false (inl e) = let no : false ≡ true = e in cc
unchanged_by g w act false (inr (kind, e)) = (keeps_handled g w act).trapped kind e

pub unchanged_by_failure : IsUnchangedByFailure
unchanged_by_failure g w act met h = unchanged_by g w act met.handling h
