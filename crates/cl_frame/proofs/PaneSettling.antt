-- One pane of a frame that is settled.
use Rattle.std.proofs.Common.{◌≡◌, ℕ, ◌<◌, length, Bool, true, false, List, Some, get_or, map, refl, sym, ◌∙◌, ap, subst, slice_get, slice_set, arith}
use Rattle.std.proofs.lemmas.List.Elements.{All-get_or}
use Rattle.std.proofs.lemmas.Option.{get_or_from_slice_get, slice_get_within}
use Rattle.cl_application.specs.Panes.{panes_of}
use Rattle.cl_application.specs.declared.applications.App.{App}
use Rattle.cl_application.specs.declared.declarations.PaneDecl.{PaneDecl}
use Rattle.cl_eval.specs.Outcome.{RisesBy}
use Rattle.cl_frame.specs.States.{StateAt}
use Rattle.cl_raster.specs.Raster.{SameSize}
use Rattle.cl_frame.specs.Frames.{AreShown, Evaluates, IsFrameOf, SettlesAt}
use Rattle.cl_frame.specs.Ground.{Ground}
use Rattle.cl_frame.specs.Panes.{IsCounted, area_of_pane, marks_of_pane}
use Rattle.cl_frame.specs.Settling.{PaneStep, is_due, met_memory, pane_draw, reused, settle_if}
use Rattle.cl_frame.specs.declared.frames.Frame.{Frame}
use Rattle.cl_frame.specs.declared.panes.Pane.{Pane}
use Rattle.cl_frame.specs.declared.reports.PaneReport.TheVariants as report
use Rattle.cl_frame.specs.declared.settling.Which.{Which}
use Rattle.cl_frame.proofs.DeclaredPanes.{stands_at}
use Rattle.cl_frame.proofs.ShownPanes.{areas_put, shown_kept}

-- a pane as it was, which was not asked for
abbrev pub quiet : Pane → Pane
quiet p = record { area = p.area; history = p.history; items = p.items; report = report.Quiet }

-- a pane, whether it is settled or not
abbrev step_if : Ground → Which → StateAt → PaneDecl → Pane → (due met : Bool) → PaneStep
step_if g w state d o due met = settle_if due (pane_draw g.limits g.app g.types d state) (reused w (marks_of_pane o)) (marks_of_pane o) met

pub settles_quiet : (g : Ground) (w : Which) (state : StateAt) (k : ℕ) (panes : List Pane) (d : PaneDecl) (o : Pane) (steps : ℕ)
    → slice_get (panes_of g.app) k ≡ Some d → slice_get panes k ≡ Some o → is_due w (marks_of_pane o) ≡ false
    → SettlesAt g w state k panes (slice_set panes k (quiet o)) steps steps
settles_quiet g w state k panes d o steps declares stands due = record {
  declared = d;
  before = o;
  now = quiet o;
  declares = declares;
  stood = stands;
  stands = refl;
  settles = record {
    marks = ap (λ (b : Bool). (step_if g w state d o b false).marks) (sym due);
    report = ap (λ (b : Bool). (step_if g w state d o b false).report) (sym due);
  };
  spends = subst (λ (b : Bool). RisesBy false steps steps (step_if g w state d o b false).cost) (sym due) (omega arith);
}

pub settles_due : (g : Ground) (w : Which) (state : StateAt) (k : ℕ) (old new : List Pane) (d : PaneDecl) (o p : Pane) (from to : ℕ)
    → slice_get (panes_of g.app) k ≡ Some d → slice_get old k ≡ Some o → new ≡ slice_set old k p → is_due w (marks_of_pane o) ≡ true
    → Evaluates (pane_draw g.limits g.app g.types d state) (reused w (marks_of_pane o)) o p from to → SettlesAt g w state k old new from to
settles_due g w state k old new d o p from to declares stood stands due e = record {
  declared = d;
  before = o;
  now = p;
  declares = declares;
  stood = stood;
  stands = stands;
  settles = record {
    marks = subst (λ (b : Bool). marks_of_pane p ≡ (step_if g w state d o b (met_memory p.report)).marks) (sym due) e.marks;
    report = subst (λ (b : Bool). p.report ≡ (step_if g w state d o b (met_memory p.report)).report) (sym due) e.report;
  };
  spends = subst (λ (b : Bool). RisesBy (met_memory p.report) from to (step_if g w state d o b (met_memory p.report)).cost) (sym due) e.spends;
}

-- a frame of which one pane is put in the place of another
pub frame_put : (app : App) (old new : Frame) (k : ℕ) (o p : Pane) → slice_get old.panes.items k ≡ Some o → p.area ≡ o.area
    → new.panes.items ≡ slice_set old.panes.items k p → SameSize old.screen.raster new.screen.raster → AreShown new.panes.items new.screen.raster
    → IsFrameOf app old → IsFrameOf app new
frame_put app old new k o p stood area stands size shown h = record {
  width = size.width ∙ h.width;
  height = size.height ∙ h.height;
  areas = ap (map area_of_pane) stands ∙ (areas_put old.panes.items k o p stood area ∙ h.areas);
  shown = shown;
}

-- the same of a pane that was not asked for
pub frame_kept : (app : App) (old new : Frame) (k : ℕ) (o : Pane) → slice_get old.panes.items k ≡ Some o
    → new.panes.items ≡ slice_set old.panes.items k (quiet o) → new.screen ≡ old.screen → IsFrameOf app old → IsFrameOf app new
frame_kept app old new k o stood stands screen h =
    let within = slice_get_within old.panes.items k o stood in
    let counted : IsCounted o = subst IsCounted (get_or_from_slice_get old.panes.items k o o stood) (All-get_or IsCounted old.panes.items k o within h.shown.counted) in
    let kept : AreShown (slice_set old.panes.items k (quiet o)) old.screen.raster =
    shown_kept old.panes.items k o (quiet o) stood refl old.screen.raster refl counted h.shown in
    record {
      width = ap (λ s. s.raster.width) screen ∙ h.width;
      height = ap (λ s. s.raster.height) screen ∙ h.height;
      areas = ap (map area_of_pane) stands ∙ (areas_put old.panes.items k o (quiet o) stood refl ∙ h.areas);
      shown = rw (screen, stands) kept;
    }

-- whether a pane is settled, looked at twice
pub due_same : (w : Which) (panes : List Pane) (k : ℕ) (a b : Pane) → k < length panes → a ≡ get_or panes k a → b ≡ get_or panes k b
    → (due : Bool) → is_due w (marks_of_pane a) ≡ due → is_due w (marks_of_pane b) ≡ due
due_same w panes k a b h e f due is =
    let one = stands_at panes k a h e in
    let two = stands_at panes k b h f in
    let same : a ≡ b = let both : Some a ≡ Some b = sym one ∙ two in cc in
    subst (λ (p : Pane). is_due w (marks_of_pane p) ≡ due) same is
