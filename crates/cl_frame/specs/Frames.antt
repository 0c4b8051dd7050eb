-- A frame: its panes on one screen.
use Rattle.std.specs.Prelude.{◌≡◌, ◌≤◌, ℕ, Bool, true, false, All, IfSome, List, [], ◌∷◌, Some, None, map, slice_get, slice_set}
use Rattle.cl_outside.specs.Causes.{Rose}
use Rattle.cl_application.specs.Panes.{panes_of}
use Rattle.cl_application.specs.declared.applications.App.{App}
use Rattle.cl_application.specs.declared.declarations.PaneDecl.{PaneDecl}
use Rattle.cl_eval.specs.Outcome.{RisesBy}
use Rattle.cl_frame.specs.States.{StateAt}
use Rattle.cl_eval.specs.TypeMeanings.{TypeMeanings}
use Rattle.cl_display.specs.Outcomes.{DrawOutcome}
use Rattle.cl_medium.specs.Items.{Item}
use Rattle.cl_raster.specs.Raster.{Picture}
use Rattle.cl_record.specs.Counts.{count_of}
use Rattle.cl_record.specs.Marks.{Mark}
use Rattle.cl_redisplay.specs.Paint.{LiesIn}
use Rattle.cl_redisplay.specs.Shown.{AreApart, Shows, areas_of}
use Rattle.cl_redisplay.specs.declared.screens.Painted.{Painted}
use Rattle.cl_redisplay.specs.declared.screens.Painted.TheVariants as painted
use Rattle.cl_reuse.specs.Kept.{work}
use Rattle.cl_reuse.specs.Once.{IsNamedOnce}
use Rattle.cl_reuse.specs.Records.{kept_among, records_of}
use Rattle.cl_reuse.specs.Recorded.{IsFaithfulHistory}
use Rattle.cl_frame.specs.Ground.{Ground}
use Rattle.cl_frame.specs.Panes.{IsCounted, PaneMarks, area_of, area_of_pane, marks_in, marks_of_pane, report_of_pane, shown_of_pane}
use Rattle.cl_frame.specs.Settling.{marks_after, marks_settled, met_memory, report_after, report_settled, settle_pane, settle_panes}
use Rattle.cl_frame.specs.declared.frames.Frame.{Frame}
use Rattle.cl_frame.specs.declared.panes.Pane.{Pane}
use Rattle.cl_frame.specs.declared.reports.PaneReport.{PaneReport}
use Rattle.cl_frame.specs.declared.settling.Which.{Which}
use Rattle.cl_frame.specs.declared.settling.Which.TheVariants as which

-- the marks of all panes, in order
abbrev pub marks_of_frame : Frame → List PaneMarks
marks_of_frame f = map marks_of_pane f.panes.items

-- what became of each pane when the frame was settled last
abbrev pub reports_of_frame : Frame → List PaneReport
reports_of_frame f = map report_of_pane f.panes.items

-- a pane met want of memory when the frame was settled last
abbrev pub pane_met : Pane → Bool
pane_met p = met_memory p.report

-- Panes on a screen: they lie in it, each apart from the others, the cells there are those of their histories, and blank elsewhere, and
-- their items are counted.
pub record AreShown (panes : List Pane) (raster : Picture) : Type 0 where
  pub lie : All (λ p. LiesIn p.area raster) panes
  pub apart : AreApart (areas_of (map shown_of_pane panes))
  pub shows : Shows raster (map shown_of_pane panes)
  pub counted : All IsCounted panes

-- a frame of this application: its screen is as large as the frame, and its panes are where the frame has them
pub record IsFrameOf (app : App) (f : Frame) : Type 0 where
  pub width : f.screen.raster.width ≡ app.frame.width
  pub height : f.screen.raster.height ≡ app.frame.height
  pub areas : map area_of_pane f.panes.items ≡ map area_of (panes_of app)
  pub shown : AreShown f.panes.items f.screen.raster

-- a pane without a history
abbrev pub IsBlankPane : Pane → Type 0
IsBlankPane p = (p.history ≡ None) × (p.items ≡ 0)

-- the history of a pane, where it has one, is faithful: what it says of its updates is what their bodies come to, and no level of it has two
-- updates of one site and id
pub record IsPaneFaithful (app : App) (types : TypeMeanings) (p : Pane) : Type 0 where
  pub faithful : IfSome p.history (IsFaithfulHistory app types)
  pub once : IfSome p.history IsNamedOnce

-- so it is of each pane
pub record ArePanesFaithful (app : App) (types : TypeMeanings) (panes : List Pane) : Type 0 where
  pub all : All (IsPaneFaithful app types) panes

-- ---- settling

-- what the evaluation of a display over these old marks leaves of its pane
pub record Evaluates (drawn : DrawOutcome) (over : List (Mark Item)) (old new : Pane) (from to : ℕ) : Type 0 where
  pub area : new.area ≡ old.area
  pub marks : marks_of_pane new ≡ marks_settled drawn.outcome (met_memory new.report)
  pub report : new.report ≡ report_settled drawn.outcome (kept_among over drawn) (count_of (marks_in (marks_of_pane old))) (met_memory new.report)
  pub counted : IsCounted new
  pub spends : RisesBy (met_memory new.report) from to (work (records_of over) drawn)

-- what became of one pane
pub record SettlesPane (g : Ground) (which : Which) (state : StateAt) (d : PaneDecl) (old new : Pane) : Type 0 where
  pub marks : marks_of_pane new ≡ (settle_pane g which state d (marks_of_pane old) (met_memory new.report)).marks
  pub report : new.report ≡ (settle_pane g which state d (marks_of_pane old) (met_memory new.report)).report

-- what a settling of one pane may cost
abbrev pub pane_cost : Ground → Which → StateAt → PaneDecl → (old new : Pane) → ℕ
pane_cost g which state d old new = (settle_pane g which state d (marks_of_pane old) (met_memory new.report)).cost

-- the pane in this place was settled, and all others are what they were
pub record SettlesAt (g : Ground) (which : Which) (state : StateAt) (place : ℕ) (old new : List Pane) (from to : ℕ) : Type 0 where
  pub declared : PaneDecl
  pub before : Pane
  pub now : Pane
  pub declares : slice_get (panes_of g.app) place ≡ Some declared
  pub stood : slice_get old place ≡ Some before
  pub stands : new ≡ slice_set old place now
  pub settles : SettlesPane g which state declared before now
  pub spends : RisesBy (met_memory now.report) from to (pane_cost g which state declared before now)

-- one pane after another was settled, and the ledger rose by what each of them may cost
abbrev pub SettlesPanes : Ground → Which → StateAt → List PaneDecl → (old new : List Pane) → (from to : ℕ) → Type 0
SettlesPanes g which state (d ∷ ds) (o ∷ os) (n ∷ ns) from to =
    (between : ℕ) × SettlesPane g which state d o n × RisesBy (met_memory n.report) from between (pane_cost g which state d o n)
    × SettlesPanes g which state ds os ns between to
SettlesPanes g which state [] [] [] from to = to ≡ from
SettlesPanes g which state [] [] (n ∷ ns) from to = ⊥
SettlesPanes g which state [] (o ∷ os) ns from to = ⊥
SettlesPanes g which state (d ∷ ds) [] ns from to = ⊥
SettlesPanes g which state (d ∷ ds) (o ∷ os) [] from to = ⊥

-- the marks and the reports of all panes, by what each of them met
pub record Settles (g : Ground) (which : Which) (state : StateAt) (old new : Frame) : Type 0 where
  pub marks : marks_of_frame new ≡ map marks_after (settle_panes g which state (panes_of g.app) (marks_of_frame old) (map met_memory (reports_of_frame new)))
  pub reports : reports_of_frame new ≡ map report_after (settle_panes g which state (panes_of g.app) (marks_of_frame old) (map met_memory (reports_of_frame new)))

-- another pane may stand in this place: it has the same area, and its items are counted
pub record Replaces (panes : List Pane) (place : ℕ) (pane : Pane) : Type 0 where
  pub before : Pane
  pub stands : slice_get panes place ≡ Some before
  pub area : pane.area ≡ before.area
  pub counted : IsCounted pane

-- ---- the screen

-- a settling that discards all histories leaves the screen stale
abbrev pub is_stale_under : Which → Bool → Bool
is_stale_under which.All stale = stale
is_stale_under which.Blank stale = stale
is_stale_under which.Force stale = true

-- no count falls; a stale screen stays stale, and one becomes stale only where the device failed
pub record GoesStale (old new : Bool) (faults_old faults_new : ℕ) : Type 0 where
  pub later : faults_old ≤ faults_new
  pub stays : old ≡ true → new ≡ true
  pub rose : old ≡ false → new ≡ true → Rose faults_old faults_new

-- a fault, where a screen has become stale
abbrev pub fault_between : (was_stale is_stale : Bool) → Painted
fault_between true is_stale = painted.Done
fault_between false true = painted.DeviceFault
fault_between false false = painted.Done
