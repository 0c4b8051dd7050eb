-- What becomes of panes that are settled: each shows its display, evaluated once on the present state. What may be kept of its old history is kept.
use Rattle.std.specs.Prelude.{◌≡◌, ℕ, ◌+◌, ◌-◌, Bool, true, false, is_none, List, [], ◌∷◌, Some, None}
use Rattle.cl_application.specs.declared.applications.App.{App}
use Rattle.cl_application.specs.declared.declarations.PaneDecl.{PaneDecl}
use Rattle.cl_eval.specs.Outcome.{Outcome, Gives, RisesBy, Traps}
use Rattle.cl_frame.specs.States.{StateAt, shown_env, shown_forms}
use Rattle.cl_eval.specs.TypeMeanings.{TypeMeanings}
use Rattle.cl_eval.specs.declared.metering.Limits.{Limits}
use Rattle.cl_display.specs.Drawings.{DrawingAt}
use Rattle.cl_display.specs.Outcomes.{DrawOutcome}
use Rattle.cl_display.specs.Script.{fresh, history_of}
use Rattle.cl_medium.specs.Items.{Item}
use Rattle.cl_record.specs.Counts.{count_of}
use Rattle.cl_record.specs.Marks.{Mark}
use Rattle.cl_reuse.specs.Kept.{KeptAt, count_moved, count_still, items_kept, work}
use Rattle.cl_reuse.specs.Records.{kept_among, records_of}
use Rattle.cl_frame.specs.Ground.{Ground}
use Rattle.cl_frame.specs.Panes.{PaneMarks, marks_in}
use Rattle.cl_frame.specs.declared.reports.PaneReport.{PaneReport}
use Rattle.cl_frame.specs.declared.reports.PaneReport.TheVariants as report
use Rattle.cl_frame.specs.declared.settling.Which.{Which}
use Rattle.cl_frame.specs.declared.settling.Which.TheVariants as which

-- what becomes of a pane: its marks, its report, and the cost
pub record PaneStep : Type 0 where
  pub marks : PaneMarks
  pub report : PaneReport
  pub cost : ℕ

-- a pane that is settled has the marks of its display, or is blank where it met want of memory
abbrev pub marks_settled : Outcome DrawingAt → (met : Bool) → PaneMarks
marks_settled shown true = None
marks_settled shown false = Some (history_of shown)

-- its report: how many updates are kept where they stood, and how many are moved; and how many items are drawn, and erased of so many, outside of these
abbrev pub report_settled : Outcome DrawingAt → List KeptAt → (erased : ℕ) → (met : Bool) → PaneReport
report_settled shown ks erased true = report.Memory
report_settled (Gives s cost deepest) ks erased false = report.Shown (record {
  kept = count_still ks;
  moved = count_moved ks;
  drawn = count_of s.part.marks - items_kept ks;
  erased = erased - items_kept ks;
})
report_settled (Traps kind cost deepest) ks erased false = report.Trapped kind

-- what the display that a pane shows comes to, with the updates that it opens
abbrev pub pane_draw : Limits → App → TypeMeanings → PaneDecl → StateAt → DrawOutcome
pane_draw limits app types pane state =
    fresh limits (record { app = app; slots = state.slots; types = types }) (shown_forms app pane state) (shown_env pane state)

-- the old marks of which something may be kept: where all histories are discarded there are none
abbrev pub reused : Which → PaneMarks → List (Mark Item)
reused which.All marks = marks_in marks
reused which.Blank marks = marks_in marks
reused which.Force marks = []

-- A pane that is settled, over these old marks, and one that is not. The cost of what is kept is not paid again.
abbrev pub settle_if : (due : Bool) → DrawOutcome → (over : List (Mark Item)) → PaneMarks → (met : Bool) → PaneStep
settle_if true drawn over old met = record {
  marks = marks_settled drawn.outcome met;
  report = report_settled drawn.outcome (kept_among over drawn) (count_of (marks_in old)) met;
  cost = work (records_of over) drawn;
}
settle_if false drawn over old met = record { marks = old; report = report.Quiet; cost = 0 }

-- which panes are settled: all, those that are blank for want of memory, or all from nothing
abbrev pub is_due : Which → PaneMarks → Bool
is_due which.All marks = true
is_due which.Blank marks = is_none marks
is_due which.Force marks = true

-- one pane
abbrev pub settle_pane : Ground → Which → StateAt → PaneDecl → PaneMarks → (met : Bool) → PaneStep
settle_pane g which state d old met = settle_if (is_due which old) (pane_draw g.limits g.app g.types d state) (reused which old) old met

-- all panes, each with what it met; where that is not told, it met nothing
abbrev pub settle_panes : Ground → Which → StateAt → List PaneDecl → List PaneMarks → (mets : List Bool) → List PaneStep
settle_panes g which state [] olds mets = []
settle_panes g which state (d ∷ ds) [] mets = []
settle_panes g which state (d ∷ ds) (o ∷ os) [] = settle_pane g which state d o false ∷ settle_panes g which state ds os []
settle_panes g which state (d ∷ ds) (o ∷ os) (m ∷ ms) = settle_pane g which state d o m ∷ settle_panes g which state ds os ms

-- the marks of a pane after its step
abbrev pub marks_after : PaneStep → PaneMarks
marks_after s = s.marks

-- the report of a pane after its step
abbrev pub report_after : PaneStep → PaneReport
report_after s = s.report

-- what all cost together
abbrev pub costs : List PaneStep → ℕ
costs [] = 0
costs (s ∷ ss) = s.cost + costs ss

-- the report says that a pane met want of memory
abbrev pub met_memory : PaneReport → Bool
met_memory (report.Shown r) = false
met_memory (report.Trapped k) = false
met_memory report.Memory = true
met_memory report.Quiet = false

-- the ledger rises by the cost of each pane, one after another; where a pane met want of memory, by no more
abbrev pub SpendsPanes : List PaneStep → (old new : ℕ) → Type 0
SpendsPanes [] old new = new ≡ old
SpendsPanes (s ∷ ss) old new = (between : ℕ) × RisesBy (met_memory s.report) old between s.cost × SpendsPanes ss between new
