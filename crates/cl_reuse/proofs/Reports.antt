-- The four numbers of a display over an old history.
use Rattle.std.proofs.Common.{◌≡◌, ℕ, ◌≤◌, List, arith}
use Rattle.cl_syntax.specs.ShapeTree.{ShapeTree, shape_trees_of}
use Rattle.cl_application.specs.declared.applications.App.{App}
use Rattle.cl_cover.specs.Updates.{AreCovered}
use Rattle.cl_eval.specs.Outcome.{Gives}
use Rattle.cl_eval.specs.Slots.{Env, Slots}
use Rattle.cl_eval.specs.TypeMeanings.{AreTexts, TypeMeanings}
use Rattle.cl_eval.specs.declared.metering.Limits.{Limits}
use Rattle.cl_medium.specs.Items.{Item, move_item}
use Rattle.cl_record.specs.Counts.{count_of}
use Rattle.cl_record.specs.Marks.{Mark, history_marks}
use Rattle.cl_record.specs.Trees.{Tree}
use Rattle.cl_display.specs.Drawings.{DrawingAt}
use Rattle.cl_display.specs.Outcomes.{DrawOutcome}
use Rattle.cl_display.specs.Script.{fresh}
use Rattle.cl_reuse.specs.Kept.{IsReport, ReportAt, items_kept, kept, report_of}
use Rattle.cl_reuse.specs.ReadValues.{SeesReads, scene_on}
use Rattle.cl_reuse.specs.Recorded.{IsFaithfulHistory}
use Rattle.cl_reuse.specs.Sited.{AreApart, AreOwn}
use Rattle.cl_reuse.proofs.CountRows.{new-bounds}
use Rattle.cl_reuse.proofs.GoneLemmas.{old-bounds}
use Rattle.cl_reuse.proofs.OnceRows.{display-once}

reported : (old : List (Tree Item)) (o : DrawOutcome) (marks : List (Mark Item)) → items_kept (kept old o) ≤ count_of marks
    → items_kept (kept old o) ≤ count_of (history_marks move_item old) → IsReport (report_of old o marks) old o marks
reported old o marks new gone =
    record { still = omega arith; elsewhere = omega arith; new = omega (arith, new); gone = omega (arith, gone) }

-- a display that ended has a report
pub display-reported : (limits : Limits) (app : App) (types : TypeMeanings) (slots : Slots) (forms : List ShapeTree) (env : Env)
    → AreTexts app types.presents → SeesReads app types.presents → AreCovered app → AreApart app → AreOwn app (shape_trees_of forms)
    → (old : List (Tree Item)) → IsFaithfulHistory app types old
    → (s : DrawingAt) (cost reach : ℕ) → (fresh limits (scene_on app slots types) forms env).outcome ≡ Gives s cost reach
    → IsReport (report_of old (fresh limits (scene_on app slots types) forms env) s.part.marks) old
    (fresh limits (scene_on app slots types) forms env) s.part.marks
display-reported limits app types slots forms env texts sees covered apart own old f s cost reach p =
    let o = fresh limits (scene_on app slots types) forms env in
    reported old o s.part.marks (new-bounds limits app types slots forms env texts sees covered apart own old f s cost reach p)
    (old-bounds old o (display-once limits (scene_on app slots types) forms env))

-- and no other one
pub one-report : (r : ReportAt) (old : List (Tree Item)) (o : DrawOutcome) (marks : List (Mark Item)) → IsReport r old o marks → r ≡ report_of old o marks
one-report r old o marks h =
    let new = report_of old o marks in
    let stills = h.still in
    let moves = h.elsewhere in
    let draws : r.drawn ≡ new.drawn = omega (arith, h.new) in
    let erases : r.erased ≡ new.erased = omega (arith, h.gone) in
    λ i. record { kept = stills i; moved = moves i; drawn = draws i; erased = erases i }
