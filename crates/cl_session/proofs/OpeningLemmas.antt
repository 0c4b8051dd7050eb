-- The opening of a session: each pane is settled, and shows its display.
use Rattle.std.proofs.Common.{◌≡◌, ℕ, ◌+◌, ◌≤◌, Bool, true, false, All, List, [], ◌∷◌, None, Option, Some, length, map, refl, sym, ◌∙◌, ap, subst, arith}
use Rattle.std.specs.Prelude.{◌||◌}
use Rattle.std.specs.List.{list_any}
use Rattle.std.proofs.lemmas.List.{length-map}
use Rattle.std.proofs.lemmas.List.Elements.{All-cons, All-head, All-nil, All-tail}
use Rattle.cl_application.specs.Panes.{panes_of}
use Rattle.cl_application.specs.declared.declarations.PaneDecl.{PaneDecl}
use Rattle.cl_dialog.specs.OpenDialog.{OpenDialog}
use Rattle.cl_display.specs.Outcomes.{DrawOutcome}
use Rattle.cl_eval.specs.Outcome.{RisesBy, cost_of}
use Rattle.cl_eval.specs.Slots.{Slots}
use Rattle.cl_frame.specs.Frames.{IsFrameOf, Settles, IsBlankPane, marks_of_frame, pane_met, reports_of_frame}
use Rattle.cl_frame.specs.Ground.{Ground}
use Rattle.cl_frame.specs.Panes.{PaneMarks, area_of, area_of_pane, marks_of, marks_of_pane, report_of_pane}
use Rattle.cl_frame.specs.Settling.{PaneStep, SpendsPanes, costs, marks_after, met_memory, pane_draw, settle_pane, settle_panes}
use Rattle.cl_frame.specs.declared.frames.Frame.{Frame}
use Rattle.cl_frame.specs.declared.panes.Pane.{Pane}
use Rattle.cl_frame.specs.declared.reports.PaneReport.{PaneReport}
use Rattle.cl_frame.specs.declared.settling.Which.TheVariants as which
use Rattle.cl_line.specs.declared.elements.Element.{Element}
use Rattle.cl_reuse.proofs.DisplayPays.{nothing-kept}
use Rattle.cl_reuse.specs.Kept as kept
use Rattle.cl_reuse.specs.Kept.{work}
use Rattle.cl_session.specs.Current.{IsCurrent}
use Rattle.cl_session.specs.Handling.{enabled_in, world_at}
use Rattle.cl_session.specs.Laws.{AllFalse}
use Rattle.cl_session.specs.Session.{cost_of_panes, costs_of_panes}
use Rattle.cl_session.specs.Naming.{places_of}
use Rattle.cl_session.specs.World.{Enabled, World, all_enabled, cost_of_pane, opening, script_of, state_without}
use Rattle.cl_tables.specs.Enabled.{AreAllEnabled}
use Rattle.cl_session.specs.declared.handling.Desk.{Desk}
use Rattle.cl_session.proofs.CurrentLemmas.{AreAsMany, current_always}
use Rattle.cl_session.proofs.DeterminedLemmas.{paid_panes, settle_nothing}
use Rattle.cl_session.proofs.EnabledLemmas.{opens_enabled}

as_many_by : (ds : List PaneDecl) (ms : List PaneMarks) → length ms ≡ length ds → AreAsMany ds ms
as_many_by [] [] e = tt
as_many_by [] (m ∷ ms) e = absurd (omega (arith, e))
as_many_by (d ∷ ds) [] e = absurd (omega (arith, e))
as_many_by (d ∷ ds) (m ∷ ms) e = as_many_by ds ms (omega (arith, e))

-- a frame has as many panes as its application
pub frame_as_many : (g : Ground) (f : Frame) → IsFrameOf g.app f → AreAsMany (panes_of g.app) (marks_of_frame f)
frame_as_many g f is =
    let counted : length (map area_of_pane f.panes.items) ≡ length (map area_of (panes_of g.app)) = ap length is.areas in
    as_many_by (panes_of g.app) (marks_of_frame f)
    (omega (arith, counted, length-map f.panes.items area_of_pane, length-map (panes_of g.app) area_of, length-map f.panes.items marks_of_pane))

or_false : (a b : Bool) → (a || b) ≡ false → (a ≡ false) × (b ≡ false)
or_false false b e = (refl, e)
or_false true b e = cc

-- none met want of memory
pub none_met : (rs : List PaneReport) → list_any met_memory rs ≡ false → AllFalse (map met_memory rs)
none_met [] e = All-nil (λ m. m ≡ false)
none_met (r ∷ rs) e =
    let both = or_false (met_memory r) (list_any met_memory rs) e in
    All-cons (λ m. m ≡ false) (met_memory r) (map met_memory rs) both.0 (none_met rs both.1)

-- no pane of a frame met want of memory
pub none_told : (ps : List Pane) → list_any pane_met ps ≡ false → list_any met_memory (map report_of_pane ps) ≡ false
none_told [] e = refl
none_told (p ∷ ps) e =
    let both = or_false (met_memory p.report) (list_any pane_met ps) e in
    ap (λ (b : Bool). b || list_any met_memory (map report_of_pane ps)) both.0 ∙ none_told ps both.1

-- panes that show nothing
abbrev pub AreBlank : List PaneMarks → Type 0
AreBlank = All (λ m. m ≡ None)

pub blank_marks : (ps : List Pane) → All IsBlankPane ps → AreBlank (map marks_of_pane ps)
blank_marks [] h = All-nil (λ m. m ≡ None)
blank_marks (p ∷ ps) h =
    All-cons (λ m. m ≡ None) (marks_of_pane p) (map marks_of_pane ps) (ap marks_of (All-head IsBlankPane p ps h).0) (blank_marks ps (All-tail IsBlankPane p ps h))

-- over no old records the whole display is drawn
work_whole : (o : DrawOutcome) → work [] o ≡ cost_of o.outcome
work_whole o =
    let none : kept.costs (kept.kept [] o) ≡ 0 = ap kept.costs (nothing-kept o) in
    omega (arith, none)

module _ (g : Ground) (slots : Slots) where
  scripts_shown : (ds : List PaneDecl) (os : List PaneMarks) → AreAsMany ds os
      → map marks_after (settle_panes g which.All (state_without slots) ds os []) ≡ map (script_of g (state_without slots)) ds
  scripts_shown [] [] n = refl
  scripts_shown [] (o ∷ os) n = absurd n
  scripts_shown (d ∷ ds) [] n = absurd n
  scripts_shown (d ∷ ds) (o ∷ os) n = ap (λ (ms : List PaneMarks). script_of g (state_without slots) d ∷ ms) (scripts_shown ds os n)

  -- what a blank pane costs
  cost_blank : (d : PaneDecl) (o : PaneMarks) (met : Bool) → o ≡ None → (settle_pane g which.All (state_without slots) d o met).cost ≡ cost_of_pane g slots d
  cost_blank d None met e = work_whole (pane_draw g.limits g.app g.types d (state_without slots))
  cost_blank d (Some marks) met e = cc

  -- what all blank panes cost, whatever they met
  costs_all : (ds : List PaneDecl) (os : List PaneMarks) (mets : List Bool) → AreAsMany ds os → AreBlank os
      → costs (settle_panes g which.All (state_without slots) ds os mets) ≡ costs_of_panes g slots ds
  costs_all [] [] mets n b = refl
  costs_all [] (o ∷ os) mets n b = absurd n
  costs_all (d ∷ ds) [] mets n b = absurd n
  costs_all (d ∷ ds) (o ∷ os) [] n b =
      ap (λ (x : ℕ). x + costs (settle_panes g which.All (state_without slots) ds os [])) (cost_blank d o false (All-head (λ m. m ≡ None) o os b))
      ∙ ap (λ (x : ℕ). cost_of_pane g slots d + x) (costs_all ds os [] n (All-tail (λ m. m ≡ None) o os b))
  costs_all (d ∷ ds) (o ∷ os) (m ∷ ms) n b =
      ap (λ (x : ℕ). x + costs (settle_panes g which.All (state_without slots) ds os ms)) (cost_blank d o m (All-head (λ m. m ≡ None) o os b))
      ∙ ap (λ (x : ℕ). cost_of_pane g slots d + x) (costs_all ds os ms n (All-tail (λ m. m ≡ None) o os b))

  pub opening_world : (desk : Desk) (old new : Frame) → desk.line ≡ [] → desk.dialog ≡ None → AreAllEnabled (places_of g.app.commands) desk.enabled → AreAsMany (panes_of g.app) (marks_of_frame old)
      → Settles g which.All (state_without slots) old new → list_any met_memory (reports_of_frame new) ≡ false
      → world_at slots desk new ≡ opening g slots new.screen.stale
  opening_world desk old new line closed on n s none =
      let nothing = settle_nothing g which.All (state_without slots) (panes_of g.app) (marks_of_frame old) (map met_memory (reports_of_frame new)) (none_met (reports_of_frame new) none) in
      let marks : marks_of_frame new ≡ map (script_of g (state_without slots)) (panes_of g.app) =
      s.marks ∙ (ap (λ (ss : List PaneStep). map marks_after ss) nothing ∙ scripts_shown (panes_of g.app) (marks_of_frame old) n) in
      let world_by : List Element → Enabled → Option OpenDialog → List PaneMarks → World =
      λ l e d ms. record { slots = slots; line = l; enabled = e; dialog = d; panes = ms; stale = new.screen.stale } in
      ap (λ (l : List Element). world_by l (enabled_in desk.enabled) desk.dialog (marks_of_frame new)) line
      ∙ ap (λ (e : Enabled). world_by [] e desk.dialog (marks_of_frame new)) (opens_enabled g.app desk.enabled on)
      ∙ ap (λ (d : Option OpenDialog). world_by [] (all_enabled g.app) d (marks_of_frame new)) closed
      ∙ ap (λ (ms : List PaneMarks). world_by [] (all_enabled g.app) None ms) marks

  pub opening_paid : (old new : Frame) (from to : ℕ) → AreAsMany (panes_of g.app) (marks_of_frame old) → AreBlank (marks_of_frame old)
      → SpendsPanes (settle_panes g which.All (state_without slots) (panes_of g.app) (marks_of_frame old) (map met_memory (reports_of_frame new))) from to
      → list_any met_memory (reports_of_frame new) ≡ false → to ≡ from + cost_of_panes g slots
  opening_paid old new from to n b spends none =
      let nothing = settle_nothing g which.All (state_without slots) (panes_of g.app) (marks_of_frame old) (map met_memory (reports_of_frame new)) (none_met (reports_of_frame new) none) in
      let paid = paid_panes g which.All (state_without slots) (panes_of g.app) (marks_of_frame old) from to (subst (λ (ss : List PaneStep). SpendsPanes ss from to) nothing spends) in
      omega (arith, paid, costs_all (panes_of g.app) (marks_of_frame old) [] n b)

  rises_most : (met : Bool) (from to cost : ℕ) → RisesBy met from to cost → to ≤ from + cost
  rises_most true from to cost h = h.1
  rises_most false from to cost h = omega (arith, h)

  spends_most : (ss : List PaneStep) (from to : ℕ) → SpendsPanes ss from to → to ≤ from + costs ss
  spends_most [] from to h = omega (arith, h)
  spends_most (s ∷ ss) from to h = omega (arith, rises_most (met_memory s.report) from h.0 s.cost h.1, spends_most ss h.0 to h.2)

  pub opening_most : (old : Frame) (mets : List Bool) (from to : ℕ) → AreAsMany (panes_of g.app) (marks_of_frame old) → AreBlank (marks_of_frame old)
      → SpendsPanes (settle_panes g which.All (state_without slots) (panes_of g.app) (marks_of_frame old) mets) from to → to ≤ from + cost_of_panes g slots
  opening_most old mets from to n b spends =
      omega (
        arith,
        spends_most (settle_panes g which.All (state_without slots) (panes_of g.app) (marks_of_frame old) mets) from to spends,
        costs_all (panes_of g.app) (marks_of_frame old) mets n b,
      )

-- the world at the opening shows its displays
pub opening_fits : (g : Ground) (slots : Slots) (failed : Bool) (w : World) → w ≡ opening g slots failed → IsCurrent g w
opening_fits g slots failed w e = subst (IsCurrent g) (sym e) (current_always.at_opening g slots failed)
