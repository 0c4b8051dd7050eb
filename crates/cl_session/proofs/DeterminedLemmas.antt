-- Steps in which nothing met want of memory and no device failed.
use Rattle.std.proofs.Common.{◌≡◌, ℕ, ◌+◌, Bool, true, false, All, List, [], ◌∷◌, ◌++◌, refl, sym, ◌∙◌, ap, subst, arith}
use Rattle.std.proofs.lemmas.List.Elements.{All-head, All-tail}
use Rattle.cl_application.specs.Panes.{panes_of}
use Rattle.cl_application.specs.declared.declarations.PaneDecl.{PaneDecl}
use Rattle.cl_display.specs.Drawings.{DrawingAt}
use Rattle.cl_display.specs.Outcomes.{DrawOutcome}
use Rattle.cl_eval.specs.Outcome.{Gives, Outcome, RisesBy, Traps}
use Rattle.cl_frame.specs.States.{StateAt}
use Rattle.cl_frame.specs.Ground.{Ground}
use Rattle.cl_frame.specs.Panes.{PaneMarks, marks_in}
use Rattle.cl_frame.specs.Settling.{PaneStep, SpendsPanes, costs, is_due, met_memory, pane_draw, report_settled, reused, settle_if, settle_pane, settle_panes}
use Rattle.cl_frame.specs.declared.settling.Which.{Which}
use Rattle.cl_gesture.specs.Gesture.{LineKind, idle, bad, does, kind_of}
use Rattle.cl_gesture.specs.Lines.{Piece}
use Rattle.cl_gesture.specs.declared.answers.Gesture.{Gesture}
use Rattle.cl_medium.specs.Items.{Item}
use Rattle.cl_record.specs.Counts.{count_of}
use Rattle.cl_record.specs.Marks.{Mark}
use Rattle.cl_reuse.specs.Kept.{KeptAt}
use Rattle.cl_reuse.specs.Records.{kept_among}
use Rattle.cl_session.specs.Laws.{AllFalse, AreDetermined, MetNothing, worlds_of}
use Rattle.cl_session.specs.Step.{Met, Next, Spends, handled, next, next_behind, which_after}
use Rattle.cl_session.specs.Streams.{SpendsAll, transcript}
use Rattle.cl_session.specs.Transcript.{Meters, Spent, SpentOfPiece, Went, line_bytes, lost, said_of, said_of_piece, stepped, world_after, world_after_piece}
use Rattle.cl_session.specs.World.{World, state_in}

-- nothing is met
abbrev nothing : Met
nothing = record { handling = false; panes = []; wire = false }

-- panes that met nothing, told or not
pub settle_nothing : (g : Ground) (w : Which) (state : StateAt) (ds : List PaneDecl) (os : List PaneMarks) (mets : List Bool) → AllFalse mets
    → settle_panes g w state ds os mets ≡ settle_panes g w state ds os []
settle_nothing g w state [] os mets h = refl
settle_nothing g w state (d ∷ ds) [] mets h = refl
settle_nothing g w state (d ∷ ds) (o ∷ os) [] h = refl
settle_nothing g w state (d ∷ ds) (o ∷ os) (m ∷ ms) h =
    let one : m ≡ false = All-head (λ x. x ≡ false) m ms h in
    let rest = settle_nothing g w state ds os ms (All-tail (λ x. x ≡ false) m ms h) in
    ap (λ (x : Bool). settle_pane g w state d o x ∷ settle_panes g w state ds os ms) one
    ∙ ap (λ (ss : List PaneStep). settle_pane g w state d o false ∷ ss) rest

next_by : (g : Ground) (w : World) (act : Gesture) (handling wire : Bool) (mets : List Bool) → handling ≡ false → wire ≡ false → AllFalse mets
    → next g w act (record { handling = handling; panes = mets; wire = wire }) ≡ next g w act nothing
next_by g w act false false mets e f h =
    let hd = handled g w act in
    ap (λ (ss : List PaneStep). next_behind g hd ss false) (settle_nothing g (which_after hd.after) (state_in g.app hd.world) (panes_of g.app) hd.world.panes mets h)
next_by g w act false true mets e f h = cc
next_by g w act true wire mets e f h = cc

-- a step in which nothing was met
pub next_nothing : (g : Ground) (w : World) (act : Gesture) (met : Met) → MetNothing (stepped met) → next g w act met ≡ next g w act nothing
next_nothing g w act met h = next_by g w act met.handling met.wire met.panes h.0 h.2 h.1

-- what is said of a line, and the world behind it, do not hang on what was chosen
same_said : (g : Ground) (w : World) (before : ℕ) (kind : LineKind) (c : Went) → MetNothing c
    → said_of g w before kind c ≡ said_of g w before kind (stepped nothing)
same_said g w before idle c h = refl
same_said g w before bad c h = refl
same_said g w before (does act) lost h = absurd h
same_said g w before (does act) (stepped met) h = ap (λ (n : Next). line_bytes n.lines) (next_nothing g w act met h)

same_after : (g : Ground) (w : World) (kind : LineKind) (c : Went) → MetNothing c → world_after g w kind c ≡ world_after g w kind (stepped nothing)
same_after g w idle c h = refl
same_after g w bad c h = refl
same_after g w (does act) lost h = absurd h
same_after g w (does act) (stepped met) h = ap (λ (n : Next). n.world) (next_nothing g w act met h)

-- ---- costs

reported : (shown : Outcome DrawingAt) (ks : List KeptAt) (erased : ℕ) → met_memory (report_settled shown ks erased false) ≡ false
reported (Gives s cost deepest) ks erased = refl
reported (Traps kind cost deepest) ks erased = refl

paid_if : (due : Bool) (drawn : DrawOutcome) (over : List (Mark Item)) (old : PaneMarks) (from to : ℕ)
    → RisesBy (met_memory (settle_if due drawn over old false).report) from to (settle_if due drawn over old false).cost
    → to ≡ from + (settle_if due drawn over old false).cost
paid_if true drawn over old from to h =
    rw (reported drawn.outcome (kept_among over drawn) (count_of (marks_in old))) at h
paid_if false drawn over old from to h = h

-- panes that met nothing cost just what they cost
pub paid_panes : (g : Ground) (w : Which) (state : StateAt) (ds : List PaneDecl) (os : List PaneMarks) (from to : ℕ)
    → SpendsPanes (settle_panes g w state ds os []) from to → to ≡ from + costs (settle_panes g w state ds os [])
paid_panes g w state [] os from to h = omega (arith, h)
paid_panes g w state (d ∷ ds) [] from to h = omega (arith, h)
paid_panes g w state (d ∷ ds) (o ∷ os) from to h =
    omega (arith, paid_if (is_due w o) (pane_draw g.limits g.app g.types d state) (reused w o) o from h.0 h.1, paid_panes g w state ds os h.0 to h.2)

-- what a line costs
abbrev line_cost : Ground → World → LineKind → ℕ
line_cost g w idle = 0
line_cost g w bad = 0
line_cost g w (does act) = (next g w act nothing).cost

paid_step : (g : Ground) (w : World) (act : Gesture) (handling wire : Bool) (mets : List Bool) (from to : ℕ) → handling ≡ false → AllFalse mets
    → Spends g w act (record { handling = handling; panes = mets; wire = wire }) from to → to ≡ from + (next g w act nothing).cost
paid_step g w act true wire mets from to e h s = cc
paid_step g w act false wire mets from to e h s =
    let hd = handled g w act in
    let same = settle_nothing g (which_after hd.after) (state_in g.app hd.world) (panes_of g.app) hd.world.panes mets h in
    let settled : SpendsPanes (settle_panes g (which_after hd.after) (state_in g.app hd.world) (panes_of g.app) hd.world.panes []) s.handled_at to =
    subst (λ (ss : List PaneStep). SpendsPanes ss s.handled_at to) same s.settling in
    omega (arith, s.handling, paid_panes g (which_after hd.after) (state_in g.app hd.world) (panes_of g.app) hd.world.panes s.handled_at to settled)

paid_line : (g : Ground) (w : World) (kind : LineKind) (c : Went) (from to : Meters) → MetNothing c → Spent g w kind c from to
    → to.spent ≡ from.spent + line_cost g w kind
paid_line g w idle c from to h s = omega (arith, ap (λ (m : Meters). m.spent) s)
paid_line g w bad c from to h s = omega (arith, ap (λ (m : Meters). m.spent) s)
paid_line g w (does act) lost from to h s = absurd h
paid_line g w (does act) (stepped met) from to h s = paid_step g w act met.handling met.wire met.panes from.spent to.spent h.0 h.1 s.ran

-- ---- all lines: as if nothing had been told of what was met

abbrev plain : List Piece → List Went
plain [] = []
plain (p ∷ ps) = stepped nothing ∷ plain ps

module _ (g : Ground) where
  abbrev SpendsLines : World → List Piece → List Went → (old new : Meters) → Type 0
  SpendsLines w ps cs old new = SpendsAll (said_of_piece g) (world_after_piece g) (SpentOfPiece g) w ps cs old new

  abbrev bytes_said : World → ℕ → List Piece → List Went → List ℕ
  bytes_said w before ps cs = transcript (said_of_piece g) (world_after_piece g) (SpentOfPiece g) w before ps cs

  said_plain : (w : World) (before : ℕ) (ps : List Piece) (cs : List Went) (from to : Meters) → All MetNothing cs → SpendsLines w ps cs from to
      → bytes_said w before ps cs ≡ bytes_said w before ps (plain ps)
  said_plain w before [] [] from to h s = refl
  said_plain w before [] (c ∷ cs) from to h s = absurd s
  said_plain w before (p ∷ ps) [] from to h s = absurd s
  said_plain w before (p ∷ ps) (c ∷ cs) from to h s =
      let met = All-head MetNothing c cs h in
      let here = same_said g w before (kind_of p) c met in
      let there = same_after g w (kind_of p) c met in
      let rest = said_plain (world_after_piece g w p c) (before + 1) ps cs s.0 to (All-tail MetNothing c cs h) s.2 in
      ap (λ (t : List ℕ). said_of_piece g w before p c ++ t) rest
      ∙ (ap (λ (t : List ℕ). t ++ bytes_said (world_after_piece g w p c) (before + 1) ps (plain ps)) here
      ∙ ap (λ (v : World). said_of_piece g w before p (stepped nothing) ++ bytes_said v (before + 1) ps (plain ps)) there)

  worlds_plain : (w : World) (ps : List Piece) (cs : List Went) (from to : Meters) → All MetNothing cs → SpendsLines w ps cs from to
      → worlds_of g w ps cs ≡ worlds_of g w ps (plain ps)
  worlds_plain w [] [] from to h s = refl
  worlds_plain w [] (c ∷ cs) from to h s = absurd s
  worlds_plain w (p ∷ ps) [] from to h s = absurd s
  worlds_plain w (p ∷ ps) (c ∷ cs) from to h s =
      let there = same_after g w (kind_of p) c (All-head MetNothing c cs h) in
      let rest = worlds_plain (world_after_piece g w p c) ps cs s.0 to (All-tail MetNothing c cs h) s.2 in
      ap (λ (vs : List World). w ∷ vs) rest ∙ ap (λ (v : World). w ∷ worlds_of g v ps (plain ps)) there

  abbrev lines_cost : World → List Piece → ℕ
  lines_cost w [] = 0
  lines_cost w (p ∷ ps) = line_cost g w (kind_of p) + lines_cost (world_after_piece g w p (stepped nothing)) ps

  paid_lines : (w : World) (ps : List Piece) (cs : List Went) (from to : Meters) → All MetNothing cs → SpendsLines w ps cs from to
      → to.spent ≡ from.spent + lines_cost w ps
  paid_lines w [] [] from to h s = omega (arith, ap (λ (m : Meters). m.spent) s)
  paid_lines w [] (c ∷ cs) from to h s = absurd s
  paid_lines w (p ∷ ps) [] from to h s = absurd s
  paid_lines w (p ∷ ps) (c ∷ cs) from to h s =
      let met = All-head MetNothing c cs h in
      let there : lines_cost (world_after_piece g w p c) ps ≡ lines_cost (world_after_piece g w p (stepped nothing)) ps =
      ap (λ (v : World). lines_cost v ps) (same_after g w (kind_of p) c met) in
      let rest = paid_lines (world_after_piece g w p c) ps cs s.0 to (All-tail MetNothing c cs h) s.2 in
      omega (arith, paid_line g w (kind_of p) c from s.0 met s.1, there, rest)

pub determined : AreDetermined
determined = record {
  bytes = λ g w before ps first second from to other h k s t. said_plain g w before ps first from to h s ∙ sym (said_plain g w before ps second from other k t);
  same_worlds = λ g w ps first second from to other h k s t. worlds_plain g w ps first from to h s ∙ sym (worlds_plain g w ps second from other k t);
  costs = λ g w ps first second from to other h k s t. paid_lines g w ps first from to h s ∙ sym (paid_lines g w ps second from other k t);
}
