-- What met want of memory in a gesture, and whether the device failed, is told by its lines.
use Rattle.std.proofs.Common.{◌≡◌, ℕ, zero, suc, ◌+◌, ◌-◌, ◌≤◌, Bool, true, false, List, [], ◌∷◌, ◌++◌, length, length-append, append_assoc, get_or, map, refl, sym, ◌∙◌, ap, arith}
use Rattle.std.specs.Prelude.{codes, nat_le}
use Rattle.std.specs.Fmt.{decimal}
use Rattle.cl_application.specs.Panes.{panes_of}
use Rattle.cl_application.specs.declared.declarations.PaneDecl.{PaneDecl}
use Rattle.cl_display.specs.Drawings.{DrawingAt}
use Rattle.cl_display.specs.Outcomes.{DrawOutcome}
use Rattle.cl_eval.specs.Outcome.{Gives, Outcome, Traps}
use Rattle.cl_frame.specs.States.{StateAt}
use Rattle.cl_frame.specs.Ground.{Ground}
use Rattle.cl_frame.specs.Panes.{PaneMarks, marks_in}
use Rattle.cl_frame.specs.Settling.{PaneStep, is_due, marks_after, pane_draw, report_after, report_settled, reused, settle_if, settle_pane, settle_panes}
use Rattle.cl_frame.specs.declared.settling.Which.{Which}
use Rattle.cl_gesture.specs.declared.answers.Gesture.{Gesture}
use Rattle.cl_gesture.specs.declared.answers.Gesture.TheVariants as gesture
use Rattle.cl_line.specs.Elements.{typed}
use Rattle.cl_line.specs.declared.lines.TheConstants.{MAX_ELEMENTS}
use Rattle.cl_medium.specs.Items.{Item}
use Rattle.cl_record.specs.Counts.{count_of}
use Rattle.cl_record.specs.Marks.{Mark}
use Rattle.cl_reuse.specs.Kept.{KeptAt, count_moved, count_still, items_kept}
use Rattle.cl_reuse.specs.Records.{kept_among}
use Rattle.cl_redisplay.specs.Shown.{Shown, glyph_in, row_from, rows_from, told_row}
use Rattle.cl_session.specs.Laws.{IsToldByLines}
use Rattle.cl_session.specs.Step.{point_at}
use Rattle.cl_session.specs.Runs.{Handled, refuse}
use Rattle.cl_session.specs.Step.{handled, handled_or_not, memory_line, next_behind, pane_lines, report_line, report_lines}
use Rattle.cl_session.specs.Runs.{tell}
use Rattle.cl_session.specs.Step.{report_tail, settled_behind, shown_in, trap_line, which_after, wire_lines}
use Rattle.cl_session.specs.World.{World, state_in}
use Rattle.cl_session.proofs.OwnReplies.{IsNotMemory, first_of, memory_said, no_first, not_returned, not_full, not_history, not_inks, not_memory_if}
use Rattle.cl_session.proofs.OwnReplies.{not_pointed, not_pressed_by, not_with}

-- ---- lists

behind_of : {A : Type 0} (x y : A) (xs ys : List A) → ◌≡◌ {A = List A} (x ∷ xs) (y ∷ ys) → xs ≡ ys
behind_of x y xs ys e = cc

behind_same : {A : Type 0} (xs ys zs : List A) → xs ++ ys ≡ xs ++ zs → ys ≡ zs
behind_same [] ys zs e = e
behind_same (x ∷ xs) ys zs e = behind_same xs ys zs (behind_of x x (xs ++ ys) (xs ++ zs) e)

-- ---- the lines of panes

-- a line of a pane with this name: what comes behind its name
abbrev named_line : List ℕ → List ℕ → List ℕ
named_line name rest = (codes "pane " ++ name) ++ rest

abbrev report_rest : (kept moved drawn erased : ℕ) → List ℕ
report_rest kept moved drawn erased = codes " kept " ++ (decimal kept ++ (codes " moved " ++ (decimal moved ++ report_tail drawn erased)))

report_named : (name : List ℕ) (kept moved drawn erased : ℕ) → report_line name kept moved drawn erased ≡ named_line name (report_rest kept moved drawn erased)
report_named name kept moved drawn erased =
    let tail = report_tail drawn erased in
    let stay : List ℕ = decimal kept in
    let go : List ℕ = decimal moved in
    append_assoc (codes "pane " ++ name ++ codes " kept " ++ stay ++ codes " moved ") go tail
    ∙ (append_assoc (codes "pane " ++ name ++ codes " kept " ++ stay) (codes " moved ") (go ++ tail)
    ∙ (append_assoc (codes "pane " ++ name ++ codes " kept ") stay (codes " moved " ++ (go ++ tail))
    ∙ append_assoc (codes "pane " ++ name) (codes " kept ") (stay ++ (codes " moved " ++ (go ++ tail)))))

trap_named : (name : List ℕ) (kind : ℕ) → trap_line name kind ≡ named_line name (codes " trap " ++ decimal kind)
trap_named name kind = append_assoc (codes "pane " ++ name) (codes " trap ") (decimal kind)

-- behind the name, a line of want of memory is none of the others
memory_is_no_report : (name line rest : List ℕ) → line ≡ named_line name rest → memory_line name ≡ line → (get_or rest 1 0 ≡ 109 → ⊥) → ⊥
memory_is_no_report name line rest e h f =
    let behind = behind_same (codes "pane " ++ name) (codes " memory") rest (h ∙ e) in
    f (sym (ap (λ (l : List ℕ). get_or l 1 0) behind))

-- a line of a pane by its four numbers
shown_alone : (name : List ℕ) (kept moved drawn erased : ℕ) (more rest : List (List ℕ))
    → memory_line name ∷ more ≡ report_line name kept moved drawn erased ∷ rest → ⊥
shown_alone name kept moved drawn erased more rest e =
    let line = report_line name kept moved drawn erased in
    memory_is_no_report name line (report_rest kept moved drawn erased) (report_named name kept moved drawn erased)
    (first_of (memory_line name) line more rest e) (λ no. omega (arith, no))

memory_alone : (name : List ℕ) (shown : Outcome DrawingAt) (ks : List KeptAt) (erased : ℕ) (more rest : List (List ℕ))
    → memory_line name ∷ more ≡ report_lines name (report_settled shown ks erased false) ++ rest → ⊥
memory_alone name (Gives s cost deepest) ks erased more rest e =
    shown_alone name (count_still ks) (count_moved ks) (count_of s.part.marks - items_kept ks) (erased - items_kept ks) more rest e
memory_alone name (Traps kind cost deepest) ks erased more rest e =
    memory_is_no_report name (trap_line name kind) (codes " trap " ++ decimal kind) (trap_named name kind)
    (first_of (memory_line name) (trap_line name kind) more rest e) (λ no. omega (arith, no))

-- the lines behind that of a pane
rest_told : (name : List ℕ) (shown : Outcome DrawingAt) (ks : List KeptAt) (erased : ℕ) (more rest : List (List ℕ))
    → report_lines name (report_settled shown ks erased false) ++ more ≡ report_lines name (report_settled shown ks erased false) ++ rest → more ≡ rest
rest_told name shown ks erased more rest e = behind_same (report_lines name (report_settled shown ks erased false)) more rest e

-- equal lines of one pane, and of those behind it
pane_told : (due : Bool) (name : List ℕ) (drawn : DrawOutcome) (over : List (Mark Item)) (old : PaneMarks) (m n : Bool) (more rest : List (List ℕ))
    → report_lines name (settle_if due drawn over old m).report ++ more ≡ report_lines name (settle_if due drawn over old n).report ++ rest
    → ((settle_if due drawn over old m).marks ≡ (settle_if due drawn over old n).marks) × (more ≡ rest)
pane_told false name drawn over old m n more rest e = (refl, e)
pane_told true name drawn over old true true more rest e = (refl, behind_of (memory_line name) (memory_line name) more rest e)
pane_told true name drawn over old true false more rest e =
    absurd (memory_alone name drawn.outcome (kept_among over drawn) (count_of (marks_in old)) more rest e)
pane_told true name drawn over old false true more rest e =
    absurd (memory_alone name drawn.outcome (kept_among over drawn) (count_of (marks_in old)) rest more (sym e))
pane_told true name drawn over old false false more rest e =
    (refl, rest_told name drawn.outcome (kept_among over drawn) (count_of (marks_in old)) more rest e)

module _ (g : Ground) (w : Which) (state : StateAt) where
  -- the lines of all panes, and what comes behind them
  abbrev lines_then : List PaneDecl → List PaneStep → List (List ℕ) → List (List ℕ)
  lines_then ds steps rest = pane_lines ds (map report_after steps) ++ rest

  one_told : (d : PaneDecl) (o : PaneMarks) (m n : Bool) (ds : List PaneDecl) (ss ts : List PaneStep) (xs ys : List (List ℕ))
      → lines_then (d ∷ ds) (settle_pane g w state d o m ∷ ss) xs ≡ lines_then (d ∷ ds) (settle_pane g w state d o n ∷ ts) ys
      → ((settle_pane g w state d o m).marks ≡ (settle_pane g w state d o n).marks) × (lines_then ds ss xs ≡ lines_then ds ts ys)
  one_told d o m n ds ss ts xs ys e =
      let mine = report_lines d.name (settle_pane g w state d o m).report in
      let its = report_lines d.name (settle_pane g w state d o n).report in
      let here : mine ++ lines_then ds ss xs ≡ its ++ lines_then ds ts ys =
      sym (append_assoc mine (pane_lines ds (map report_after ss)) xs) ∙ (e ∙ append_assoc its (pane_lines ds (map report_after ts)) ys) in
      pane_told (is_due w o) d.name (pane_draw g.limits g.app g.types d state) (reused w o) o m n (lines_then ds ss xs) (lines_then ds ts ys) here

  cons_marks : (s t : PaneStep) (ss ts : List PaneStep) → s.marks ≡ t.marks → map marks_after ss ≡ map marks_after ts
      → map marks_after (s ∷ ss) ≡ map marks_after (t ∷ ts)
  cons_marks s t ss ts e f = ap (λ (m : PaneMarks). m ∷ map marks_after ss) e ∙ ap (λ (ms : List PaneMarks). t.marks ∷ ms) f

  -- equal lines mean equal marks, and the same lines behind them
  panes_told : (ds : List PaneDecl) (os : List PaneMarks) (ms ns : List Bool) (xs ys : List (List ℕ))
      → lines_then ds (settle_panes g w state ds os ms) xs ≡ lines_then ds (settle_panes g w state ds os ns) ys
      → (map marks_after (settle_panes g w state ds os ms) ≡ map marks_after (settle_panes g w state ds os ns)) × (xs ≡ ys)
  panes_told [] os ms ns xs ys e = (refl, e)
  panes_told (d ∷ ds) [] ms ns xs ys e = (refl, e)
  panes_told (d ∷ ds) (o ∷ os) [] [] xs ys e =
      let one = one_told d o false false ds (settle_panes g w state ds os []) (settle_panes g w state ds os []) xs ys e in
      let rest = panes_told ds os [] [] xs ys one.1 in
      (cons_marks (settle_pane g w state d o false) (settle_pane g w state d o false) (settle_panes g w state ds os []) (settle_panes g w state ds os []) one.0 rest.0, rest.1)
  panes_told (d ∷ ds) (o ∷ os) (m ∷ ms) [] xs ys e =
      let one = one_told d o m false ds (settle_panes g w state ds os ms) (settle_panes g w state ds os []) xs ys e in
      let rest = panes_told ds os ms [] xs ys one.1 in
      (cons_marks (settle_pane g w state d o m) (settle_pane g w state d o false) (settle_panes g w state ds os ms) (settle_panes g w state ds os []) one.0 rest.0, rest.1)
  panes_told (d ∷ ds) (o ∷ os) [] (n ∷ ns) xs ys e =
      let one = one_told d o false n ds (settle_panes g w state ds os []) (settle_panes g w state ds os ns) xs ys e in
      let rest = panes_told ds os [] ns xs ys one.1 in
      (cons_marks (settle_pane g w state d o false) (settle_pane g w state d o n) (settle_panes g w state ds os []) (settle_panes g w state ds os ns) one.0 rest.0, rest.1)
  panes_told (d ∷ ds) (o ∷ os) (m ∷ ms) (n ∷ ns) xs ys e =
      let one = one_told d o m n ds (settle_panes g w state ds os ms) (settle_panes g w state ds os ns) xs ys e in
      let rest = panes_told ds os ms ns xs ys one.1 in
      (cons_marks (settle_pane g w state d o m) (settle_pane g w state d o n) (settle_panes g w state ds os ms) (settle_panes g w state ds os ns) one.0 rest.0, rest.1)

  -- ---- no line of a pane and not that of the wire has eight bytes, as the line of want of memory has

  not_eight : (name line rest : List ℕ) → line ≡ named_line name rest → 6 ≤ length rest → length line ≡ 8 → ⊥
  not_eight name line rest e some eight =
      omega (arith, some, ap length e, eight, length-append (codes "pane " ++ name) rest, length-append (codes "pane ") name)

  shown_not_eight : (name : List ℕ) (kept moved drawn erased : ℕ) → length (report_line name kept moved drawn erased) ≡ 8 → ⊥
  shown_not_eight name kept moved drawn erased eight =
      not_eight name (report_line name kept moved drawn erased) (report_rest kept moved drawn erased) (report_named name kept moved drawn erased)
      (omega (arith, length-append (codes " kept ") (decimal kept ++ (codes " moved " ++ (decimal moved ++ report_tail drawn erased))))) eight

  report_not_eight : (name : List ℕ) (shown : Outcome DrawingAt) (ks : List KeptAt) (erased : ℕ) (met : Bool) (more rest : List (List ℕ)) (x : List ℕ)
      → report_lines name (report_settled shown ks erased met) ++ more ≡ x ∷ rest → length x ≡ 8 → ⊥
  report_not_eight name shown ks erased true more rest x e eight =
      not_eight name (memory_line name) (codes " memory") refl (omega arith) (ap length (first_of (memory_line name) x more rest e) ∙ eight)
  report_not_eight name (Gives s cost deepest) ks erased false more rest x e eight =
      let new = count_of s.part.marks - items_kept ks in
      let gone = erased - items_kept ks in
      let line = report_line name (count_still ks) (count_moved ks) new gone in
      shown_not_eight name (count_still ks) (count_moved ks) new gone (ap length (first_of line x more rest e) ∙ eight)
  report_not_eight name (Traps kind cost deepest) ks erased false more rest x e eight =
      not_eight name (trap_line name kind) (codes " trap " ++ decimal kind) (trap_named name kind) (omega (arith, length-append (codes " trap ") (decimal kind)))
      (ap length (first_of (trap_line name kind) x more rest e) ∙ eight)

  wire_not_eight : (wire : Bool) (rest : List (List ℕ)) (x : List ℕ) → wire_lines wire ≡ x ∷ rest → length x ≡ 8 → ⊥
  wire_not_eight true rest x e eight = omega (arith, ap length (first_of (codes "! wire") x [] rest e), eight)
  wire_not_eight false rest x e eight = no_first x rest e

  pane_not_eight : (due : Bool) (name : List ℕ) (drawn : DrawOutcome) (over : List (Mark Item)) (old : PaneMarks) (met : Bool) (more rest : List (List ℕ)) (x : List ℕ)
      → (more ≡ x ∷ rest → ⊥) → length x ≡ 8 → report_lines name (settle_if due drawn over old met).report ++ more ≡ x ∷ rest → ⊥
  pane_not_eight true name drawn over old met more rest x f eight e =
      report_not_eight name drawn.outcome (kept_among over drawn) (count_of (marks_in old)) met more rest x e eight
  pane_not_eight false name drawn over old met more rest x f eight e = f e

  -- what is said behind the own replies does not begin with a line of eight bytes
  behind_not_eight : (ds : List PaneDecl) (os : List PaneMarks) (ms : List Bool) (wire : Bool) (rest : List (List ℕ)) (x : List ℕ) → length x ≡ 8
      → lines_then ds (settle_panes g w state ds os ms) (wire_lines wire) ≡ x ∷ rest → ⊥
  behind_not_eight [] os ms wire rest x eight e = wire_not_eight wire rest x e eight
  behind_not_eight (d ∷ ds) [] ms wire rest x eight e = wire_not_eight wire rest x e eight
  behind_not_eight (d ∷ ds) (o ∷ os) [] wire rest x eight e =
      let ss = settle_panes g w state ds os [] in
      let mine = report_lines d.name (settle_pane g w state d o false).report in
      pane_not_eight (is_due w o) d.name (pane_draw g.limits g.app g.types d state) (reused w o) o false (lines_then ds ss (wire_lines wire)) rest x
      (behind_not_eight ds os [] wire rest x eight) eight (sym (append_assoc mine (pane_lines ds (map report_after ss)) (wire_lines wire)) ∙ e)
  behind_not_eight (d ∷ ds) (o ∷ os) (m ∷ ms) wire rest x eight e =
      let ss = settle_panes g w state ds os ms in
      let mine = report_lines d.name (settle_pane g w state d o m).report in
      pane_not_eight (is_due w o) d.name (pane_draw g.limits g.app g.types d state) (reused w o) o m (lines_then ds ss (wire_lines wire)) rest x
      (behind_not_eight ds os ms wire rest x eight) eight (sym (append_assoc mine (pane_lines ds (map report_after ss)) (wire_lines wire)) ∙ e)

length_row : (panes : List Shown) (y x count : ℕ) → length (row_from glyph_in panes y x count) ≡ count
length_row panes y x zero = refl
length_row panes y x (suc more) = ap suc (length_row panes y (x + 1) more)

-- ---- two steps of one gesture

wire_same : (x y : Bool) → wire_lines x ≡ wire_lines y → x ≡ y
wire_same true true e = refl
wire_same false false e = refl
wire_same true false e = absurd (no_first (codes "! wire") [] (sym e))
wire_same false true e = absurd (no_first (codes "! wire") [] e)

world_told : (w : World) (ps qs : List PaneMarks) (x y : Bool) → ps ≡ qs → x ≡ y
    → ◌≡◌ {A = World} (record w { panes = ps; stale = x }) (record w { panes = qs; stale = y })
world_told w ps qs x y e f =
    let of : List PaneMarks → Bool → World = λ ms b. record { slots = w.slots; line = w.line; enabled = w.enabled; dialog = w.dialog; panes = ms; stale = b } in
    ap (λ (ms : List PaneMarks). of ms x) e ∙ ap (λ (b : Bool). of qs b) f

-- what is said behind the own replies
abbrev behind_lines : Ground → Handled → List Bool → Bool → List (List ℕ)
behind_lines g h mets wire = pane_lines (panes_of g.app) (map report_after (settled_behind g h mets)) ++ wire_lines wire

abbrev behind : Ground → Handled → List Bool → Bool → World
behind g h mets wire = (next_behind g h (settled_behind g h mets) wire).world

-- behind one handling
handled_once : (g : Ground) (h : Handled) (ms ns : List Bool) (x y : Bool) → behind_lines g h ms x ≡ behind_lines g h ns y → behind g h ms x ≡ behind g h ns y
handled_once g h ms ns x y e =
    let told = panes_told g (which_after h.after) (state_in g.app h.world) (panes_of g.app) h.world.panes ms ns (wire_lines x) (wire_lines y) e in
    world_told h.world (map marks_after (settled_behind g h ms)) (map marks_after (settled_behind g h ns)) x y told.0 (wire_same x y told.1)

-- replies that do not begin with want of memory are told from it
told_apart : (g : Ground) (h : Handled) (ns : List Bool) (y : Bool) (replies more : List (List ℕ)) → IsNotMemory replies
    → memory_said ∷ more ≡ replies ++ behind_lines g h ns y → ⊥
told_apart g h ns y [] more not e =
    behind_not_eight g (which_after h.after) (state_in g.app h.world) (panes_of g.app) h.world.panes ns y more memory_said refl (sym e)
told_apart g h ns y (r ∷ rs) more not e = not (first_of memory_said r more (rs ++ behind_lines g h ns y) e)

-- a frame may show the very words
frame_told : (g : Ground) (w : World) (ms ns : List Bool) (x y : Bool) (panes : List Shown) (width from count : ℕ)
    → memory_said ∷ behind_lines g (refuse w 0 memory_said) ms x ≡ rows_from glyph_in panes width from count ++ behind_lines g (refuse w 0 memory_said) ns y
    → behind g (refuse w 0 memory_said) ms x ≡ behind g (refuse w 0 memory_said) ns y
frame_told g w ms ns x y panes width from zero e =
    absurd (told_apart g (refuse w 0 memory_said) ns y [] (behind_lines g (refuse w 0 memory_said) ms x) tt e)
frame_told g w ms ns x y panes width from (suc zero) e =
    handled_once g (refuse w 0 memory_said) ms ns x y
    (behind_of memory_said (told_row glyph_in panes width from) (behind_lines g (refuse w 0 memory_said) ms x) (behind_lines g (refuse w 0 memory_said) ns y) e)
frame_told g w ms ns x y panes width from (suc (suc more)) e =
    let h = refuse w 0 memory_said in
    let row = told_row glyph_in panes width from in
    let second = told_row glyph_in panes width (from + 1) in
    let others = rows_from glyph_in panes width (from + 1 + 1) more ++ behind_lines g h ns y in
    let wide : 8 ≡ width = ap length (first_of memory_said row (behind_lines g h ms x) (second ∷ others) e) ∙ length_row panes from 0 width in
    let eight : length second ≡ 8 = length_row panes (from + 1) 0 width ∙ sym wide in
    absurd (behind_not_eight g (which_after h.after) (state_in g.app h.world) (panes_of g.app) h.world.panes ms x others second eight
    (behind_of memory_said row (behind_lines g h ms x) (second ∷ others) e))

-- a handling that met want of memory, and one that did not
apart_told : (g : Ground) (w : World) (act : Gesture) (ms ns : List Bool) (x y : Bool)
    → memory_said ∷ behind_lines g (refuse w 0 memory_said) ms x ≡ (handled g w act).replies ++ behind_lines g (handled g w act) ns y
    → behind g (refuse w 0 memory_said) ms x ≡ behind g (handled g w act) ns y
apart_told g w (gesture.«Type» text) ms ns x y e =
    let h = handled g w (gesture.«Type» text) in
    absurd (told_apart g h ns y h.replies _
    (not_memory_if (nat_le (length (w.line ++ typed text)) MAX_ELEMENTS) (tell (record w { line = w.line ++ typed text }) 0 []) (refuse w 0 (codes "! full")) tt not_full) e)
apart_told g w gesture.Return ms ns x y e =
    let h = handled g w gesture.Return in
    absurd (told_apart g h ns y h.replies _ (not_returned g w w.dialog) e)
apart_told g w gesture.Rubout ms ns x y e =
    let h = handled g w gesture.Rubout in
    absurd (told_apart g h ns y h.replies _ tt e)
apart_told g w gesture.Clear ms ns x y e =
    let h = handled g w gesture.Clear in
    absurd (told_apart g h ns y h.replies _ tt e)
apart_told g w gesture.Frame ms ns x y e = frame_told g w ms ns x y (shown_in g w) g.app.frame.width 0 g.app.frame.height e
apart_told g w gesture.Inks ms ns x y e =
    let h = handled g w gesture.Inks in
    absurd (told_apart g h ns y h.replies _ (not_inks (shown_in g w) g.app.frame.width 0 g.app.frame.height) e)
apart_told g w (gesture.Stroke name) ms ns x y e =
    let h = handled g w (gesture.Stroke name) in
    absurd (told_apart g h ns y h.replies _ (not_pressed_by g w name w.dialog) e)
apart_told g w (gesture.History name) ms ns x y e =
    let h = handled g w (gesture.History name) in
    absurd (told_apart g h ns y h.replies _ (not_history w (panes_of g.app) w.panes name) e)
apart_told g w (gesture.Point p) ms ns x y e =
    let h = handled g w (gesture.Point p) in
    absurd (told_apart g h ns y h.replies _ (not_with (point_at g w p) w (panes_of g.app) w.panes p.pane (not_pointed g w p)) e)
apart_told g w gesture.Force ms ns x y e =
    let h = handled g w gesture.Force in
    absurd (told_apart g h ns y h.replies _ tt e)

told_by : (g : Ground) (w : World) (act : Gesture) (a b : Bool) (ms ns : List Bool) (x y : Bool)
    → (handled_or_not g w act a).replies ++ behind_lines g (handled_or_not g w act a) ms x ≡ (handled_or_not g w act b).replies ++ behind_lines g (handled_or_not g w act b) ns y
    → behind g (handled_or_not g w act a) ms x ≡ behind g (handled_or_not g w act b) ns y
told_by g w act true true ms ns x y e =
    let h = refuse w 0 memory_said in handled_once g h ms ns x y (behind_same h.replies (behind_lines g h ms x) (behind_lines g h ns y) e)
told_by g w act false false ms ns x y e =
    let h = handled g w act in handled_once g h ms ns x y (behind_same h.replies (behind_lines g h ms x) (behind_lines g h ns y) e)
told_by g w act true false ms ns x y e = apart_told g w act ms ns x y e
told_by g w act false true ms ns x y e = sym (apart_told g w act ns ms y x (sym e))

pub told_by_lines : IsToldByLines
told_by_lines g w act first second current e = told_by g w act first.handling second.handling first.panes second.panes first.wire second.wire e
