-- Displays over old histories: what is built, what is counted, and that it is faithful.
use Rattle.std.proofs.Common.{◌≡◌, ◌∙◌, ap, subst, sym, refl, ℕ, ◌+◌, List, [], Err, arith}
use Rattle.cl_syntax.specs.ShapeTree.{ShapeTree, shape_trees_of}
use Rattle.cl_application.specs.declared.applications.App.{App}
use Rattle.cl_eval.specs.Outcome.{Gives, Outcome, RisesBy, Traps, cost_of}
use Rattle.cl_eval.specs.Slots.{Env, Slots}
use Rattle.cl_eval.specs.TypeMeanings.{AreTexts, TypeMeanings}
use Rattle.cl_eval.specs.declared.metering.Limits.{Limits}
use Rattle.cl_eval.specs.declared.metering.Meter.{Meter}
use Rattle.cl_eval.specs.declared.metering.Stop.{Stop}
use Rattle.cl_eval.specs.declared.metering.Stop.TheVariants.{Trap}
use Rattle.cl_medium.specs.Items.{Item, move_item}
use Rattle.cl_record.specs.Marks.{history_marks}
use Rattle.cl_record.specs.Shifts.{still}
use Rattle.cl_record.specs.Trees.{Tree, trees_of}
use Rattle.cl_damage.specs.Keeps.{Keeps, none}
use Rattle.cl_display.specs.Drawings.{DrawingAt, blank_drawing, drawing_of}
use Rattle.cl_display.specs.Fresh.{Scene, draws, in_order}
use Rattle.cl_display.specs.Outcomes.{DrawOutcome}
use Rattle.cl_display.specs.Script.{fresh, history_of, script, trap_history, whole_allowance}
use Rattle.cl_display.specs.declared.drawings.Drawing.{Drawing}
use Rattle.cl_display.proofs.DisplayLemmas.{few-shown}
use Rattle.cl_reuse.specs.Kept.{KeptAt, costs, count_moved, count_still, items_kept, kept, work}
use Rattle.cl_reuse.specs.ReadValues.{scene_on}
use Rattle.cl_reuse.specs.Records.{kept_among, records_of}
use Rattle.cl_reuse.specs.Sited.{AreOwn}
use Rattle.cl_reuse.proofs.MarkedNames.{display-named}
use Rattle.cl_reuse.proofs.ScriptFaith.{script-faithful}
use Rattle.cl_reuse.proofs.ToldKept.{kept-told}
use Rattle.cl_untouched.specs.Keeps.{keeps_of}
use Rattle.cl_updating.proofs.RedrawLemmas.{behind-none}
use Rattle.cl_updating.specs.Levels.{kept_from, level_at}
use Rattle.cl_updating.specs.Redisplays.{HasKeeps, IsBuilt, IsFaithfulOf, IsFewOf, IsOnceOf, IsTrapped, Redisplays, met_memory, reuse_of}
use Rattle.cl_updating.specs.Redraws.{Redrawn}
use Rattle.cl_updating.specs.Tallies.{Counts, KeptIn}
use Rattle.cl_updating.specs.declared.redisplaying.Redisplayed.{Redisplayed}
use Rattle.cl_updating.specs.declared.redisplaying.Redisplayed.TheVariants as redisplayed
use Rattle.cl_updating.specs.declared.redisplaying.Reuse.{Reuse}
use Rattle.cl_updating.specs.declared.tallies.Tally.{Tally}

-- nothing was counted yet
abbrev pub zero : Tally
zero = record { steps = 0; kept = 0; moved = 0; items = 0; keeps = none }

-- a trap is what the outcome is, and its counts are told
pub trap-redrawn : (k : KeptIn) (x : Stop) (kind : ℕ) (s : DrawingAt) (c : ℕ) (n : Meter) (a b : Tally) (o : Outcome DrawingAt) → x ≡ Trap kind
    → Redrawn k (Err x) s c n a b o → (o ≡ Traps kind n.cost n.deepest) × Counts k c n.cost a b
trap-redrawn k x kind s c n a b o e q = subst (λ (y : Stop). Redrawn k (Err y) s c n a b o) e q

-- of a display that trapped no more is said
pub trapped-keeps : (kind : ℕ) (ks : Keeps) (r : Redisplayed) → IsTrapped r kind → HasKeeps r ks
trapped-keeps kind ks (redisplayed.Built h u k) b = absurd b
trapped-keeps kind ks (redisplayed.Trapped h k) b = tt
trapped-keeps kind ks redisplayed.Memory b = tt

module _ (limits : Limits) (scene : Scene) (forms : List ShapeTree) (env : Env) (old : List (Tree Item)) where
  -- the whole display
  abbrev pub whole : DrawOutcome
  whole = in_order (draws limits.depth (whole_allowance limits) scene) 0 env (shape_trees_of forms) blank_drawing 0 0

  whole-fresh : fresh limits scene forms env ≡ whole
  unfolding fresh
  whole-fresh = refl

  -- what is kept
  abbrev pub all : KeptIn
  all = kept_from (level_at still old) whole.walk

  -- the same in a row, by the marks of the old history
  abbrev among : List KeptAt
  among = kept_among (history_marks move_item old) (fresh limits scene forms env)

  among-is : kept old whole ≡ among
  among-is = sym (kept-told old (fresh limits scene forms env) ∙ ap (λ (o : DrawOutcome). kept old o) whole-fresh)

  numbers : (n : ℕ) (t : Tally) → Counts all 0 n zero t
      → ◌≡◌ {A = Reuse} (record { kept = t.kept; moved = t.moved; items = t.items }) (reuse_of among)
  numbers n t q =
      let k : t.kept ≡ count_still (kept old whole) = omega (arith, q.kept) in
      let m : t.moved ≡ count_moved (kept old whole) = omega (arith, q.moved) in
      let i : t.items ≡ items_kept (kept old whole) = omega (arith, q.items) in
      (λ j. record { kept = k j; moved = m j; items = i j }) ∙ ap (λ (ks : List KeptAt). reuse_of ks) among-is

  -- the steps are the work
  steps-work : (n : ℕ) (t : Tally) → cost_of whole.outcome ≡ n → Counts all 0 n zero t
      → t.steps ≡ work (records_of (history_marks move_item old)) (fresh limits scene forms env)
  steps-work n t e q =
      let kept_costs : costs among ≡ costs (kept old whole) = ap (λ (ks : List KeptAt). costs ks) (sym among-is) in
      let cost : cost_of (fresh limits scene forms env).outcome ≡ n = ap (λ (o : DrawOutcome). cost_of o.outcome) whole-fresh ∙ e in
      omega (arith, kept_costs, cost, q.steps)

  rises : (from to n : ℕ) (t : Tally) → cost_of whole.outcome ≡ n → Counts all 0 n zero t → to ≡ from + t.steps
      → to ≡ from + work (records_of (history_marks move_item old)) (fresh limits scene forms env)
  rises from to n t e q r = omega (arith, q.steps, r, steps-work n t e q)

  -- ---- built

  module _ (d : Drawing) (t : Tally) (m : Meter) (outcome : whole.outcome ≡ Gives (drawing_of d) m.cost m.deepest) (counts : Counts all 0 m.cost zero t) where
    pub built-redisplays : (r : Redisplayed) → IsBuilt r d t → Redisplays r (fresh limits scene forms env).outcome among
    built-redisplays (redisplayed.Built h u k) b =
        let came : (fresh limits scene forms env).outcome ≡ Gives (drawing_of d) m.cost m.deepest =
        ap (λ (o : DrawOutcome). o.outcome) whole-fresh ∙ outcome in
        subst (λ (o : Outcome DrawingAt). Redisplays (redisplayed.Built h u k) o among) (sym came)
        (ap (λ (ts : List (Tree Item)). history_marks move_item ts) b.history, b.reuse ∙ numbers m.cost t counts)
    built-redisplays (redisplayed.Trapped h k) b = absurd b
    built-redisplays redisplayed.Memory b = absurd b

    pub built-few : (r : Redisplayed) → IsBuilt r d t → IsFewOf r
    built-few (redisplayed.Built h u k) b = rw b.history (few-shown limits scene forms env d m.cost m.deepest outcome)
    built-few (redisplayed.Trapped h k) b = absurd b
    built-few redisplayed.Memory b = absurd b

    pub built-keeps : (r : Redisplayed) → IsBuilt r d t → HasKeeps r (keeps_of still (trees_of old) (fresh limits scene forms env).walk)
    built-keeps (redisplayed.Built h u k) b =
        b.keeps ∙ counts.keeps ∙ behind-none all.keeps ∙ ap (λ (o : DrawOutcome). keeps_of still (trees_of old) o.walk) (sym whole-fresh)
    built-keeps (redisplayed.Trapped h k) b = absurd b
    built-keeps redisplayed.Memory b = absurd b

    pub built-ledger : (r : Redisplayed) → IsBuilt r d t → (from to : ℕ) → to ≡ from + t.steps
        → RisesBy (met_memory r) from to (work (records_of (history_marks move_item old)) (fresh limits scene forms env))
    built-ledger (redisplayed.Built h u k) b from to e =
        rises from to m.cost t (ap (λ (o : Outcome DrawingAt). cost_of o) outcome) counts e
    built-ledger (redisplayed.Trapped h k) b from to e = absurd b
    built-ledger redisplayed.Memory b from to e = absurd b

  -- ---- trapped

  module _ (kind : ℕ) (t : Tally) (m : Meter) (outcome : whole.outcome ≡ Traps kind m.cost m.deepest) (counts : Counts all 0 m.cost zero t) where
    pub trapped-redisplays : (r : Redisplayed) → IsTrapped r kind → Redisplays r (fresh limits scene forms env).outcome among
    trapped-redisplays (redisplayed.Built h u k) b = absurd b
    trapped-redisplays (redisplayed.Trapped h k) b =
        let came : (fresh limits scene forms env).outcome ≡ Traps kind m.cost m.deepest =
        ap (λ (o : DrawOutcome). o.outcome) whole-fresh ∙ outcome in
        subst (λ (o : Outcome DrawingAt). Redisplays (redisplayed.Trapped h k) o among) (sym came) (b.same, b.marks)
    trapped-redisplays redisplayed.Memory b = tt

    pub trapped-ledger : (r : Redisplayed) → IsTrapped r kind → (from to : ℕ) → to ≡ from + t.steps
        → RisesBy (met_memory r) from to (work (records_of (history_marks move_item old)) (fresh limits scene forms env))
    trapped-ledger (redisplayed.Built h u k) b from to e = absurd b
    trapped-ledger (redisplayed.Trapped h k) b from to e =
        rises from to m.cost t (ap (λ (o : Outcome DrawingAt). cost_of o) outcome) counts e
    trapped-ledger redisplayed.Memory b from to e =
        let rose = rises from to m.cost t (ap (λ (o : Outcome DrawingAt). cost_of o) outcome) counts e in
        (omega (arith, rose), omega (arith, rose))

-- ---- faithful, and named once

module _ (limits : Limits) (app : App) (types : TypeMeanings) (slots : Slots) (forms : List ShapeTree) (env : Env) where
  -- the marks of what is built
  built-marks : (d : Drawing) (cost reach : ℕ) → (whole limits (scene_on app slots types) forms env []).outcome ≡ Gives (drawing_of d) cost reach
      → (h : List (Tree Item)) → h ≡ d.part.nodes → history_marks move_item h ≡ script limits (scene_on app slots types) forms env
  built-marks d cost reach outcome h e =
      let came : (fresh limits (scene_on app slots types) forms env).outcome ≡ Gives (drawing_of d) cost reach =
      ap (λ (o : DrawOutcome). o.outcome) (whole-fresh limits (scene_on app slots types) forms env []) ∙ outcome in
      ap (λ (ts : List (Tree Item)). history_marks move_item ts) e ∙ sym (ap (λ (o : Outcome DrawingAt). history_of o) came)

  -- those of what trapped
  trapped-marks : (kind cost reach : ℕ) → (whole limits (scene_on app slots types) forms env []).outcome ≡ Traps kind cost reach
      → (h : List (Tree Item)) → history_marks move_item h ≡ trap_history kind
      → history_marks move_item h ≡ script limits (scene_on app slots types) forms env
  trapped-marks kind cost reach outcome h m =
      let came : (fresh limits (scene_on app slots types) forms env).outcome ≡ Traps kind cost reach =
      ap (λ (o : DrawOutcome). o.outcome) (whole-fresh limits (scene_on app slots types) forms env []) ∙ outcome in
      m ∙ sym (ap (λ (o : Outcome DrawingAt). history_of o) came)

  module _ (own : AreOwn app (shape_trees_of forms)) where
    pub built-faithful : AreTexts app types.presents → (d : Drawing) (t : Tally) (cost reach : ℕ)
        → (whole limits (scene_on app slots types) forms env []).outcome ≡ Gives (drawing_of d) cost reach
        → (r : Redisplayed) → IsBuilt r d t → IsFaithfulOf app types r
    built-faithful texts d t cost reach outcome (redisplayed.Built h u k) b =
        script-faithful limits app types slots forms env texts own h b.sound (built-marks d cost reach outcome h b.history)
    built-faithful texts d t cost reach outcome (redisplayed.Trapped h k) b = absurd b
    built-faithful texts d t cost reach outcome redisplayed.Memory b = absurd b

    pub trapped-faithful : AreTexts app types.presents → (kind cost reach : ℕ)
        → (whole limits (scene_on app slots types) forms env []).outcome ≡ Traps kind cost reach
        → (r : Redisplayed) → IsTrapped r kind → IsFaithfulOf app types r
    trapped-faithful texts kind cost reach outcome (redisplayed.Built h u k) b = absurd b
    trapped-faithful texts kind cost reach outcome (redisplayed.Trapped h k) b =
        script-faithful limits app types slots forms env texts own h b.sound (trapped-marks kind cost reach outcome h b.marks)
    trapped-faithful texts kind cost reach outcome redisplayed.Memory b = tt

    pub built-once : (d : Drawing) (t : Tally) (cost reach : ℕ)
        → (whole limits (scene_on app slots types) forms env []).outcome ≡ Gives (drawing_of d) cost reach
        → (r : Redisplayed) → IsBuilt r d t → IsOnceOf r
    built-once d t cost reach outcome (redisplayed.Built h u k) b =
        display-named limits app types slots forms env own h (built-marks d cost reach outcome h b.history)
    built-once d t cost reach outcome (redisplayed.Trapped h k) b = absurd b
    built-once d t cost reach outcome redisplayed.Memory b = absurd b

    pub trapped-once : (kind cost reach : ℕ) → (whole limits (scene_on app slots types) forms env []).outcome ≡ Traps kind cost reach
        → (r : Redisplayed) → IsTrapped r kind → IsOnceOf r
    trapped-once kind cost reach outcome (redisplayed.Built h u k) b = absurd b
    trapped-once kind cost reach outcome (redisplayed.Trapped h k) b =
        display-named limits app types slots forms env own h (trapped-marks kind cost reach outcome h b.marks)
    trapped-once kind cost reach outcome redisplayed.Memory b = tt
