-- Old updates that are found at an opening: what is counted where one is kept, and where its body is drawn over what it holds.
use Rattle.std.proofs.Common.{◌≡◌, ◌∙◌, ap, subst, sym, refl, ℕ, ◌+◌, ◌-◌, ◌≤◌, ◌==◌, ◌&&◌, nat_le, Bool, true, false, if◌then◌else◌, inl, Bor, List}
use Rattle.std.proofs.Common.{[], append-nil, Option, Some, None, Result, Ok, Err, arith}
use Rattle.std.specs.Prelude.{IfSome, max}
use Rattle.std.proofs.lemmas.Bool.Decides.{nat_tests}
use Rattle.cl_value.specs.Data.{Data}
use Rattle.cl_region.proofs.Corners.{and_left, and_right}
use Rattle.cl_region.specs.Places.{move_rect}
use Rattle.cl_region.specs.declared.rects.Shift.{Shift}
use Rattle.cl_syntax.specs.declared.sites.Site.{Site}
use Rattle.cl_syntax.specs.ExprTree.{ExprTrees}
use Rattle.cl_syntax.specs.ShapeTree as shape
use Rattle.cl_syntax.specs.ShapeTree.{ShapeTrees}
use Rattle.cl_syntax.specs.UpdateTree.{UpdateTree}
use Rattle.cl_application.specs.declared.applications.App.{App}
use Rattle.cl_cover.specs.Updates.{AreCovered}
use Rattle.cl_eval.specs.Agrees.{Comes, always}
use Rattle.cl_eval.specs.Outcome.{Gives, Outcome}
use Rattle.cl_eval.specs.Slots.{Env, Slots}
use Rattle.cl_eval.specs.TypeMeanings.{AreTexts, TypeMeanings}
use Rattle.cl_eval.specs.declared.metering.Meter.{Meter}
use Rattle.cl_eval.specs.declared.metering.Stop.{Stop}
use Rattle.cl_eval.specs.declared.metering.Stop.TheVariants.{Trap, Memory}
use Rattle.cl_medium.specs.Items.{Item, move_item}
use Rattle.cl_record.specs.Heads.{HeadAt, MeasuresAt}
use Rattle.cl_record.specs.Marks.{Mark, marks_of_all}
use Rattle.cl_record.specs.Shifts.{join_shifts, still}
use Rattle.cl_record.specs.Trees.{Tree, Trees, trees_of}
use Rattle.cl_record.specs.Trees as records
use Rattle.cl_display.specs.Drawings.{DrawingAt, drawing_of, is_in_range}
use Rattle.cl_display.specs.declared.drawings.Drawing.{Drawing}
use Rattle.cl_display.specs.declared.updates.Key.{Key}
use Rattle.cl_display.specs.Fresh.{Allowance, Scene, bodies_on, draws_body, left_over}
use Rattle.cl_display.specs.Outcomes.{DrawOutcome}
use Rattle.cl_display.specs.Updates.{KeyAt, end_update, enter_body, head_at, key_at, key_of, leave_update, opening_at}
use Rattle.cl_display.specs.Walks.{OpeningAt}
use Rattle.cl_reuse.specs.Keeping.{EndsAs, kept_head, kept_part, limits_fit, margin_fits, may_keep, measures_fit, origin_fits, same_cache, shift_at}
use Rattle.cl_damage.specs.Keeps as keeps
use Rattle.cl_damage.specs.Keeps.{Keeps, with_last}
use Rattle.cl_reuse.specs.Kept.{KeptAt, OldUpdate, count_moved, count_still, found, found_in, is_that, items_kept, kept_at, kept_of, or_then}
use Rattle.cl_untouched.specs.Keeps.{at_opening, keeps_of}
use Rattle.cl_reuse.specs.ReadValues.{SeesReads, scene_on}
use Rattle.cl_reuse.specs.Recorded.{AreFaithful, IsRecorded}
use Rattle.cl_reuse.specs.Sited.{AreApart, HoldCache, Sited}
use Rattle.cl_reuse.proofs.KeepLemmas.{kept-as-recorded, kept-joined}
use Rattle.cl_reuse.proofs.PayForms.{FoundAs, found-among, no-cache}
use Rattle.cl_updating.specs.Levels.{LevelAt, kept_from, old_of}
use Rattle.cl_updating.specs.Keeping.{KeepsUpdate}
use Rattle.cl_updating.specs.Redraws.{IsOwn, Redrawn, Redraws, StandsFor}
use Rattle.cl_updating.specs.Tallies.{Counts, KeptIn, LeavesTrapped, kept_anew, kept_one, put_behind, with_kept}
use Rattle.cl_updating.proofs.RedrawLemmas.{behind-none}
use Rattle.cl_updating.specs.declared.levels.Old.{Old}
use Rattle.cl_updating.specs.declared.tallies.Tally.{Tally}

-- recorded updates stand for the body of an update whose cache came to values
pub stands-cached : (app : App) (slots : Slots) (types : TypeMeanings) → AreTexts app types.presents → SeesReads app types.presents → AreCovered app
    → AreApart app → (u : UpdateTree) (env : Env) (body : ShapeTrees) → IsOwn app (shape.Update u body) → (id : Data) (cache : Option (List Data))
    (ts : Option ExprTrees) → u.cache ≡ ts → ((ws : ExprTrees) → ts ≡ Some ws → IfSome cache (HoldCache app slots env ws))
    → (ts ≡ None → cache ≡ None) → StandsFor (scene_on app slots types) env body (key_at u id cache)
stands-cached app slots types texts sees covered apart u env body own id cache (Some ws) e holds without = record { ends = ends }
  where
    ends : (h : HeadAt) (inside : List (Mark Item)) (o : OpeningAt) → IfSome h.cache (IsRecorded app types h inside)
        → may_keep h o ≡ true → u.site ≡ h.site → o.cache ≡ cache → EndsAs h inside (shift_at h o) o.ambient
        ((bodies_on o.depth (scene_on app slots types)).draw (record { budget = o.budget; weight = o.weight }) env body
        (record { ambient = o.ambient; weight = 0; siblings = []; part = Rattle.cl_display.specs.Drawings.start_part o.ambient })).outcome
    ends h inside o r keep site c =
        let w : Sited = record { site = u.site; cache = ws; body = body } in
        let cached : IfSome o.cache (HoldCache app slots env ws) =
        subst (λ (x : Option (List Data)). IfSome x (HoldCache app slots env ws)) (sym c) (holds ws refl) in
        kept-as-recorded app types texts sees covered apart h inside o r keep w (own w (inl (refl, (e, refl)))) site slots env cached
stands-cached app slots types texts sees covered apart u env body own id cache None e holds without =
    record {
      ends = λ h inside o r keep site c. absurd
          (no-cache h.cache (ap (λ (x : Option (List Data)). same_cache h.cache x) (sym (c ∙ without refl))
          ∙ and_left (same_cache h.cache o.cache) (measures_fit (shift_at h o) h.measures o) keep));
    }

-- ---- over a level

-- one update more is kept
counts-kept : (old : OldUpdate) (o : OpeningAt) (c d : ℕ) (a : Tally) → d ≡ c + old.head.measures.cost
    → Counts (kept_one old o) c d a (with_kept old o a)
counts-kept old o c d a e =
    record {
      steps = omega (arith, e);
      kept = omega arith;
      moved = omega arith;
      items = omega arith;
      keeps = refl;
    }

module _ (scene : Scene) (env : Env) (body : ShapeTrees) (key : KeyAt) (l : LevelAt) (allowed : Allowance) (depth level : ℕ) (s : DrawingAt) (c d : ℕ) where
  abbrev pub opening : OpeningAt
  opening = opening_at key s (allowed.budget - c) (allowed.weight - s.weight) depth

  abbrev pub drawn : DrawOutcome
  drawn = (bodies_on depth scene).draw (left_over allowed c s.weight) env body (enter_body s)

  -- what is kept in the body, of these records
  abbrev pub kept_over : Shift → Trees Item → KeptIn
  kept_over there olds = record { list = kept_of there olds drawn.walk; keeps = keeps_of there olds drawn.walk }

  -- what is kept of the level
  kept-found : (u : Option OldUpdate) → found key.site key.id l.at (trees_of l.old) ≡ u
      → kept_from l (draws_body allowed (bodies_on depth scene) level env body key s c d).walk
      ≡ record {
        list = kept_at u opening (λ there olds. kept_of there olds drawn.walk);
        keeps = at_opening u opening (λ there olds. keeps_of there olds drawn.walk) keeps.none;
      }
  kept-found u e =
      rw e
      (ap (λ (ks : List KeptAt). kept_with ks (at_opening u opening (λ there olds. keeps_of there olds drawn.walk) keeps.none))
      (append-nil (kept_at u opening (λ there olds. kept_of there olds drawn.walk))))
    where
      kept_with : List KeptAt → Keeps → KeptIn
      kept_with ks more = record { list = ks; keeps = more }

  -- it is kept
  pub over-kept : (old : OldUpdate) → found key.site key.id l.at (trees_of l.old) ≡ Some old → may_keep old.head opening ≡ true
      → AreFaithful scene.app scene.types (trees_of l.old) → StandsFor scene env body key → (n : Meter) (a : Tally)
      → n.cost ≡ c + old.head.measures.cost → n.deepest ≡ max d (level + old.head.measures.reach)
      → Redraws l (Ok tt) (leave_update (kept_head (shift_at old.head opening) key old.head)
      (kept_part (shift_at old.head opening) old.head (marks_of_all move_item old.inside)) s) c n a (with_kept old opening a)
      (draws_body allowed (bodies_on depth scene) level env body key s c d)
  over-kept old e keep f stands n a cost deepest =
      let at : FoundAs scene.app scene.types key.site old =
      subst (λ (u : Option OldUpdate). IfSome u (FoundAs scene.app scene.types key.site)) e
      (found-among scene.app scene.types key.site key.id l.at (trees_of l.old) f) in
      let ends = stands.ends old.head (marks_of_all move_item old.inside) opening at.recorded keep at.same refl in
      let joined = kept-joined old.head (marks_of_all move_item old.inside) (shift_at old.head opening) key level s opening drawn c d ends in
      let kept : kept_from l (draws_body allowed (bodies_on depth scene) level env body key s c d).walk ≡ kept_one old opening =
      rw keep at (kept-found (Some old) e) in
      rw (kept, cost, deepest) (joined, counts-kept old opening c (c + old.head.measures.cost) a refl)

  -- it is not, so what it holds is the level below
  pub over-body : (old : OldUpdate) → found key.site key.id l.at (trees_of l.old) ≡ Some old → may_keep old.head opening ≡ false
      → (r : Result (Unit {0}) Stop) (t : DrawingAt) (n : Meter) (a b : Tally)
      → Redrawn (kept_anew (kept_over old.place old.inside)) r t c n a b (end_update key level s drawn.outcome c d)
      → Redraws l r t c n a b (draws_body allowed (bodies_on depth scene) level env body key s c d)
  over-body old e keep r t n a b p =
      let kept : kept_from l (draws_body allowed (bodies_on depth scene) level env body key s c d).walk ≡ kept_anew (kept_over old.place old.inside) =
      rw keep at (kept-found (Some old) e) in
      rw kept p

  -- nothing is found
  pub over-none : found key.site key.id l.at (trees_of l.old) ≡ None → (r : Result (Unit {0}) Stop) (t : DrawingAt) (n : Meter) (a b : Tally)
      → Redrawn (kept_anew (kept_over still records.none)) r t c n a b (end_update key level s drawn.outcome c d)
      → Redraws l r t c n a b (draws_body allowed (bodies_on depth scene) level env body key s c d)
  over-none e r t n a b p = rw (kept-found None e) p

  -- what is inside an old update that is found is faithful
  pub faithful-inside : (old : OldUpdate) → found key.site key.id l.at (trees_of l.old) ≡ Some old → AreFaithful scene.app scene.types (trees_of l.old)
      → AreFaithful scene.app scene.types old.inside
  faithful-inside old e f =
      (subst (λ (u : Option OldUpdate). IfSome u (FoundAs scene.app scene.types key.site)) e
      (found-among scene.app scene.types key.site key.id l.at (trees_of l.old) f)).inside

-- ---- bodies

-- what a body counts is what is counted of the update that is drawn anew
counts-anew : (k : KeptIn) (c n : ℕ) (a inner b left : Tally) (outer : Keeps) → outer ≡ a.keeps → inner ≡ record a { keeps = keeps.none }
    → Counts k 0 n inner b → left ≡ record b { keeps = with_last outer None b.keeps } → Counts (kept_anew k) c (c + n) a left
counts-anew k c n a inner b left outer e i q f =
    rw f
    (record {
      steps = omega (arith, q.steps, ap (λ (t : Tally). t.steps) i);
      kept = q.kept ∙ ap (λ (t : Tally). count_still k.list + t.kept) i;
      moved = q.moved ∙ ap (λ (t : Tally). count_moved k.list + t.moved) i;
      items = q.items ∙ ap (λ (t : Tally). items_kept k.list + t.items) i;
      keeps = λ j. with_last (e j) None (inside j);
    })
  where
    inside : b.keeps ≡ k.keeps
    inside = q.keeps ∙ ap (λ (t : Tally). put_behind t.keeps k.keeps) i ∙ behind-none k.keeps

-- a body that ended is left
pub body-left : (k : KeptIn) (key : KeyAt) (level : ℕ) (s t after : DrawingAt) (own m : Meter) (c d : ℕ) (o : Outcome DrawingAt) (r : Result (Unit {0}) Stop)
    (a inner b left : Tally) (outer : Keeps) → Redrawn k (Ok tt) t 0 own inner b o → m.cost ≡ c + own.cost → m.deepest ≡ max d (level + own.deepest)
    → outer ≡ a.keeps → inner ≡ record a { keeps = keeps.none } → left ≡ record b { keeps = with_last outer None b.keeps }
    → Comes (always after) r (Ok (leave_update (head_at key s.ambient t own.cost own.deepest) t.part s))
    → Redrawn (kept_anew k) r after c m a left (end_update key level s o c d)
body-left k key level s t after own m c d o (Ok u) a inner b left outer p cost deepest e i f h =
    let end = leave_update (head_at key s.ambient t own.cost own.deepest) t.part s in
    rw (p.0, cost, deepest)
    (ap (λ (x : DrawingAt). Gives x (c + own.cost) (max d (level + own.deepest))) (left-same end after h), counts-anew k c own.cost a inner b left outer e i p.1 f)
  where
    left-same : (x y : DrawingAt) → ◌≡◌ {A = Result DrawingAt ℕ} (Ok x) (Ok y) → x ≡ y
    left-same x y e = cc
body-left k key level s t after own m c d o (Err (Trap kind)) a inner b left outer p cost deepest e i f h =
    absurd (left-trap (leave_update (head_at key s.ambient t own.cost own.deepest) t.part s) kind h)
  where
    left-trap : (x : DrawingAt) (kind : ℕ) → ◌≡◌ {A = Result DrawingAt ℕ} (Ok x) (Err kind) → ⊥
    left-trap x kind e = cc
body-left k key level s t after own m c d o (Err Memory) a inner b left outer p cost deepest e i f h = tt

-- one that trapped traps
pub body-trapped : (k : KeptIn) (key : KeyAt) (level : ℕ) (s t after : DrawingAt) (own m : Meter) (c d kind : ℕ) (o : Outcome DrawingAt)
    (a inner b left : Tally) (outer : Keeps) → Redrawn k (Err (Trap kind)) t 0 own inner b o → m.cost ≡ c + own.cost → m.deepest ≡ d
    → outer ≡ a.keeps → inner ≡ record a { keeps = keeps.none } → left ≡ record b { keeps = with_last outer None b.keeps }
    → Redrawn (kept_anew k) (Err (Trap kind)) after c m a left (end_update key level s o c d)
body-trapped k key level s t after own m c d kind o a inner b left outer p cost deepest e i f =
    rw (p.0, cost, deepest) (refl, counts-anew k c own.cost a inner b left outer e i p.1 f)

-- it traps, or there was no memory to say what was kept
pub body-stopped : (k : KeptIn) (key : KeyAt) (level : ℕ) (s t after : DrawingAt) (own m : Meter) (c d kind told : ℕ) (o : Outcome DrawingAt)
    (a inner b left : Tally) (outer : Keeps) (r : Stop) → Redrawn k (Err (Trap kind)) t 0 own inner b o → m.cost ≡ c + own.cost → m.deepest ≡ d
    → outer ≡ a.keeps → inner ≡ record a { keeps = keeps.none } → told ≡ kind → LeavesTrapped r told outer b left
    → Redrawn (kept_anew k) (Err r) after c m a left (end_update key level s o c d)
body-stopped k key level s t after own m c d kind told o a inner b left outer (Trap j) p cost deepest e i same f =
    subst (λ (n : ℕ). Redrawn (kept_anew k) (Err (Trap n)) after c m a left (end_update key level s o c d)) (sym (f.0 ∙ same))
    (body-trapped k key level s t after own m c d kind o a inner b left outer p cost deepest e i f.1)
body-stopped k key level s t after own m c d kind told o a inner b left outer Memory p cost deepest e i same f = tt

-- ---- what is found

-- it has the site and the id that it is found by
module _ (site : Site) (id : Data) where
  abbrev IsThat : OldUpdate → Type 0
  IsThat u = is_that site id u.head ≡ true

  either-that : (a b : Option OldUpdate) → IfSome a IsThat → IfSome b IsThat → IfSome (or_then a b) IsThat
  either-that None b h k = k
  either-that (Some u) b h k = h

  one-that : (h : HeadAt) (place : Shift) (ts : Trees Item) (b : Bool) → is_that site id h ≡ b
      → IfSome (if b then Some (record { head = h; place = place; inside = ts }) else None) IsThat
  one-that h place ts true e = e
  one-that h place ts false e = tt

  mutual
    that-in : (at : Shift) (t : Tree Item) → IfSome (found_in site id at t) IsThat
    that-in at (records.leaf a) = tt
    that-in at (records.presentation l p ts) = that-among (join_shifts p at) ts
    that-in at (records.update h p ts) = one-that h (join_shifts p at) ts (is_that site id h) refl

    that-among : (at : Shift) (ts : Trees Item) → IfSome (found site id at ts) IsThat
    that-among at records.none = tt
    that-among at (records.tree t ts) = either-that (found_in site id at t) (found site id at ts) (that-in at t) (that-among at ts)

pub found-that : (site : Site) (id : Data) (at : Shift) (ts : Trees Item) (u : OldUpdate) → found site id at ts ≡ Some u → is_that site id u.head ≡ true
found-that site id at ts u e = subst (λ (o : Option OldUpdate). IfSome o (IsThat site id)) e (that-among site id at ts)

-- an old update that may be kept stays within the limits
pub record Within (m : MeasuresAt) (o : OpeningAt) : Type 0 where
  pub cost : m.cost ≤ o.budget
  pub weight : m.weight ≤ o.weight
  pub reach : m.reach ≤ o.depth

pub kept-within : (h : HeadAt) (o : OpeningAt) → may_keep h o ≡ true → Within h.measures o
kept-within h o e =
    let m = h.measures in
    let v = shift_at h o in
    let range = is_in_range (move_rect v m.extent) in
    let limits = limits_fit m o in
    let origins = origin_fits v m.origin o.ambient in
    let margins = margin_fits v m.margin o.ambient in
    let inks = m.ink == o.ambient.ink in
    let all = and_right (same_cache h.cache o.cache) (measures_fit v m o) e in
    let h1 = and_right inks (margins && (origins && (limits && range))) all in
    let h2 = and_right margins (origins && (limits && range)) h1 in
    let h3 = and_right origins (limits && range) h2 in
    let l = and_left limits range h3 in
    let rest = and_right (nat_le m.cost o.budget) (nat_le m.weight o.weight && nat_le m.reach o.depth) l in
    let cheap = and_left (nat_le m.cost o.budget) (nat_le m.weight o.weight && nat_le m.reach o.depth) l in
    let light = and_left (nat_le m.weight o.weight) (nat_le m.reach o.depth) rest in
    let shallow = and_right (nat_le m.weight o.weight) (nat_le m.reach o.depth) rest in
    record { cost = grind (arith, nat_tests, cheap); weight = grind (arith, nat_tests, light); reach = grind (arith, nat_tests, shallow) }

-- ---- what is answered where one is kept

pub over-answer : (scene : Scene) (env : Env) (body : ShapeTrees) (k : Bor Key) (l : LevelAt) (allowed : Allowance) (depth level : ℕ) (before after : Drawing)
    (m n : Meter) (old : Old) (budget weight : ℕ) (a b : Tally) (r : Result (Unit {0}) Stop)
    → budget ≡ allowed.budget - m.cost → weight ≡ allowed.weight - before.weight
    → found (key_of k.now).site (key_of k.now).id l.at (trees_of l.old) ≡ Some (old_of old)
    → may_keep old.piece.now.head (opening_at (key_of k.now) (drawing_of before) budget weight depth) ≡ true
    → AreFaithful scene.app scene.types (trees_of l.old) → StandsFor scene env body (key_of k.now)
    → KeepsUpdate level old (record { key = k; ambient = before.ambient; budget = budget; weight = weight; depth = depth }) before r after m n a b
    → Redraws l r (drawing_of after) m.cost n a b
    (draws_body allowed (bodies_on depth scene) level env body (key_of k.now) (drawing_of before) m.cost m.deepest)
over-answer scene env body k l allowed depth level before after m n old budget weight a b (Ok u) eb ew e keep f stands keeps =
    let kept = rw (eb, ew) at keeps in
    let may = rw (eb, ew) at keep in
    rw (kept.drawing, kept.tally)
    (over-kept scene env body (key_of k.now) l allowed depth level (drawing_of before) m.cost m.deepest (old_of old) e may f stands n a kept.cost kept.deepest)
over-answer scene env body k l allowed depth level before after m n old budget weight a b (Err (Trap x)) eb ew e keep f stands keeps = absurd keeps
over-answer scene env body k l allowed depth level before after m n old budget weight a b (Err Memory) eb ew e keep f stands keeps = tt
