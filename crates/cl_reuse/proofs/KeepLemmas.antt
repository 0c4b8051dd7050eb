-- An old update that was recorded, and may be kept at an opening, is what its body comes to there, moved.
use Rattle.std.proofs.Common.{◌≡◌, ◌∙◌, ap, sym, subst, refl, ℕ, ◌+◌, ◌-◌, ◌≤◌, ◌==◌, nat_le, ℤ, ◌+ℤ◌, ◌-ℤ◌, Bool, true, false, if◌then◌else◌, List}
use Rattle.std.proofs.Common.{Option, Some, None, arith}
use Rattle.std.specs.Prelude.{◌&&◌, IfSome, int_le, is_some, neg_ℤ, max}
use Rattle.std.proofs.lemmas.Bool.Decides.{nat_tests}
use Rattle.std.proofs.lemmas.Int.{ints}
use Rattle.cl_value.specs.Data.{Data}
use Rattle.cl_region.specs.Places.{IsInRange, IsNear, move_rect}
use Rattle.cl_region.specs.declared.rects.Rect.{Rect}
use Rattle.cl_region.specs.declared.rects.Shift.{Shift}
use Rattle.cl_region.specs.declared.rects.TheConstants.{MAX_COORDINATE}
use Rattle.cl_region.proofs.Corners.{and_left, and_right}
use Rattle.cl_application.specs.declared.applications.App.{App}
use Rattle.cl_syntax.specs.ShapeTree.{ShapeTrees}
use Rattle.cl_cover.specs.Updates.{AreCovered}
use Rattle.cl_eval.specs.Outcome.{Gives, Outcome}
use Rattle.cl_eval.specs.Slots.{Env, Slots}
use Rattle.cl_eval.specs.TypeMeanings.{AreTexts, TypeMeanings}
use Rattle.cl_medium.specs.Ambients.{AmbientAt}
use Rattle.cl_medium.specs.Items.{Item, move_item}
use Rattle.cl_record.specs.Heads.{HeadAt, MeasuresAt, Point, move_measures}
use Rattle.cl_record.specs.Marks.{Mark, move_marks}
use Rattle.cl_record.specs.Replays.{items_drawn}
use Rattle.cl_display.specs.Drawings.{DrawingAt, is_in_range, is_near}
use Rattle.cl_display.specs.Fresh.{Allowance, Scene, bodies_on, closes, draws_body}
use Rattle.cl_display.specs.Outcomes.{DrawOutcome}
use Rattle.cl_display.specs.Sums.{lowest_of}
use Rattle.cl_display.specs.Updates.{KeyAt, end_update, leave_update, measures_at, opening_at}
use Rattle.cl_display.specs.Walks.{OpeningAt}
use Rattle.cl_display.proofs.DisplayLemmas.{adds-body}
use Rattle.cl_reuse.specs.Bodies.{body_from, body_start, motion_between}
use Rattle.cl_reuse.specs.Keeping.{EndsAs, kept_head, kept_part, limits_fit, margin_fits, may_keep, measures_fit, origin_fits, same_cache}
use Rattle.cl_reuse.specs.Keeping.{same_number, shift_at, shift_to}
use Rattle.cl_reuse.specs.Motions.{FitsThere, Motion, move_drawing}
use Rattle.cl_reuse.specs.ReadValues.{SeesReads, scene_on}
use Rattle.cl_reuse.specs.Recorded.{IsRecorded}
use Rattle.cl_reuse.specs.Sited.{AreApart, HoldCache, IsUpdateOf, Sited}
use Rattle.cl_reuse.proofs.BodyMoves.{bodies-move, moved-between}
use Rattle.cl_reuse.proofs.MotionLemmas.{measures-move}
use Rattle.cl_reuse.proofs.SitedLemmas.{bodies-agree, values-same}

-- ---- what the tests say

number-same : (a b : ℤ) → same_number a b ≡ true → a ≡ b
number-same a b h =
    let low = and_left (int_le a b) (int_le b a) h in
    let high = and_right (int_le a b) (int_le b a) h in
    grind (arith, ints, low, high)

near-by : (z : ℤ) → is_near z ≡ true → IsNear z
near-by z h =
    let low = and_left (int_le (neg_ℤ MAX_COORDINATE) z) (int_le z MAX_COORDINATE) h in
    let high = and_right (int_le (neg_ℤ MAX_COORDINATE) z) (int_le z MAX_COORDINATE) h in
    record { low = grind (arith, ints, low); high = grind (arith, ints, high) }

range-by : (r : Rect) → is_in_range r ≡ true → IsInRange r
range-by r h =
    let rest = and_right (is_near r.x1) (is_near r.y1 && (is_near r.x2 && is_near r.y2)) h in
    let last = and_right (is_near r.y1) (is_near r.x2 && is_near r.y2) rest in
    record {
      x1 = near-by r.x1 (and_left (is_near r.x1) (is_near r.y1 && (is_near r.x2 && is_near r.y2)) h);
      y1 = near-by r.y1 (and_left (is_near r.y1) (is_near r.x2 && is_near r.y2) rest);
      x2 = near-by r.x2 (and_left (is_near r.x2) (is_near r.y2) last);
      y2 = near-by r.y2 (and_right (is_near r.x2) (is_near r.y2) last);
    }

margin-by : (v : Shift) (o : Option ℤ) (a : AmbientAt) → margin_fits v o a ≡ true → (x : ℤ) → o ≡ Some x → x +ℤ v.dx ≡ a.margin
margin-by v None a h x e = cc
margin-by v (Some y) a h x e =
    let same : y ≡ x = cc in
    subst (λ (z : ℤ). z +ℤ v.dx ≡ a.margin) same (number-same (y +ℤ v.dx) a.margin h)

origin-by : (v : Shift) (o : Option Point) (a : AmbientAt) → origin_fits v o a ≡ true → (p : Point) → o ≡ Some p
    → (p.x +ℤ v.dx ≡ a.origin_x) × (p.y +ℤ v.dy ≡ a.origin_y)
origin-by v None a h p e = cc
origin-by v (Some q) a h p e =
    let same : q ≡ p = cc in
    let across = and_left (same_number (q.x +ℤ v.dx) a.origin_x) (same_number (q.y +ℤ v.dy) a.origin_y) h in
    let down = and_right (same_number (q.x +ℤ v.dx) a.origin_x) (same_number (q.y +ℤ v.dy) a.origin_y) h in
    subst (λ (z : Point). (z.x +ℤ v.dx ≡ a.origin_x) × (z.y +ℤ v.dy ≡ a.origin_y)) same
    (number-same (q.x +ℤ v.dx) a.origin_x across, number-same (q.y +ℤ v.dy) a.origin_y down)

-- what old measures that fit an opening say
record Fitting (v : Shift) (m : MeasuresAt) (o : OpeningAt) : Type 0 where
  ink : o.ambient.ink ≡ m.ink
  margin : (x : ℤ) → m.margin ≡ Some x → x +ℤ v.dx ≡ o.ambient.margin
  origin : (p : Point) → m.origin ≡ Some p → (p.x +ℤ v.dx ≡ o.ambient.origin_x) × (p.y +ℤ v.dy ≡ o.ambient.origin_y)
  cost : m.cost ≤ o.budget
  weight : m.weight ≤ o.weight
  reach : m.reach ≤ o.depth
  range : IsInRange (move_rect v m.extent)

fitting : (v : Shift) (m : MeasuresAt) (o : OpeningAt) → measures_fit v m o ≡ true → Fitting v m o
fitting v m o h =
    let range = is_in_range (move_rect v m.extent) in
    let limits = limits_fit m o in
    let origins = origin_fits v m.origin o.ambient in
    let margins = margin_fits v m.margin o.ambient in
    let inks = m.ink == o.ambient.ink in
    let a = and_left inks (margins && (origins && (limits && range))) h in
    let h1 = and_right inks (margins && (origins && (limits && range))) h in
    let h2 = and_right margins (origins && (limits && range)) h1 in
    let h3 = and_right origins (limits && range) h2 in
    let l = and_left limits range h3 in
    let l1 = and_right (nat_le m.cost o.budget) (nat_le m.weight o.weight && nat_le m.reach o.depth) l in
    let cheap = and_left (nat_le m.cost o.budget) (nat_le m.weight o.weight && nat_le m.reach o.depth) l in
    let light = and_left (nat_le m.weight o.weight) (nat_le m.reach o.depth) l1 in
    let shallow = and_right (nat_le m.weight o.weight) (nat_le m.reach o.depth) l1 in
    record {
      ink = grind (arith, nat_tests, a);
      margin = margin-by v m.margin o.ambient (and_left margins (origins && (limits && range)) h1);
      origin = origin-by v m.origin o.ambient (and_left origins (limits && range) h2);
      cost = grind (arith, nat_tests, cheap);
      weight = grind (arith, nat_tests, light);
      reach = grind (arith, nat_tests, shallow);
      range = range-by (move_rect v m.extent) (and_right limits range h3);
    }

-- ---- what was used

used-there : {A : Type 0} (used : Bool) (x : A) → used ≡ true → ◌≡◌ {A = Option A} (if used then Some x else None) (Some x)
used-there true x e = refl
used-there false x e = cc

some-used : {A : Type 0} (used : Bool) (x : A) → is_some (if used then Some x else None) ≡ used
some-used true x = refl
some-used false x = refl

-- ---- the update

module _ (app : App) (types : TypeMeanings) (texts : AreTexts app types.presents) (sees : SeesReads app types.presents) (covered : AreCovered app)
    (apart : AreApart app) (h : HeadAt) (inside : List (Mark Item)) (o : OpeningAt) (u : Sited) (declared : IsUpdateOf app u) (site : u.site ≡ h.site)
    (slots : Slots) (env : Env) where
  module _ (values : List Data) (r : IsRecorded app types h inside values) (fits : measures_fit (shift_at h o) h.measures o ≡ true) where
    abbrev far : Motion
    far = motion_between r.start o.ambient

    facts : Fitting (shift_at h o) h.measures o
    facts = fitting (shift_at h o) h.measures o fits

    start-is : h.measures.start ≡ record { x = r.start.x; y = r.start.y }
    start-is = ap (λ (m : MeasuresAt). m.start) r.measured

    shift-is : shift_at h o ≡ far.by
    shift-is = ap (λ (p : Point). shift_to p o.ambient) start-is

    extent-is : h.measures.extent ≡ r.end.part.extent
    extent-is = ap (λ (m : MeasuresAt). m.extent) r.measured

    margin-far : r.end.part.margin_used ≡ true → far.margin ≡ far.by.dx
    margin-far used =
        let at : h.measures.margin ≡ Some r.start.margin =
        ap (λ (m : MeasuresAt). m.margin) r.measured ∙ used-there r.end.part.margin_used r.start.margin used in
        let moved : r.start.margin +ℤ (o.ambient.x -ℤ h.measures.start.x) ≡ o.ambient.margin = facts.margin r.start.margin at in
        let x : h.measures.start.x ≡ r.start.x = ap (λ (p : Point). p.x) start-is in
        omega (arith, ints, moved, x)

    origin-far : r.end.part.origin_used ≡ true → far.origin ≡ far.by
    origin-far used =
        let p : Point = record { x = r.start.origin_x; y = r.start.origin_y } in
        let at : h.measures.origin ≡ Some p = ap (λ (m : MeasuresAt). m.origin) r.measured ∙ used-there r.end.part.origin_used p used in
        let moved = facts.origin p at in
        let x : h.measures.start.x ≡ r.start.x = ap (λ (q : Point). q.x) start-is in
        let y : h.measures.start.y ≡ r.start.y = ap (λ (q : Point). q.y) start-is in
        let across : o.ambient.origin_x -ℤ r.start.origin_x ≡ o.ambient.x -ℤ r.start.x = omega (arith, ints, moved.0, x) in
        let down : o.ambient.origin_y -ℤ r.start.origin_y ≡ o.ambient.y -ℤ r.start.y = omega (arith, ints, moved.1, y) in
        λ i. record { dx = across i; dy = down i }

    fits-there : FitsThere far o.weight r.end
    fits-there =
        let weight : h.measures.weight ≡ r.end.weight = ap (λ (m : MeasuresAt). m.weight) r.measured in
        let moved : move_rect (shift_at h o) h.measures.extent ≡ move_rect far.by r.end.part.extent = λ i. move_rect (shift-is i) (extent-is i) in
        record {
          weight = omega (arith, facts.weight, weight);
          margin = margin-far;
          origin = origin-far;
          range = subst (λ (q : Rect). IsInRange q) moved facts.range;
        }

    ink-is : o.ambient.ink ≡ r.start.ink
    ink-is = facts.ink ∙ ap (λ (m : MeasuresAt). m.ink) r.measured

    there-is : HoldCache app slots env u.cache values
        → (body_from o.depth (record { budget = o.budget; weight = o.weight }) (scene_on app slots types) env u.body o.ambient).outcome
        ≡ Gives (move_drawing far r.end) h.measures.cost h.measures.reach
    there-is cached =
        let same : r.update ≡ u = apart.same r.update u r.declared declared (r.site ∙ sym site) in
        let old : HoldCache app r.slots r.env u.cache values = subst (λ (w : Sited). HoldCache app r.slots r.env w.cache values) same r.cached in
        let drawn : (body_from r.depth r.allowed (scene_on app r.slots types) r.env u.body r.start).outcome ≡ Gives r.end h.measures.cost h.measures.reach =
        subst (λ (w : Sited). (body_from r.depth r.allowed (scene_on app r.slots types) r.env w.body r.start).outcome
        ≡ Gives r.end h.measures.cost h.measures.reach)
        same r.drawn in
        bodies-move r.depth o.depth r.allowed (record { budget = o.budget; weight = o.weight }) app types u.body r.slots r.env slots env r.start o.ambient texts sees
        (bodies-agree app r.slots r.env slots env covered u declared values old cached) ink-is r.end h.measures.cost h.measures.reach drawn facts.cost facts.reach
        fits-there

    measures-there : measures_at o.ambient (move_drawing far r.end) h.measures.cost h.measures.reach ≡ move_measures (shift_at h o) h.measures
    measures-there =
        let ends : MeasuresAt = measures_at r.start r.end h.measures.cost h.measures.reach in
        ap (λ (a : AmbientAt). measures_at a (move_drawing far r.end) h.measures.cost h.measures.reach) (sym (moved-between r.start o.ambient ink-is))
        ∙ measures-move far r.start r.end h.measures.cost h.measures.reach margin-far origin-far
        ∙ sym (λ i. move_measures (shift-is i) (r.measured i))

    part-there : (move_drawing far r.end).part.lowest ≡ lowest_of (items_drawn (move_marks move_item far.by r.end.part.marks))
        → (move_drawing far r.end).part ≡ kept_part (shift_at h o) h inside
    part-there lowest =
        let extents = sym (λ i. move_rect (shift-is i) (extent-is i)) in
        let marks : move_marks move_item far.by r.end.part.marks ≡ move_marks move_item (shift_at h o) inside = sym
        (λ i. move_marks move_item (shift-is i) (r.marks i)) in
        let ends = lowest ∙ ap (λ (ms : List (Mark Item)). lowest_of (items_drawn ms)) marks in
        let margins = sym (ap (λ (m : MeasuresAt). is_some m.margin) r.measured ∙ some-used r.end.part.margin_used r.start.margin) in
        let origins = sym (ap (λ (m : MeasuresAt). is_some m.origin) r.measured
        ∙ some-used {A = Point} r.end.part.origin_used (record { x = r.start.origin_x; y = r.start.origin_y })) in
        λ i. record { extent = extents i; lowest = ends i; margin_used = margins i; origin_used = origins i; marks = marks i }

    ends-as : HoldCache app slots env u.cache values → EndsAs h inside (shift_at h o) o.ambient
        (body_from o.depth (record { budget = o.budget; weight = o.weight }) (scene_on app slots types) env u.body o.ambient).outcome
    ends-as cached =
        let is = there-is cached in
        let added = adds-body o.depth (record { budget = o.budget; weight = o.weight }) (scene_on app slots types) 0 env u.body (body_start o.ambient)
        (move_drawing far r.end) 0 0 h.measures.cost h.measures.reach is in
        let lowest : (move_drawing far r.end).part.lowest ≡ lowest_of (items_drawn
        (move_drawing far r.end).part.marks) = rw added.part.behind added.part.lowest in
        record { end = move_drawing far r.end; is = is; measures = measures-there; part = part-there lowest }

  -- the values of both caches are the same
  by-cache : (old new : Option (List Data)) → IfSome old (IsRecorded app types h inside) → same_cache old new ≡ true
      → measures_fit (shift_at h o) h.measures o ≡ true
      → IfSome new (HoldCache app slots env u.cache) → EndsAs h inside (shift_at h o) o.ambient
      (body_from o.depth (record { budget = o.budget; weight = o.weight }) (scene_on app slots types) env u.body o.ambient).outcome
  by-cache (Some ds) (Some es) r same fits cached =
      ends-as ds r fits (subst (λ (vs : List Data). HoldCache app slots env u.cache vs) (sym (values-same ds es same)) cached)
  by-cache (Some ds) None r same fits cached = cc
  by-cache None new r same fits cached = cc

  kept-there : IfSome h.cache (IsRecorded app types h inside) → may_keep h o ≡ true → IfSome o.cache (HoldCache app slots env u.cache)
      → EndsAs h inside (shift_at h o) o.ambient
      (body_from o.depth (record { budget = o.budget; weight = o.weight }) (scene_on app slots types) env u.body o.ambient).outcome
  kept-there r keep cached =
      by-cache h.cache o.cache r (and_left (same_cache h.cache o.cache) (measures_fit (shift_at h o) h.measures o) keep)
      (and_right (same_cache h.cache o.cache) (measures_fit (shift_at h o) h.measures o) keep) cached

pub kept-as-recorded : (app : App) (types : TypeMeanings) → AreTexts app types.presents → SeesReads app types.presents → AreCovered app → AreApart app
    → (h : HeadAt) (inside : List (Mark Item)) (o : OpeningAt) → IfSome h.cache (IsRecorded app types h inside) → may_keep h o ≡ true
    → (u : Sited) → IsUpdateOf app u → u.site ≡ h.site → (slots : Slots) (env : Env) → IfSome o.cache (HoldCache app slots env u.cache)
    → EndsAs h inside (shift_at h o) o.ambient
    (body_from o.depth (record { budget = o.budget; weight = o.weight }) (scene_on app slots types) env u.body o.ambient).outcome
kept-as-recorded app types texts sees covered apart h inside o r keep u declared site slots env cached =
    kept-there app types texts sees covered apart h inside o u declared site slots env r keep cached

-- the body that an update draws which is opened
pub body-opened : (allowed : Allowance) (depth level : ℕ) (scene : Scene) (env : Env) (body : ShapeTrees) (key : KeyAt) (s : DrawingAt) (cost deepest : ℕ)
    (o : OpeningAt) → o ≡ opening_at key s (allowed.budget - cost) (allowed.weight - s.weight) depth
    → draws_body allowed (bodies_on depth scene) level env body key s cost deepest
    ≡ closes key level s o (body_from o.depth (record { budget = o.budget; weight = o.weight }) scene env body o.ambient) cost deepest
body-opened allowed depth level scene env body key s cost deepest o e =
    let opened = opening_at key s (allowed.budget - cost) (allowed.weight - s.weight) depth in
    sym (ap (λ (p : OpeningAt). closes key level s p
    (body_from p.depth (record { budget = p.budget; weight = p.weight }) scene env body p.ambient) cost deepest) e)

-- what is gone on from behind it
pub kept-joined : (h : HeadAt) (inside : List (Mark Item)) (v : Shift) (key : KeyAt) (level : ℕ) (s : DrawingAt) (o : OpeningAt) (b : DrawOutcome)
    (cost deepest : ℕ) → EndsAs h inside v s.ambient b.outcome
    → (closes key level s o b cost deepest).outcome
    ≡ Gives (leave_update (kept_head v key h) (kept_part v h inside) s) (cost + h.measures.cost) (max deepest (level + h.measures.reach))
kept-joined h inside v key level s o b cost deepest e =
    ap (λ (x : Outcome DrawingAt). end_update key level s x cost deepest) e.is
    ∙ (λ i. Gives (leave_update (record { site = key.site; id = key.id; cache = key.cache; measures = e.measures i }) (e.part i) s)
    (cost + h.measures.cost) (max deepest (level + h.measures.reach)))
