-- What has to be shown of a pane that takes the place of another one, and why all else shows it already.
use Rattle.std.proofs.Common.{◌≡◌, ◌∙◌, ℕ, ◌+◌, ◌-◌, ◌<◌, ◌≤◌, ℤ, pos, Bool, true, false, if◌then◌else◌, All, List, [], Option, Some, None, get_or}
use Rattle.std.proofs.Common.{set, map, ap, sym, subst, refl, arith, slice_get, slice_set}
use Rattle.std.specs.Prelude.{◌&&◌, IfSome, option_map}
use Rattle.std.proofs.lemmas.Bool.Decides.{nat_tests}
use Rattle.std.proofs.lemmas.Int.{ints}
use Rattle.std.proofs.lemmas.List.{set-get_or}
use Rattle.std.proofs.lemmas.List.Elements.{All-get_or, All-set}
use Rattle.std.proofs.lemmas.Option.{get_or_from_slice_get, slice_get-map, slice_get_within}
use Rattle.cl_application.specs.declared.applications.App.{App}
use Rattle.cl_application.specs.declared.declarations.PaneDecl.{PaneDecl}
use Rattle.cl_eval.specs.Outcome.{RisesBy}
use Rattle.cl_frame.specs.States.{StateAt, shown_env, shown_forms}
use Rattle.cl_eval.specs.TypeMeanings.{TypeMeanings}
use Rattle.cl_eval.specs.declared.metering.Limits.{Limits}
use Rattle.cl_damage.specs.Keeps.{Keeps}
use Rattle.cl_display.specs.Outcomes.{DrawOutcome}
use Rattle.cl_display.specs.Script.{history_of}
use Rattle.cl_medium.specs.Items.{Item, Painted, item_cell}
use Rattle.cl_raster.specs.Raster.{Picture}
use Rattle.cl_record.specs.Marks.{Mark}
use Rattle.cl_record.specs.Replays.{cell_after, items_drawn}
use Rattle.cl_record.specs.Trees.{Tree}
use Rattle.cl_region.specs.Places.{holds, one_holds}
use Rattle.cl_region.proofs.Corners.{holds_within}
use Rattle.cl_redisplay.specs.Paint.{blank_cell, cell_at, covers, own_rect, pane_cell}
use Rattle.cl_redisplay.specs.Shown.{AreApart, Shown, areas_of, shown_at}
use Rattle.cl_redisplay.specs.Touching.{LieIn, ShowsOthers, on_screen}
use Rattle.cl_redisplay.specs.declared.areas.Area.{Area}
use Rattle.cl_redisplay.proofs.ShownLemmas.{shown_at-set}
use Rattle.cl_reuse.specs.Once.{IsNamedOnce}
use Rattle.cl_reuse.specs.Recorded.{IsFaithfulHistory}
use Rattle.cl_frame.proofs.ShownForms.{shown-own}
use Rattle.cl_spans.specs.SpanRows.{SpanRows, spans_hold}
use Rattle.cl_untouched.specs.Among.{keeps_among, touched_between}
use Rattle.cl_untouched.proofs.PaneLemmas.{pane-cells}
use Rattle.cl_updating.specs.Redisplays.{CanReuse}
use Rattle.cl_frame.specs.Damages.{CanShow, IsDamage, Leaves, as_blank, as_evaluated, damage_holds, touched_with}
use Rattle.cl_frame.specs.Frames.{ArePanesFaithful, AreShown, Evaluates, IsPaneFaithful, IsBlankPane, is_stale_under}
use Rattle.cl_frame.specs.Panes.{PaneMarks, marks_in, marks_of, marks_of_pane, shown_of_pane}
use Rattle.cl_frame.specs.Sending.{touched_in}
use Rattle.cl_frame.specs.Settling.{marks_settled, met_memory, pane_draw, reused}
use Rattle.cl_frame.specs.declared.panes.Pane.{Pane}
use Rattle.cl_frame.specs.declared.settling.Which.{Which}
use Rattle.cl_frame.proofs.PaneSettling.{quiet}
use Rattle.cl_frame.specs.declared.settling.Which.TheVariants as which

-- what holds of each pane holds of the one in a place
pub all-at : (P : Pane → Type 0) (panes : List Pane) (k : ℕ) (o : Pane) → slice_get panes k ≡ Some o → All P panes → P o
all-at P panes k o stands h =
    subst P (get_or_from_slice_get panes k o o stands) (All-get_or P panes k o (slice_get_within panes k o stands) h)

-- ---- a pane that is blank for want of memory

rises-less : (met : Bool) (old new cost : ℕ) → RisesBy met old new cost → RisesBy true old new cost
rises-less true old new cost h = h
rises-less false old new cost h = (omega (arith, h), omega (arith, h))

pub evaluates-left : (drawn : DrawOutcome) (over : List (Mark Item)) (old e p : Pane) (from to : ℕ) → Leaves e p → Evaluates drawn over old e from to
    → Evaluates drawn over old p from to
evaluates-left drawn over old e p from to (as_evaluated same) h = subst (λ (q : Pane). Evaluates drawn over old q from to) (sym same) h
evaluates-left drawn over old e p from to (as_blank same) h =
    subst (λ (q : Pane). Evaluates drawn over old q from to) (sym same) (record {
      area = h.area;
      marks = refl;
      report = refl;
      counted = refl;
      spends = rises-less (met_memory e.report) from to _ h.spends;
    })

pub faithful-left : (app : App) (types : TypeMeanings) (e p : Pane) → Leaves e p → IsPaneFaithful app types e → IsPaneFaithful app types p
faithful-left app types e p (as_evaluated same) h = subst (λ (q : Pane). IsPaneFaithful app types q) (sym same) h
faithful-left app types e p (as_blank same) h =
    subst (λ (q : Pane). IsPaneFaithful app types q) (sym same) (record { faithful = tt; once = tt })

-- what was kept, where the pane is what was evaluated
pub keeps-left : (e p : Pane) (ks kept : Keeps) → Leaves e p → (met_memory e.report ≡ false → ks ≡ kept) → met_memory p.report ≡ false → ks ≡ kept
keeps-left e p ks kept (as_evaluated same) h fine = h (ap (λ (q : Pane). met_memory q.report) (sym same) ∙ fine)
keeps-left e p ks kept (as_blank same) h fine = let wrong : true ≡ false = sym (ap (λ (q : Pane). met_memory q.report) same) ∙ fine in cc

-- ---- what is touched

-- the old marks of which something may be kept, where the screen is not stale
pub reused-fresh : (w : Which) (stale : Bool) (marks : PaneMarks) → is_stale_under w stale ≡ stale → stale ≡ false → reused w marks ≡ marks_in marks
reused-fresh which.All stale marks under fresh = refl
reused-fresh which.Blank stale marks under fresh = refl
reused-fresh which.Force stale marks under fresh = let no : true ≡ false = under ∙ fresh in cc

-- what is touched by the keeps is what is touched by the display
touched-same-way : (drawn : DrawOutcome) (old new : PaneMarks) (ks : Keeps) (met : Bool) → new ≡ marks_settled drawn.outcome met
    → (met ≡ false → ks ≡ keeps_among (marks_in old) drawn) → touched_with old new ks ≡ touched_in drawn old new
touched-same-way drawn None new ks met e f = refl
touched-same-way drawn (Some o) None ks met e f = refl
touched-same-way drawn (Some o) (Some n) ks true e f = cc
touched-same-way drawn (Some o) (Some n) ks false e f =
    let marks : n ≡ history_of drawn.outcome = ap (λ (m : PaneMarks). marks_in m) e in
    let kept = f refl in
    λ i. one_holds (touched_between o (marks i) (kept i))

and-true : (b c : Bool) → c ≡ true → b && c ≡ b
and-true true c e = e
and-true false c e = refl

and-last : (b c : Bool) → b && c ≡ true → c ≡ true
and-last true c e = e
and-last false c e = cc

-- a place of the area, in its columns and rows
own-holds : (area : Area) (x y : ℕ) → covers area x y ≡ true → holds (own_rect area) (pos (x - area.x)) (pos (y - area.y)) ≡ true
own-holds area x y h =
    let left : area.x ≤ x = grind (arith, nat_tests, h) in
    let right : x < area.x + area.width = grind (arith, nat_tests, h) in
    let top : area.y ≤ y = grind (arith, nat_tests, h) in
    let bottom : y < area.y + area.height = grind (arith, nat_tests, h) in
    holds_within (own_rect area) (pos (x - area.x)) (pos (y - area.y))
    (record { x1 = omega (arith, ints); x2 = omega (arith, ints, left, right); y1 = omega (arith, ints); y2 = omega (arith, ints, top, bottom) })

-- the damage holds those places of the area that are touched
damage-told : (area : Area) (touched : ℤ → ℤ → Bool) (damage : Option SpanRows) → IsDamage area touched damage → (x y : ℤ)
    → holds (own_rect area) x y ≡ true → damage_holds damage x y ≡ touched x y
damage-told area touched None h x y own = sym (h x y)
damage-told area touched (Some s) h x y own = h x y ∙ and-true (touched x y) (holds (own_rect area) x y) own

-- so it is on the screen
pub shown-told : (area : Area) (drawn : DrawOutcome) (old new : PaneMarks) (ks : Keeps) (met : Bool) (damage : Option SpanRows)
    → new ≡ marks_settled drawn.outcome met → (met ≡ false → ks ≡ keeps_among (marks_in old) drawn) → IsDamage area (touched_with old new ks) damage
    → (x y : ℕ) → covers area x y ≡ true → on_screen (damage_holds damage) area x y ≡ on_screen (touched_in drawn old new) area x y
shown-told area drawn old new ks met damage e f h x y here =
    damage-told area (touched_with old new ks) damage h (pos (x - area.x)) (pos (y - area.y)) (own-holds area x y here)
    ∙ ap (λ (t : ℤ → ℤ → Bool). t (pos (x - area.x)) (pos (y - area.y))) (touched-same-way drawn old new ks met e f)

-- ---- what is not touched

module _ (limits : Limits) (app : App) (types : TypeMeanings) (state : StateAt) (d : PaneDecl) (can : CanReuse app types) where
  abbrev drawn : DrawOutcome
  drawn = pane_draw limits app types d state

  -- a place that is not touched has the same cell before and after
  cells-stay : (before : Option (List (Tree Item))) (new : PaneMarks) (met : Bool) → IfSome before (IsFaithfulHistory app types) → IfSome before IsNamedOnce
      → new ≡ marks_settled drawn.outcome met → (x y : ℤ) → touched_in drawn (marks_of before) new x y ≡ false → (under : Painted)
      → cell_after item_cell (items_drawn (marks_in (marks_of before))) x y under ≡ cell_after item_cell (items_drawn (marks_in new)) x y under
  cells-stay None new met faithful once e x y outside under = cc
  cells-stay (Some old) None met faithful once e x y outside under = cc
  cells-stay (Some old) (Some n) true faithful once e x y outside under = cc
  cells-stay (Some old) (Some n) false faithful once e x y outside under =
      pane-cells limits app types state.slots (shown_forms app d state) (shown_env d state) can.texts can.sees can.covered can.apart (shown-own app d state) old faithful once x y outside under
      ∙ ap (λ (m : PaneMarks). cell_after item_cell (items_drawn (marks_in m)) x y under) (sym e)

-- the cells of a pane among those that a screen shows
shown-in : (panes : List Shown) (k : ℕ) (p : Shown) → slice_get panes k ≡ Some p → AreApart (areas_of panes) → (x y : ℕ) → covers p.area x y ≡ true
    → shown_at panes x y ≡ pane_cell p.area p.marks x y
shown-in panes k p stands apart x y here =
    let inside = slice_get_within panes k p stands in
    let there : get_or panes k p ≡ p = get_or_from_slice_get panes k p p stands in
    let whole : set panes k p ≡ panes = ap (λ (q : Shown). set panes k q) (sym there) ∙ set-get_or panes k p in
    ap (λ (ps : List Shown). shown_at ps x y) (sym whole)
    ∙ (shown_at-set panes k p p inside apart (ap (λ (q : Shown). q.area) (sym there)) x y
    ∙ ap (λ (b : Bool). if b then pane_cell p.area p.marks x y else shown_at panes x y) here)

-- the cells of a pane on the screen
pub pane-shown : (panes : List Pane) (raster : Picture) (k : ℕ) (o : Pane) → slice_get panes k ≡ Some o → AreShown panes raster → (x y : ℕ)
    → x < raster.width → y < raster.height → covers o.area x y ≡ true → cell_at raster x y ≡ pane_cell o.area (marks_in (marks_of_pane o)) x y
pane-shown panes raster k o stands shown x y hx hy here =
    shown.shows.cells x y hx hy
    ∙ shown-in (map shown_of_pane panes) k (shown_of_pane o) (slice_get-map shown_of_pane panes k ∙ ap (option_map shown_of_pane) stands) shown.apart x y here

-- the places that a damage holds lie in its area
pub damage-lies : (area : Area) (touched : ℤ → ℤ → Bool) (damage : Option SpanRows) → IsDamage area touched damage → IfSome damage (λ s. LieIn (spans_hold s) area)
damage-lies area touched None h = tt
damage-lies area touched (Some s) h =
    record { within = λ x y e. and-last (touched x y) (holds (own_rect area) x y) (sym (h x y) ∙ e) }

pub none-of : (damage : Option SpanRows) → ((s : SpanRows) → damage ≡ Some s → ⊥) → damage ≡ None
none-of None h = refl
none-of (Some s) h = absurd (h s refl)

none-holds : (P : SpanRows → Type 0) (damage : Option SpanRows) → damage ≡ None → IfSome damage P
none-holds P None e = tt
none-holds P (Some s) e = cc

module _ (limits : Limits) (app : App) (types : TypeMeanings) (state : StateAt) (d : PaneDecl) (can : CanReuse app types)
    (panes : List Pane) (raster : Picture) (k : ℕ) (o p : Pane) (stands : slice_get panes k ≡ Some o) (shown : AreShown panes raster) (area : p.area ≡ o.area)
    (faithful : IsPaneFaithful app types o) (ks : Keeps)
    (marks : marks_of_pane p ≡ marks_settled (pane_draw limits app types d state).outcome (met_memory p.report))
    (kept : met_memory p.report ≡ false → ks ≡ keeps_among (marks_in (marks_of_pane o)) (pane_draw limits app types d state)) where
  -- all places that are not touched show the new pane already
  others-show : (s : SpanRows) → IsDamage p.area (touched_with (marks_of_pane o) (marks_of_pane p) ks) (Some s)
      → ShowsOthers raster p.area (marks_in (marks_of_pane p)) (spans_hold s)
  others-show s h = record {
    cells = λ x y hx hy here outside.
        let untouched = sym (shown-told p.area (pane_draw limits app types d state) (marks_of_pane o) (marks_of_pane p) ks (met_memory p.report) (Some s) marks kept h x y here) ∙ outside in
        let there = subst (λ (a : Area). covers a x y ≡ true) area here in
        pane-shown panes raster k o stands shown x y hx hy there
        ∙ (ap (λ (a : Area). pane_cell a (marks_in (marks_of_pane o)) x y) (sym area)
        ∙ cells-stay limits app types state d can o.history (marks_of_pane p) (met_memory p.report) faithful.faithful faithful.once marks
        (pos (x - p.area.x)) (pos (y - p.area.y)) untouched blank_cell);
  }

  pub others-shown : (damage : Option SpanRows) → IsDamage p.area (touched_with (marks_of_pane o) (marks_of_pane p) ks) damage
      → IfSome damage (λ s. ShowsOthers raster p.area (marks_in (marks_of_pane p)) (spans_hold s))
  others-shown None h = tt
  others-shown (Some s) h = others-show s h

-- a pane can be shown
pub can-show : (raster : Picture) (p : Pane) (damage : Option SpanRows) (touched : ℤ → ℤ → Bool) (stale : Bool) → (p.history ≡ None → damage ≡ None)
    → (stale ≡ true → damage ≡ None) → (stale ≡ false → IsDamage p.area touched damage)
    → (stale ≡ false → IfSome damage (λ s. ShowsOthers raster p.area (marks_in (marks_of_pane p)) (spans_hold s))) → CanShow raster p damage
can-show raster p damage touched true whole none is others = record { whole = whole; lies = none-holds _ damage (none refl); others = none-holds _ damage (none refl) }
can-show raster p damage touched false whole none is others =
    record { whole = whole; lies = damage-lies p.area touched damage (is refl); others = others refl }

-- ---- panes that are faithful

-- one more
pub faithful-put : (app : App) (types : TypeMeanings) (panes : List Pane) (k : ℕ) (p : Pane) → IsPaneFaithful app types p → ArePanesFaithful app types panes
    → ArePanesFaithful app types (slice_set panes k p)
faithful-put app types panes k p one h = record { all = All-set (IsPaneFaithful app types) panes k p one h.all }

-- one that was not asked for
pub faithful-quiet : (app : App) (types : TypeMeanings) (p : Pane) → IsPaneFaithful app types p → IsPaneFaithful app types (quiet p)
faithful-quiet app types p h = record { faithful = h.faithful; once = h.once }

-- one that was never settled
pub faithful-blank : (app : App) (types : TypeMeanings) (p : Pane) → IsBlankPane p → IsPaneFaithful app types p
faithful-blank app types p h = record { faithful = rw h.0 tt; once = rw h.0 tt }
