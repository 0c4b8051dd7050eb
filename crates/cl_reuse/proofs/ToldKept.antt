-- What is kept of the records that the marks of a history tell is what is kept of the history.
use Rattle.std.proofs.Common.{◌≡◌, ◌∙◌, ap, refl, ℤ, pos, ◌+ℤ◌, ◌-ℤ◌, ◌==◌, Bool, true, false, if◌then◌else◌, List, [], ◌∷◌, ◌++◌, Option, Some, None, arith}
use Rattle.std.specs.Prelude.{◌&&◌}
use Rattle.std.specs.Option.{option_map}
use Rattle.std.proofs.lemmas.Int.{ints}
use Rattle.cl_value.specs.Data.{Data}
use Rattle.cl_region.specs.Places.{move_rect}
use Rattle.cl_region.specs.declared.rects.Rect.{Rect}
use Rattle.cl_region.specs.declared.rects.Shift.{Shift}
use Rattle.cl_syntax.specs.declared.sites.Site.{Site}
use Rattle.cl_medium.specs.Ambients.{AmbientAt}
use Rattle.cl_medium.specs.Items.{Item, item_bounds, move_item}
use Rattle.cl_record.specs.declared.summaries.Summary.{Summary}
use Rattle.cl_record.specs.Counts.{count_of}
use Rattle.cl_record.specs.Heads.{HeadAt, Point, move_head, move_margin, move_origin, move_point}
use Rattle.cl_record.specs.Marks.{Mark, history_marks, marks_of_all}
use Rattle.cl_record.specs.Shifts.{join_shifts, still}
use Rattle.cl_record.specs.Trees.{Tree, Trees, leaf, none, presentation, tree, trees_of, update}
use Rattle.cl_record.proofs.Boxes.{summary-move}
use Rattle.cl_display.specs.Drawings.{is_in_range}
use Rattle.cl_display.specs.Outcomes.{DrawOutcome}
use Rattle.cl_display.specs.Walks.{OpeningAt, Walk, done, met}
use Rattle.cl_reuse.specs.Keeping.{limits_fit, margin_fits, may_keep, origin_fits, same_cache, same_number, shift_to}
use Rattle.cl_reuse.specs.Kept.{KeptAt, OldUpdate, found, found_in, is_that, kept, kept_at, kept_here, kept_of, or_then}
use Rattle.cl_reuse.specs.Records.{kept_among}
use Rattle.cl_reuse.proofs.MotionLemmas.{bounds-move}
use Rattle.cl_reuse.proofs.ToldRecords.{all_settled, history-told, row-marks, settled}

-- an old update in absolute places
abbrev pub settled_update : OldUpdate → OldUpdate
settled_update u = record { head = move_head u.place u.head; place = still; inside = all_settled u.place u.inside }

-- ---- found

or-settled : (a b : Option OldUpdate) → or_then (option_map settled_update a) (option_map settled_update b) ≡ option_map settled_update (or_then a b)
or-settled None b = refl
or-settled (Some u) b = refl

test-settled : (b : Bool) (u : OldUpdate) → ◌≡◌ {A = Option OldUpdate} (if b then Some (settled_update u) else None)
    (option_map settled_update (if b then Some u else None))
test-settled true u = refl
test-settled false u = refl

mutual
  in-settled : (site : Site) (id : Data) (at : Shift) (t : Tree Item) → found_in site id still (settled at t) ≡ option_map settled_update (found_in site id at t)
  in-settled site id at (leaf a) = refl
  in-settled site id at (presentation l p ts) = found-settled site id (join_shifts p at) ts
  in-settled site id at (update h p ts) = test-settled (is_that site id h) (record { head = h; place = join_shifts p at; inside = ts })

  -- the same update is found, in absolute places
  pub found-settled : (site : Site) (id : Data) (at : Shift) (ts : Trees Item) → found site id still (all_settled at ts) ≡ option_map settled_update (found site id at ts)
  found-settled site id at none = refl
  found-settled site id at (tree t ts) =
      let one = in-settled site id at t in
      let more = found-settled site id at ts in
      (λ i. or_then (one i) (more i)) ∙ or-settled (found_in site id at t) (found site id at ts)

-- ---- an opening

-- a number and the way to the new start are the same sum wherever both stand
same-way : (x s d n : ℤ) → (x +ℤ d) +ℤ (n -ℤ (s +ℤ d)) ≡ x +ℤ (n -ℤ s)
same-way x s d n = omega (arith, ints)

unmoved : (a : ℤ) → a +ℤ pos 0 ≡ a
unmoved a = omega (arith, ints)

module _ (p : Shift) (start : Point) (a : AmbientAt) where
  -- the way to the new start from where the old one stands, and from where it was moved
  abbrev way : Shift
  way = shift_to start a

  abbrev moved_way : Shift
  moved_way = shift_to (move_point p start) a

  margin-settled : (o : Option ℤ) → margin_fits moved_way (move_margin p o) a ≡ margin_fits way o a
  margin-settled None = refl
  margin-settled (Some x) = ap (λ (z : ℤ). same_number z a.margin) (same-way x start.x p.dx a.x)

  origin-settled : (o : Option Point) → origin_fits moved_way (move_origin p o) a ≡ origin_fits way o a
  origin-settled None = refl
  origin-settled (Some q) =
      let across = same-way q.x start.x p.dx a.x in
      let down = same-way q.y start.y p.dy a.y in
      λ i. same_number (across i) a.origin_x && same_number (down i) a.origin_y

  extent-settled : (r : Rect) → move_rect moved_way (move_rect p r) ≡ move_rect way r
  extent-settled r =
      let x1 = same-way r.x1 start.x p.dx a.x in
      let y1 = same-way r.y1 start.y p.dy a.y in
      let x2 = same-way r.x2 start.x p.dx a.x in
      let y2 = same-way r.y2 start.y p.dy a.y in
      λ i. record { x1 = x1 i; y1 = y1 i; x2 = x2 i; y2 = y2 i }

-- a head that was moved may be kept where the head may
pub keep-settled : (p : Shift) (h : HeadAt) (o : OpeningAt) → may_keep (move_head p h) o ≡ may_keep h o
keep-settled p h o =
    let m = h.measures in
    let margins = margin-settled p m.start o.ambient m.margin in
    let origins = origin-settled p m.start o.ambient m.origin in
    let extents = extent-settled p m.start o.ambient m.extent in
    λ i. same_cache h.cache o.cache
    && ((m.ink == o.ambient.ink) && (margins i && (origins i && (limits_fit m o && is_in_range (extents i)))))

-- it is kept as the same
here-settled : (u : OldUpdate) (o : OpeningAt) → kept_here (settled_update u) o ≡ kept_here u o
here-settled u o =
    let start = move_point u.place u.head.measures.start in
    let x = unmoved start.x in
    let y = unmoved start.y in
    let items : count_of (marks_of_all move_item (all_settled u.place u.inside)) ≡ count_of (marks_of_all move_item u.inside) =
    ap (λ (ms : List (Mark Item)). count_of ms) (row-marks u.place u.inside)
    ∙ ap (λ (s : Summary). s.count) (summary-move item_bounds move_item bounds-move u.place (marks_of_all move_item u.inside)) in
    λ i. record (kept_here u o) { was = record { x = x i; y = y i }; items = items i }

at-settled : (f : Option OldUpdate) (o : OpeningAt) (inside : Shift → Trees Item → List KeptAt)
    → ((at : Shift) (ts : Trees Item) → inside still (all_settled at ts) ≡ inside at ts)
    → kept_at (option_map settled_update f) o inside ≡ kept_at f o inside
at-settled None o inside h = refl
at-settled (Some u) o inside h =
    let keep = keep-settled u.place u.head o in
    let here = here-settled u o in
    let within = h u.place u.inside in
    λ i. if keep i then here i ∷ [] else within i

-- ---- walks

walk-settled : (w : Walk) (at : Shift) (ts : Trees Item) → kept_of still (all_settled at ts) w ≡ kept_of at ts w
walk-settled done at ts = refl
walk-settled (met o inside rest) at ts =
    let there = λ (to : Shift) (olds : Trees Item). kept_of to olds inside in
    let one : kept_at (found o.site o.id still (all_settled at ts)) o there ≡ kept_at (found o.site o.id at ts) o there =
    ap (λ (f : Option OldUpdate). kept_at f o there) (found-settled o.site o.id at ts)
    ∙ at-settled (found o.site o.id at ts) o there (walk-settled inside) in
    let more = walk-settled rest at ts in
    λ i. one i ++ more i

-- what is kept is told by the marks
pub kept-told : (old : List (Tree Item)) (o : DrawOutcome) → kept_among (history_marks move_item old) o ≡ kept old o
kept-told old o =
    ap (λ (ts : Trees Item). kept_of still ts o.walk) (history-told old) ∙ walk-settled o.walk still (trees_of old)
