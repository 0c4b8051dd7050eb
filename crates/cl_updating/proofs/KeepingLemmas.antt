-- What an old update draws where it is kept.
use Rattle.std.proofs.Common.{◌≡◌, ◌∙◌, ap, sym, subst, refl, ℤ, Bool, true, false, List, [], ◌∷◌, ◌++◌, Option, Some, None, arith, append-nil}
use Rattle.std.proofs.Common.{ℕ, Result, Ok}
use Rattle.std.specs.Prelude.{◌==◌, ◌&&◌, if◌then◌else◌, IfSome, is_some, option_map}
use Rattle.std.specs.Ordering.{is_eq}
use Rattle.std.specs.declared.cmp.Ordering.{Ordering}
use Rattle.std.specs.declared.cmp.Ordering.TheVariants.{Less, Equal, Greater}
use Rattle.std.proofs.lemmas.Bool.Decides.{nat_tests}
use Rattle.cl_value.specs.Data.{Data, order_of}
use Rattle.cl_value.specs.OrderLaws.{same_data}
use Rattle.cl_region.specs.Places.{IsInRange, IsNear, box, move_rect}
use Rattle.cl_region.specs.declared.rects.Rect.{Rect}
use Rattle.cl_region.specs.declared.rects.Shift.{Shift}
use Rattle.cl_region.proofs.Corners.{and_left, and_right}
use Rattle.cl_syntax.specs.declared.sites.Site.{Site}
use Rattle.cl_medium.specs.Items.{Item, item_bounds, move_item}
use Rattle.cl_medium.specs.ItemLaws.{item_moves_bounds}
use Rattle.cl_record.specs.Boxes.{bottom_of, extent_box, items_box, join_boxes}
use Rattle.cl_record.specs.Heads.{HeadAt, move_head}
use Rattle.cl_record.specs.Marks.{Mark, close, history_marks, marks_of, marks_of_all, move_marks, open_update}
use Rattle.cl_record.specs.Ranges.{IsSound}
use Rattle.cl_record.specs.Replays.{items_drawn}
use Rattle.cl_record.specs.Shifts.{still}
use Rattle.cl_record.specs.Trees.{Tree, Trees, update}
use Rattle.cl_record.proofs.Moves.{all_moved-append, moved-still}
use Rattle.cl_record.proofs.Ranges.{Fits, items-fit, place-fits, still-place, tree-range}
use Rattle.cl_display.specs.Drawings.{PartAt, is_in_range, lower_end}
use Rattle.cl_display.specs.Siblings.{same_site}
use Rattle.cl_display.specs.Sums.{lowest_of}
use Rattle.cl_display.specs.Updates.{KeyAt, updated_part}
use Rattle.cl_display.specs.Walks.{OpeningAt}
use Rattle.cl_display.proofs.ItemLemmas.{marks_behind}
use Rattle.cl_display.proofs.PartLemmas.{items-closed}
use Rattle.cl_reuse.specs.Keeping.{kept_head, kept_part, limits_fit, margin_fits, may_keep, measures_fit, origin_fits, same_cache, same_values, shift_at}
use Rattle.cl_reuse.specs.Kept.{is_that}
use Rattle.cl_updating.specs.Putting.{measured_part}
use Rattle.cl_updating.proofs.OpeningLemmas.{range-by}

-- ---- the lowest end

lower-joined : (r : Rect) (o : Option Rect)
    → option_map (λ (q : Rect). q.y2) (join_boxes box (Some r) o) ≡ lower_end (Some r.y2) (option_map (λ (q : Rect). q.y2) o)
lower-joined r None = refl
lower-joined r (Some q) = refl

-- the lower side of the box of items is the greatest end of an item down
pub bottom-is : (items : List Item) → bottom_of item_bounds items ≡ lowest_of items
bottom-is [] = refl
bottom-is (a ∷ items) =
    lower-joined (item_bounds a) (items_box item_bounds items)
    ∙ ap (λ (o : Option ℤ). lower_end (Some (item_bounds a).y2) o) (bottom-is items)

still-fits : (o : Option Rect) → Fits still o → IfSome o IsInRange
still-fits None h = tt
still-fits (Some r) h = subst IsInRange (moved-still r) h

side-near : (o : Option Rect) → IfSome o IsInRange → IfSome (option_map (λ (r : Rect). r.y2) o) IsNear
side-near None h = tt
side-near (Some r) h = h.y2

-- what a record that holds together draws ends in the range
pub bottom-near : (t : Tree Item) → IsSound item_bounds move_item t → IfSome (bottom_of item_bounds (items_drawn (marks_of move_item t))) IsNear
bottom-near t h =
    let ms = marks_of move_item t in
    let extents = extent_box item_bounds ms in
    let range = tree-range item_bounds move_item item_moves_bounds t h in
    let fits = items-fit item_bounds still ms (place-fits still extents (still-place extents range)) in
    side-near (items_box item_bounds (items_drawn ms)) (still-fits (items_box item_bounds (items_drawn ms)) fits)

-- ---- marks

-- the marks of one record behind others
pub marks-put : (ts : List (Tree Item)) (t : Tree Item) → history_marks move_item (ts ++ t ∷ []) ≡ history_marks move_item ts ++ marks_of move_item t
marks-put ts t =
    marks_behind ts (t ∷ [])
    ∙ ap (λ (ms : List (Mark Item)). history_marks move_item ts ++ ms) (append-nil (marks_of move_item t))

marks-piece : (h : HeadAt) (v : Shift) (ts : Trees Item)
    → marks_of move_item (update h v ts) ≡ open_update (move_head v h) ∷ (move_marks move_item v (marks_of_all move_item ts) ++ close ∷ [])
marks-piece h v ts =
    ap (λ (ms : List (Mark Item)). open_update (move_head v h) ∷ ms) (all_moved-append move_item v (marks_of_all move_item ts) (close ∷ []))

-- what an update that stands there draws is what it drew, moved, seen from outside
pub part-piece : (h : HeadAt) (v : Shift) (ts : Trees Item)
    → measured_part v h.measures (marks_of move_item (update h v ts)) ≡ updated_part (move_head v h) (kept_part v h (marks_of_all move_item ts))
part-piece h v ts =
    let inside = move_marks move_item v (marks_of_all move_item ts) in
    ap (λ (ms : List (Mark Item)). measured_part v h.measures ms) (marks-piece h v ts)
    ∙ ap (λ (items : List Item). record (updated_part (move_head v h) (kept_part v h (marks_of_all move_item ts))) { lowest = lowest_of items })
    (items-closed inside)

-- ---- heads

site-same : (a b : Site) → same_site a b ≡ true → a ≡ b
site-same a b h =
    let forms : a.form ≡ b.form = grind (arith, nat_tests, and_left (a.form == b.form) (a.query == b.query) h) in
    let queries : a.query ≡ b.query = grind (arith, nat_tests, and_right (a.form == b.form) (a.query == b.query) h) in
    λ i. record { form = forms i; query = queries i }

equal : (o : Ordering) → is_eq o ≡ true → o ≡ Equal
equal Less h = cc
equal Equal h = refl
equal Greater h = cc

data-same : (d e : Data) → is_eq (order_of d e) ≡ true → d ≡ e
data-same d e h = same_data d e (equal (order_of d e) h)

values-same : (ds es : List Data) → same_values ds es ≡ true → ds ≡ es
values-same [] [] h = refl
values-same (d ∷ ds) (e ∷ es) h =
    let first : d ≡ e = data-same d e (and_left (is_eq (order_of d e)) (same_values ds es) h) in
    let rest = values-same ds es (and_right (is_eq (order_of d e)) (same_values ds es) h) in
    λ i. first i ∷ rest i
values-same [] (e ∷ es) h = cc
values-same (d ∷ ds) [] h = cc

cache-same : (old new : Option (List Data)) → same_cache old new ≡ true → old ≡ new
cache-same (Some ds) (Some es) h = ap (λ (vs : List Data). Some vs) (values-same ds es h)
cache-same (Some ds) None h = cc
cache-same None new h = cc

-- the head of an update that is kept is the old one, moved
pub head-kept : (v : Shift) (key : KeyAt) (h : HeadAt) (o : OpeningAt) → is_that key.site key.id h ≡ true → key.cache ≡ o.cache → may_keep h o ≡ true
    → move_head v h ≡ kept_head v key h
head-kept v key h o that cache may =
    let sites = sym (site-same key.site h.site (and_left (same_site key.site h.site) (is_eq (order_of key.id h.id)) that)) in
    let ids = sym (data-same key.id h.id (and_right (same_site key.site h.site) (is_eq (order_of key.id h.id)) that)) in
    let caches = cache-same h.cache o.cache (and_left (same_cache h.cache o.cache) (measures_fit (shift_at h o) h.measures o) may) ∙ sym cache in
    λ i. record { site = sites i; id = ids i; cache = caches i; measures = (move_head v h).measures }

-- ---- the range

-- an update that may be kept stays in the range
pub range-kept : (h : HeadAt) (o : OpeningAt) → may_keep h o ≡ true → IsInRange (move_rect (shift_at h o) h.measures.extent)
range-kept h o may =
    let v = shift_at h o in
    let m = h.measures in
    let range = is_in_range (move_rect v m.extent) in
    let limits = limits_fit m o in
    let origins = origin_fits v m.origin o.ambient in
    let margins = margin_fits v m.margin o.ambient in
    let inks = m.ink == o.ambient.ink in
    let h0 = and_right (same_cache h.cache o.cache) (inks && (margins && (origins && (limits && range)))) may in
    let h1 = and_right inks (margins && (origins && (limits && range))) h0 in
    let h2 = and_right margins (origins && (limits && range)) h1 in
    let h3 = and_right origins (limits && range) h2 in
    range-by (move_rect v m.extent) (and_right limits range h3)

-- ---- what was used

pub some-used : {A : Type 0} (used : Bool) (x : A) → is_some (if used then Some x else None) ≡ used
some-used true x = refl
some-used false x = refl

-- ---- results

abbrev came : PartAt → Result PartAt ℕ
came p = Ok p

pub came-part : (p q : PartAt) → came p ≡ came q → p ≡ q
came-part p q e = cc
