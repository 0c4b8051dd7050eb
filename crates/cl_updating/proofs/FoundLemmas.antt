-- What is found at a level is the first of its updates, and stands in the range.
use Rattle.std.proofs.Common.{◌≡◌, Bool, true, false, List, [], ◌∷◌, ◌++◌, Option, Some, None, refl, sym, ◌∙◌}
use Rattle.std.specs.Prelude.{IfSome, ◌&&◌, if◌then◌else◌, is_none}
use Rattle.cl_value.specs.Data.{Data}
use Rattle.cl_region.specs.Places.{IsInRange, move_rect}
use Rattle.cl_region.specs.declared.rects.Rect.{Rect}
use Rattle.cl_region.specs.declared.rects.Shift.{Shift}
use Rattle.cl_syntax.specs.declared.sites.Site.{Site}
use Rattle.cl_medium.specs.ItemLaws.{item_moves_bounds}
use Rattle.cl_medium.specs.Items.{Item, item_bounds, move_item}
use Rattle.cl_record.specs.Boxes.{extent_box}
use Rattle.cl_record.specs.Marks.{marks_of_all}
use Rattle.cl_record.specs.Ranges.{ArePlaced, AreSound, IsPlaced, StayInRange}
use Rattle.cl_record.specs.Shifts.{IsShift, join_shifts}
use Rattle.cl_record.specs.Trees.{Tree, Trees, are_bare, is_bare, leaf, none, presentation, tree, update}
use Rattle.cl_record.proofs.Ranges.{bare-row, fits-extent, placed-first, placed-rest, placed-shown, row-range, shift_between}
use Rattle.cl_reuse.specs.Kept.{OldUpdate, found, found_in, is_that, or_then}
use Rattle.cl_updating.specs.Gathers.{UpdateIn, first_of, old_in, updates_in, updates_of}
use Rattle.cl_updating.specs.Places.{StandsInRange}

-- ---- the first of a level

-- the first of some updates, or of others behind them
pub first-append : (site : Site) (id : Data) (us vs : List (UpdateIn Item)) → first_of site id (us ++ vs) ≡ or_then (first_of site id us) (first_of site id vs)
first-append site id [] vs = refl
first-append site id (u ∷ us) vs = by_test (is_that site id u.head) (first-append site id us vs)
  where
    by_test : (b : Bool) → first_of site id (us ++ vs) ≡ or_then (first_of site id us) (first_of site id vs)
        → (if b then Some (old_in u) else first_of site id (us ++ vs)) ≡ or_then (if b then Some (old_in u) else first_of site id us) (first_of site id vs)
    by_test true more = refl
    by_test false more = more

mutual
  first-in : (site : Site) (id : Data) (at : Shift) (t : Tree Item) → found_in site id at t ≡ first_of site id (updates_in at t)
  first-in site id at (leaf a) = refl
  first-in site id at (presentation l p ts) = found-first site id (join_shifts p at) ts
  first-in site id at (update h p ts) = refl

  -- what is found at a level is the first of its updates with the site and the id
  pub found-first : (site : Site) (id : Data) (at : Shift) (ts : Trees Item) → found site id at ts ≡ first_of site id (updates_of at ts)
  found-first site id at none = refl
  found-first site id at (tree t ts) =
      let here = first-in site id at t in
      let later = found-first site id at ts in
      (λ i. or_then (here i) (later i)) ∙ sym (first-append site id (updates_in at t) (updates_of at ts))

-- ---- where it stands

or-in-range : (o p : Option OldUpdate) → IfSome o StandsInRange → IfSome p StandsInRange → IfSome (or_then o p) StandsInRange
or-in-range None p h k = k
or-in-range (Some u) p h k = h

test-in-range : (b : Bool) (u : OldUpdate) → StandsInRange u → IfSome (if b then Some u else None) StandsInRange
test-in-range true u h = h
test-in-range false u h = tt

mutual
  in-range-in : (site : Site) (id : Data) (at : Shift) (t : Tree Item) → IsPlaced item_bounds move_item at t → IfSome (found_in site id at t) StandsInRange
  in-range-in site id at (leaf a) h = tt
  in-range-in site id at (presentation l p ts) h =
      found-in-range site id (join_shifts p at) ts (placed-shown item_bounds move_item item_moves_bounds at p l ts h)
  in-range-in site id at (update k p ts) h =
      test-in-range (is_that site id k) (record { head = k; place = join_shifts p at; inside = ts })
      ((fits-extent item_bounds move_item item_moves_bounds at p k ts h.sound).0 h.range)

  -- what is found of records that stand in the range stands there
  pub found-in-range : (site : Site) (id : Data) (at : Shift) (ts : Trees Item) → ArePlaced item_bounds move_item at ts → IfSome (found site id at ts) StandsInRange
  found-in-range site id at none h = tt
  found-in-range site id at (tree t ts) h =
      or-in-range (found_in site id at t) (found site id at ts)
      (in-range-in site id at t (placed-first item_bounds move_item item_moves_bounds at t ts h))
      (found-in-range site id at ts (placed-rest item_bounds move_item item_moves_bounds at t ts h))

-- ---- records without items and updates

both-true : (a b : Bool) → a && b ≡ true → (a ≡ true) × (b ≡ true)
both-true true b h = (refl, h)
both-true false b h = absurd (cc)

or-none : (o p : Option OldUpdate) → o ≡ None → p ≡ None → or_then o p ≡ None
or-none o p h k = rw (h, k) refl

mutual
  bare-in : (site : Site) (id : Data) (at : Shift) (t : Tree Item) → is_bare t ≡ true → found_in site id at t ≡ None
  bare-in site id at (leaf a) h = refl
  bare-in site id at (presentation l p ts) h = found-bare site id (join_shifts p at) ts h
  bare-in site id at (update k p ts) h = absurd (cc)

  found-bare : (site : Site) (id : Data) (at : Shift) (ts : Trees Item) → are_bare ts ≡ true → found site id at ts ≡ None
  found-bare site id at none h = refl
  found-bare site id at (tree t ts) h =
      let both = both-true (is_bare t) (are_bare ts) h in
      or-none (found_in site id at t) (found site id at ts) (bare-in site id at t both.0) (found-bare site id at ts both.1)

-- where there is no box nothing is found
pub found-nothing : (site : Site) (id : Data) (at : Shift) (ts : Trees Item) → is_none (extent_box item_bounds (marks_of_all move_item ts)) ≡ true
    → found site id at ts ≡ None
found-nothing site id at ts h = found-bare site id at ts (bare-row item_bounds move_item item_moves_bounds ts ∙ h)

-- ---- records that stand in the range

shift-of : (at : Shift) (o : Option Rect) → is_none o ≡ false → IfSome o IsInRange → IfSome o (λ r. IsInRange (move_rect at r)) → IsShift at
shift-of at None e h k = absurd (cc)
shift-of at (Some r) e h k = shift_between at r h k

-- records with an item or an update, that stay in the range when they are moved so far
pub placed-of : (at : Shift) (ts : Trees Item) → is_none (extent_box item_bounds (marks_of_all move_item ts)) ≡ false → AreSound item_bounds move_item ts
    → StayInRange item_bounds move_item at ts → ArePlaced item_bounds move_item at ts
placed-of at ts e sound fits = record {
  shift = shift-of at (extent_box item_bounds (marks_of_all move_item ts)) e (row-range item_bounds move_item item_moves_bounds ts sound) fits;
  sound = sound;
  range = fits;
}
