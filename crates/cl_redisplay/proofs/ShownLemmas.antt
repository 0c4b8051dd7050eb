-- Several panes on one screen, of which one is shown anew.
use Rattle.std.proofs.Common.{◌≡◌, ℕ, zero, suc, ◌+◌, ◌*◌, ◌<◌, ◌||◌, nat_le, Bool, true, false, if◌then◌else◌, List, [], ◌∷◌, All, length, get_or, set, refl, sym, ◌∙◌, ap, subst, arith}
use Rattle.std.proofs.lemmas.List.{get_or-map, get_or-replicate}
use Rattle.std.proofs.Math.Seq.{map-set_same}
use Rattle.std.proofs.lemmas.Bool.Decides.{nat_tests}
use Rattle.cl_medium.specs.Items.{Item, Painted}
use Rattle.cl_raster.proofs.Places.{inside}
use Rattle.cl_raster.specs.Raster.{Picture, SameSize, blank_picture}
use Rattle.cl_record.specs.Marks.{Mark}
use Rattle.cl_region.proofs.Corners.{wrong}
use Rattle.cl_redisplay.specs.Paint.{LiesIn, Repaints, blank_cell, cell_at, covers, pane_cell}
use Rattle.cl_redisplay.specs.Shown.{Apart, AreApart, Shown, Shows, area_in, areas_of, shown_at}
use Rattle.cl_redisplay.specs.declared.areas.Area.{Area}
use Rattle.cl_redisplay.proofs.Choices.{chosen, choice_is}

-- the first one is set: the new one's area is no larger than the old one's
set_first : (new old : Bool) (n o rest : Painted) → (new ≡ false → old ≡ false)
    → (if new then n else rest) ≡ (if new then n else (if old then o else rest))
set_first true old n o rest f = refl
set_first false old n o rest f = rw (f refl) refl

-- a later one is set, apart from the first one
set_later : (new first : Bool) (n f before after : Painted) → (first ≡ true → new ≡ false) → after ≡ (if new then n else before)
    → (if first then f else after) ≡ (if new then n else (if first then f else before))
set_later true true n f before after apart e = absurd (wrong (sym (apart refl)))
set_later true false n f before after apart e = e
set_later false true n f before after apart e = refl
set_later false false n f before after apart e = e

length_areas : (panes : List Shown) → length (areas_of panes) ≡ length panes
length_areas [] = refl
length_areas (p ∷ panes) = ap suc (length_areas panes)

-- one is set to another of the same area: that shows it, and every other place is as before
pub shown_at-set : (panes : List Shown) (k : ℕ) (d q : Shown) → k < length panes → AreApart (areas_of panes) → q.area ≡ (get_or panes k d).area
    → (x y : ℕ) → shown_at (set panes k q) x y ≡ (if covers q.area x y then pane_cell q.area q.marks x y else shown_at panes x y)
shown_at-set [] k d q h apart e x y = absurd (omega (arith, h))
shown_at-set (p ∷ panes) zero d q h apart e x y =
    set_first (covers q.area x y) (covers p.area x y) (pane_cell q.area q.marks x y) (pane_cell p.area p.marks x y) (shown_at panes x y)
    (λ no. subst (λ (a : Area). covers a x y ≡ false) e no)
shown_at-set (p ∷ panes) (suc k) d q h apart e x y =
    let within : k < length panes = omega (arith, h) in
    let rest = shown_at-set panes k d q within apart.1 e x y in
    let set_one : get_or (areas_of panes) k (area_in d) ≡ q.area = get_or-map area_in panes k d (area_in d) within ∙ sym e in
    let parted : Apart p.area q.area =
    subst (λ (a : Area). Apart p.area a) set_one (apart.0 k (area_in d) (omega (arith, within, length_areas panes))) in
    set_later (covers q.area x y) (covers p.area x y) (pane_cell q.area q.marks x y) (pane_cell p.area p.marks x y) (shown_at panes x y)
    (shown_at (set panes k q) x y) (parted x y) rest

-- the areas stay
pub areas_of-set : (panes : List Shown) (k : ℕ) (d q : Shown) → q.area ≡ (get_or panes k d).area → areas_of (set panes k q) ≡ areas_of panes
areas_of-set panes k d q e = map-set_same area_in panes k q d e

-- a screen that shows panes shows the new one too, once its area is painted anew
pub Shows-set : (old new : Picture) (panes : List Shown) (k : ℕ) (d q : Shown) → k < length panes → AreApart (areas_of panes)
    → q.area ≡ (get_or panes k d).area → Shows old panes → Repaints old new q.area q.marks → Shows new (set panes k q)
Shows-set old new panes k d q h apart e shows paints = record {
  cells = λ x y hx hy.
      let wide : x < old.width = omega (arith, hx, paints.others.size.width) in
      let high : y < old.height = omega (arith, hy, paints.others.size.height) in
      chosen (covers q.area x y) (pane_cell q.area q.marks x y) (cell_at old x y) (cell_at new x y) (paints.cells x y wide high) (paints.others.cells x y wide high)
      ∙ (ap (λ (c : Painted). if covers q.area x y then pane_cell q.area q.marks x y else c) (shows.cells x y wide high)
      ∙ sym (shown_at-set panes k d q h apart e x y));
}

-- an area lies in the picture still
pub lies_still : (old new : Picture) (area : Area) → SameSize old new → LiesIn area old → LiesIn area new
lies_still old new area same lies = record {
  columns = omega (arith, same.width, lies.columns);
  rows = omega (arith, same.height, lies.rows);
  most_columns = omega (arith, same.width, lies.most_columns);
  most_rows = omega (arith, same.height, lies.most_rows);
}

-- ---- a blank screen

nothing_shown : (panes : List Shown) → All (λ p. p.marks ≡ []) panes → (x y : ℕ) → shown_at panes x y ≡ blank_cell
nothing_shown [] none x y = refl
nothing_shown (p ∷ panes) none x y =
    let first : p.marks ≡ [] = none 0 p (omega arith) in
    choice_is (covers p.area x y) (pane_cell p.area p.marks x y) (shown_at panes x y) blank_cell
    (λ here. ap (λ (marks : List (Mark Item)). pane_cell p.area marks x y) first)
    (λ away. nothing_shown panes (λ k d h. none (suc k) d (omega (arith, h))) x y)

blank_at : (width height x y : ℕ) → x < width → y < height → cell_at (blank_picture width height) x y ≡ blank_cell
blank_at width height x y hx hy =
    let place : y * width + x < width * height = inside width height x y hx hy in
    λ k. record {
      glyph = get_or-replicate {A = ℕ} (width * height) (y * width + x) 32 0 place k;
      ink = get_or-replicate {A = ℕ} (width * height) (y * width + x) 0 0 place k;
    }

-- it shows panes that draw nothing
pub Shows-blank : (width height : ℕ) (panes : List Shown) → All (λ p. p.marks ≡ []) panes → Shows (blank_picture width height) panes
Shows-blank width height panes none = record {
  cells = λ x y hx hy. blank_at width height x y hx hy ∙ sym (nothing_shown panes none x y);
}

-- ---- areas whose columns or whose rows are parted

pub Apart-parted : (a b : Area)
    → (nat_le (a.x + a.width) b.x || nat_le (b.x + b.width) a.x) || (nat_le (a.y + a.height) b.y || nat_le (b.y + b.height) a.y) ≡ true → Apart a b
Apart-parted a b parted x y here = grind (arith, nat_tests, parted, here)
