-- What cells in a row paint.
use Rattle.std.proofs.Common.{◌≡◌, ℕ, ◌+◌, ◌-◌, ◌<◌, ◌≤◌, ℤ, pos, ◌+ℤ◌, Bool, true, false, List, length, Option, None, get_or, refl, sym, ◌∙◌, ap, arith, if◌then◌else◌}
use Rattle.std.specs.Prelude.{option_map, slice_get, unwrap_or}
use Rattle.std.proofs.lemmas.Bool.Decides.{nat_tests}
use Rattle.std.proofs.lemmas.Int.{ints}
use Rattle.std.proofs.lemmas.Option.{slice_get-get_or}
use Rattle.cl_medium.specs.Items.{AreCells, Painted, painted_of}
use Rattle.cl_outside.specs.declared.cells.Cell.{Cell}
use Rattle.cl_raster.specs.Raster.{Picture}
use Rattle.cl_region.proofs.Corners.{wrong}
use Rattle.cl_redisplay.specs.Paint.{cell_at, covers}
use Rattle.cl_redisplay.specs.Parts.{IsIn, PaintsPart, over, painted_in, row_cell}
use Rattle.cl_redisplay.specs.declared.areas.Area.{Area}
use Rattle.cl_redisplay.proofs.PartLemmas.{by_cases, passed}

back : (x column : ℕ) → (x + column) - x ≡ column
back x column = omega arith

pub row_place : (cells : List (Option Cell)) (x column : ℕ) (y : ℤ) (d found : Option Cell) → column < length cells → get_or cells column d ≡ found
    → row_cell cells (pos ((x + column) - x)) y ≡ option_map painted_of found
row_place cells x column y d found within is =
    ap (λ (n : ℕ). painted_in (slice_get cells n)) (back x column) ∙ (ap painted_in (slice_get-get_or cells column d within) ∙ ap (λ (o : Option Cell). option_map painted_of o) is)

-- ---- the cells of a row are what an item paints there

in_row : (line : Area) (x y : ℕ) → line.height ≡ 1 → covers line x y ≡ true → (line.x ≤ x) × ((x < line.x + line.width) × (y ≡ line.y))
in_row line x y one h = (grind (arith, nat_tests, h), (grind (arith, nat_tests, h), grind (arith, nat_tests, h, one)))

column_of : (x first area : ℕ) → area ≤ first → first ≤ x → pos (first - area) +ℤ pos (x - first) ≡ pos (x - area)
column_of x first area h k = omega (arith, ints)

outside : (b : Bool) (p q : Painted) → b ≡ false → (if b then p else q) ≡ q
outside true p q h = absurd (wrong (sym h))
outside false p q h = refl

module _ {A : Type 0} (cell : A → ℤ → ℤ → Option Painted) where
  same_over : (area line : Area) (item : A) (cells : List (Option Cell)) (old : List (Option Cell)) (x y : ℕ) (under : Painted) → IsIn line area → line.height ≡ 1
      → length cells ≡ line.width → AreCells (cell item) (pos (line.x - area.x)) (pos (line.y - area.y)) old cells → covers line x y ≡ true
      → over row_cell line cells x y under ≡ over cell area item x y under
  same_over area line item cells old x y under inside one count are h =
      let k = in_row line x y one h in
      let within : x - line.x < length cells = omega (arith, k, count) in
      let there = slice_get-get_or cells (x - line.x) None within in
      ap (λ (o : Option Painted). unwrap_or o under)
      (ap painted_in there ∙ (are.cells (x - line.x) (get_or cells (x - line.x) None) there
      ∙ (ap (λ (z : ℤ). cell item z (pos (line.y - area.y))) (column_of x line.x area.x inside.left k.0)
      ∙ ap (λ (n : ℕ). cell item (pos (x - area.x)) (pos (n - area.y))) (sym k.1.1))))

  pub paints_row : (p q : Picture) (area line : Area) (item : A) (cells old : List (Option Cell)) (first row : ℤ) → IsIn line area → line.height ≡ 1
      → first ≡ pos (line.x - area.x) → row ≡ pos (line.y - area.y) → length cells ≡ line.width
      → AreCells (cell item) first row old cells → PaintsPart row_cell p q line line cells → PaintsPart cell p q area line item
  paints_row p q area line item cells old first row inside one is_first is_row count found s = let are = rw (is_first, is_row) at found in record {
    size = s.size;
    cells = λ x y hx hy. by_cases (covers line x y)
        (λ h. s.cells x y hx hy ∙ ap (λ (c : Painted). if covers line x y then c else cell_at p x y) (same_over area line item cells old x y (cell_at p x y) inside one count are h))
        (λ h. passed (covers line x y) (cell_at q x y) (over cell area item x y (cell_at p x y)) (cell_at p x y) h
        (s.cells x y hx hy ∙ outside (covers line x y) (over row_cell line cells x y (cell_at p x y)) (cell_at p x y) h));
  }
