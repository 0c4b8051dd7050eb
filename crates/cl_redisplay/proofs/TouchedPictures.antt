-- What the operations of touched cells leave of a picture, and what tells them.
use Rattle.std.proofs.Common.{◌≡◌, ℕ, zero, suc, ◌+◌, ◌-◌, ◌<◌, ◌≤◌, ℤ, ◌==◌, Bool, true, false, ◌&&◌, ◌||◌, if◌then◌else◌, List, [], ◌∷◌, ◌++◌, map, refl, sym, ◌∙◌, ap, arith, append-nil}
use Rattle.std.proofs.lemmas.Bool.Decides.{nat_tests}
use Rattle.cl_medium.specs.Items.{Painted}
use Rattle.cl_outside.specs.Device.{in_span}
use Rattle.cl_outside.specs.Operations.{Op}
use Rattle.cl_region.proofs.Corners.{wrong}
use Rattle.cl_redisplay.specs.Operations.{area_ops, cell_after_all, row_cells, row_ops, rows_ops, run_op, runs_from}
use Rattle.cl_redisplay.specs.Paint.{covers, is_among}
use Rattle.cl_redisplay.specs.Touching.{everywhere, on_screen, touched_columns, touched_ops, touched_row_ops, touched_rows_ops}
use Rattle.cl_redisplay.specs.declared.areas.Area.{Area}
use Rattle.cl_redisplay.proofs.OperationLemmas.{cell_after_all-append, covered}
use Rattle.cl_redisplay.proofs.Runs.{same_number}
use Rattle.cl_redisplay.proofs.TouchedRuns.{over-touched_runs, touched-stretch, touched_runs-same}

-- ---- what operations leave

-- what is in the first row and touched, else what is below and touched, else what was there
next_row : (among row below there here : Bool) (p q r : Painted) → (row ≡ true → there ≡ here) → (row ≡ true → p ≡ q)
    → (if (among && below) && there then q else (if (row && among) && here then p else r)) ≡ (if (among && (row || below)) && there then q else r)
next_row true true true true here p q r f g = refl
next_row true true true false true p q r f g = absurd (wrong (f refl))
next_row true true true false false p q r f g = refl
next_row true true false true true p q r f g = g refl
next_row true true false true false p q r f g = absurd (wrong (sym (f refl)))
next_row true true false false true p q r f g = absurd (wrong (f refl))
next_row true true false false false p q r f g = refl
next_row true false below there here p q r f g = refl
next_row false true below there here p q r f g = refl
next_row false false below there here p q r f g = refl

span_is : (x y width u v : ℕ) → in_span x y width u v ≡ (v == y) && is_among x width u
span_is x y width u v = grind (arith, nat_tests)

rows-next : (y n v : ℕ) → is_among y (suc n) v ≡ (v == y) || is_among (y + 1) n v
rows-next y n v = grind (arith, nat_tests)

over-touched_rows : (cell : (x y : ℕ) → Painted) (t : (x y : ℕ) → Bool) (x width y count u v : ℕ) (under : Painted)
    → cell_after_all (touched_rows_ops cell t x width y count) u v under
    ≡ (if (is_among x width u && is_among y count v) && t u v then cell u v else under)
over-touched_rows cell t x width y zero u v under =
    let none : is_among x width u && is_among y 0 v ≡ false = grind (arith, nat_tests) in rw none refl
over-touched_rows cell t x width y (suc n) u v under =
    let among = is_among x width u in
    let below = is_among (y + 1) n v in
    cell_after_all-append (touched_row_ops cell t y x width) (touched_rows_ops cell t x width (y + 1) n) u v under
    ∙ (over-touched_rows cell t x width (y + 1) n u v (cell_after_all (touched_row_ops cell t y x width) u v under)
    ∙ (ap (λ (c : Painted). if (among && below) && t u v then cell u v else c) (over-touched_runs (row_cells cell y) (touched_columns t y) x width y u v under)
    ∙ (ap (λ (b : Bool). if (among && below) && t u v then cell u v else (if b && t u y then cell u y else under)) (span_is x y width u v)
    ∙ (next_row among (v == y) below (t u v) (t u y) (cell u y) (cell u v) under
    (λ row. ap (t u) (same_number v y row)) (λ row. ap (cell u) (sym (same_number v y row)))
    ∙ ap (λ (b : Bool). if (among && b) && t u v then cell u v else under) (sym (rows-next y n v))))))

-- the operations of what is touched of an area show its touched cells, and leave all others
pub touched_after : (cell : (x y : ℕ) → Painted) (touched : (x y : ℕ) → Bool) (area : Area) (u v : ℕ) (under : Painted)
    → cell_after_all (touched_ops cell touched area) u v under ≡ (if covers area u v && touched u v then cell u v else under)
touched_after cell touched area u v under = over-touched_rows cell touched area.x area.width area.y area.height u v under

-- ---- what tells the operations

touched_rows-same : (c d : (x y : ℕ) → Painted) (t s : (x y : ℕ) → Bool) (x width y count : ℕ)
    → ((u v : ℕ) → x ≤ u → u < x + width → y ≤ v → v < y + count → t u v ≡ s u v)
    → ((u v : ℕ) → x ≤ u → u < x + width → y ≤ v → v < y + count → t u v ≡ true → c u v ≡ d u v)
    → touched_rows_ops c t x width y count ≡ touched_rows_ops d s x width y count
touched_rows-same c d t s x width y zero touched cells = refl
touched_rows-same c d t s x width y (suc n) touched cells =
    let first : touched_row_ops c t y x width ≡ touched_row_ops d s y x width =
    ap (map (run_op y)) (touched_runs-same (row_cells c y) (row_cells d y) (touched_columns t y) (touched_columns s y) x width
    (λ u from less. touched u y from less (omega arith) (omega arith)) (λ u from less yes. cells u y from less (omega arith) (omega arith) yes)) in
    let rest = touched_rows-same c d t s x width (y + 1) n
    (λ u v from less below above. touched u v from less (omega (arith, below)) (omega (arith, above)))
    (λ u v from less below above yes. cells u v from less (omega (arith, below)) (omega (arith, above)) yes) in
    ap (λ (ops : List Op). ops ++ touched_rows_ops c t x width (y + 1) n) first ∙ ap (λ (ops : List Op). touched_row_ops d s y x width ++ ops) rest

-- two ways to say what is touched that agree at each place of the area give the same operations
pub touched-same : (cell : (x y : ℕ) → Painted) (t u : (x y : ℕ) → Bool) (area : Area)
    → ((x y : ℕ) → covers area x y ≡ true → t x y ≡ u x y) → touched_ops cell t area ≡ touched_ops cell u area
touched-same cell t u area same =
    touched_rows-same cell cell t u area.x area.width area.y area.height
    (λ x y left right top bottom. same x y (covered area x y left right top bottom)) (λ x y left right top bottom yes. refl)

-- cells that are equal at each touched place of the area give the same operations
pub touched-cells : (c d : (x y : ℕ) → Painted) (touched : (x y : ℕ) → Bool) (area : Area)
    → ((x y : ℕ) → covers area x y ≡ true → touched x y ≡ true → c x y ≡ d x y) → touched_ops c touched area ≡ touched_ops d touched area
touched-cells c d touched area same =
    touched_rows-same c d touched touched area.x area.width area.y area.height
    (λ x y left right top bottom. refl) (λ x y left right top bottom yes. same x y (covered area x y left right top bottom) yes)

-- ---- all is touched

whole_row : (cell : (x y : ℕ) → Painted) (t : (x y : ℕ) → Bool) (y x width : ℕ) → ((u v : ℕ) → t u v ≡ true)
    → touched_row_ops cell t y x width ≡ row_ops cell y x width
whole_row cell t y x width all =
    ap (map (run_op y))
    (touched-stretch (row_cells cell y) (touched_columns t y) x width 0 width (x + width) (omega arith) refl (λ u h k. all u y) (λ some. absurd (omega arith))
    ∙ append-nil (runs_from (row_cells cell y) x width))

whole_rows : (cell : (x y : ℕ) → Painted) (t : (x y : ℕ) → Bool) (x width y count : ℕ) → ((u v : ℕ) → t u v ≡ true)
    → touched_rows_ops cell t x width y count ≡ rows_ops cell x width y count
whole_rows cell t x width y zero all = refl
whole_rows cell t x width y (suc n) all =
    ap (λ (ops : List Op). ops ++ touched_rows_ops cell t x width (y + 1) n) (whole_row cell t y x width all)
    ∙ ap (λ (ops : List Op). row_ops cell y x width ++ ops) (whole_rows cell t x width (y + 1) n all)

-- the operations of an area that is touched everywhere are those of the area
pub touched-whole : (cell : (x y : ℕ) → Painted) (area : Area) → touched_ops cell (on_screen everywhere area) area ≡ area_ops cell area
touched-whole cell area = whole_rows cell (on_screen everywhere area) area.x area.width area.y area.height (λ u v. refl)

-- ---- the first of some rows

pub touched_rows-next : (cell : (x y : ℕ) → Painted) (t : (x y : ℕ) → Bool) (x width y end : ℕ) → y < end
    → touched_rows_ops cell t x width y (end - y) ≡ touched_row_ops cell t y x width ++ touched_rows_ops cell t x width (y + 1) (end - (y + 1))
touched_rows-next cell t x width y end h =
    let next : end - y ≡ suc (end - (y + 1)) = omega arith in
    rw next refl
