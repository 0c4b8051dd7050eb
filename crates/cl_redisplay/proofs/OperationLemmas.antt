-- What the operations of an area show of the cells of a screen.
use Rattle.std.proofs.Common.{◌≡◌, ℕ, zero, suc, ◌+◌, ◌-◌, ◌<◌, ◌≤◌, ◌&&◌, true, false, if◌then◌else◌, List, [], ◌∷◌, ◌++◌, map, refl, ◌∙◌, ap, arith}
use Rattle.std.proofs.lemmas.Bool.Decides.{nat_tests}
use Rattle.cl_medium.specs.Items.{Painted}
use Rattle.cl_outside.specs.Device.{in_span}
use Rattle.cl_outside.specs.Operations.{Op}
use Rattle.cl_redisplay.specs.Operations.{area_ops, cell_after, cell_after_all, row_cells, row_ops, rows_ops, run_op}
use Rattle.cl_redisplay.specs.Paint.{covers, is_among}
use Rattle.cl_redisplay.specs.declared.areas.Area.{Area}
use Rattle.cl_redisplay.proofs.Choices.{chosen, choice_is}
use Rattle.cl_redisplay.proofs.Runs.{over-runs, runs-same}

pub cell_after_all-append : (xs ys : List Op) (u v : ℕ) (under : Painted)
    → cell_after_all (xs ++ ys) u v under ≡ cell_after_all ys u v (cell_after_all xs u v under)
cell_after_all-append [] ys u v under = refl
cell_after_all-append (x ∷ xs) ys u v under = cell_after_all-append xs ys u v (cell_after x u v under)

over-rows : (cell : (x y : ℕ) → Painted) (x width y count u v : ℕ) (under : Painted)
    → cell_after_all (rows_ops cell x width y count) u v under ≡ (if is_among x width u && is_among y count v then cell u v else under)
over-rows cell x width y zero u v under =
    let none : is_among x width u && is_among y 0 v ≡ false = grind (arith, nat_tests) in rw none refl
over-rows cell x width y (suc n) u v under =
    cell_after_all-append (row_ops cell y x width) (rows_ops cell x width (y + 1) n) u v under
    ∙ (over-rows cell x width (y + 1) n u v (cell_after_all (row_ops cell y x width) u v under)
    ∙ (ap (λ (c : Painted). if is_among x width u && is_among (y + 1) n v then cell u v else c) (over-runs (row_cells cell y) x width y u v under)
    ∙ chosen (is_among x width u && is_among y (suc n) v) (cell u v) under
    (if is_among x width u && is_among (y + 1) n v then cell u v else (if in_span x y width u v then cell u y else under))
    (λ all. choice_is (is_among x width u && is_among (y + 1) n v) (cell u v) (if in_span x y width u v then cell u y else under) (cell u v)
    (λ below. refl)
    (λ no. let here : in_span x y width u v ≡ true = grind (arith, nat_tests, all, no) in
    let at : y ≡ v = grind (arith, nat_tests, all, no) in
    rw (here, at) refl))
    (λ none. let below : is_among x width u && is_among (y + 1) n v ≡ false = grind (arith, nat_tests, none) in
    let here : in_span x y width u v ≡ false = grind (arith, nat_tests, none) in
    rw (below, here) refl)))

-- the operations of an area show its cells, and leave all others
pub area_after : (cell : (x y : ℕ) → Painted) (area : Area) (u v : ℕ) (under : Painted)
    → cell_after_all (area_ops cell area) u v under ≡ (if covers area u v then cell u v else under)
area_after cell area u v under = over-rows cell area.x area.width area.y area.height u v under

-- the operations of rows up to an end are those of the first one, and of the others
pub rows_ops-next : (cell : (x y : ℕ) → Painted) (x width y end : ℕ) → y < end
    → rows_ops cell x width y (end - y) ≡ row_ops cell y x width ++ rows_ops cell x width (y + 1) (end - (y + 1))
rows_ops-next cell x width y end h =
    let next : end - y ≡ suc (end - (y + 1)) = omega arith in
    rw next refl

rows_ops-same : (c d : (x y : ℕ) → Painted) (x width y count : ℕ)
    → ((u v : ℕ) → x ≤ u → u < x + width → y ≤ v → v < y + count → c u v ≡ d u v) → rows_ops c x width y count ≡ rows_ops d x width y count
rows_ops-same c d x width y zero same = refl
rows_ops-same c d x width y (suc n) same =
    let first : row_ops c y x width ≡ row_ops d y x width =
    ap (map (run_op y)) (runs-same (row_cells c y) (row_cells d y) x width (λ u from less. same u y from less (omega arith) (omega arith))) in
    let rest = rows_ops-same c d x width (y + 1) n (λ u v from less below above. same u v from less (omega (arith, below)) (omega (arith, above))) in
    ap (λ (ops : List Op). ops ++ rows_ops c x width (y + 1) n) first ∙ ap (λ (ops : List Op). row_ops d y x width ++ ops) rest

pub covered : (area : Area) (u v : ℕ) → area.x ≤ u → u < area.x + area.width → area.y ≤ v → v < area.y + area.height → covers area u v ≡ true
covered area u v left right top bottom = grind (arith, nat_tests, left, right, top, bottom)

-- the operations of an area are those of any screen that has its cells
pub area_ops-same : (c d : (x y : ℕ) → Painted) (area : Area) → ((u v : ℕ) → covers area u v ≡ true → c u v ≡ d u v) → area_ops c area ≡ area_ops d area
area_ops-same c d area same =
    rows_ops-same c d area.x area.width area.y area.height (λ u v left right top bottom. same u v (covered area u v left right top bottom))
