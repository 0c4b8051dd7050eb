-- Runs of cells of one ink: what they show, and where the first one ends.
use Rattle.std.proofs.Common.{◌≡◌, ◌≢◌, ℕ, zero, suc, ◌+◌, ◌-◌, ◌*◌, ◌<◌, ◌≤◌, ◌==◌, true, false, if◌then◌else◌, List, [], ◌∷◌, length, slice_index, take, drop, map, refl, sym, ◌∙◌, ap, arith, drop-cons, get_or-take}
use Rattle.std.specs.Prelude.{⊤}
use Rattle.std.proofs.lemmas.Bool.Decides.{nat_tests}
use Rattle.std.proofs.lemmas.List.{get_or-drop}
use Rattle.cl_medium.specs.Items.{Painted}
use Rattle.cl_outside.specs.Device.{in_span}
use Rattle.cl_outside.specs.Operations.{shows}
use Rattle.cl_raster.specs.Raster.{Picture, row_of}
use Rattle.cl_redisplay.specs.Operations.{Run, before, cell_after, cell_after_all, one_cell, row_cells, row_ops, run_op, runs_from}
use Rattle.cl_redisplay.specs.Paint.{cell_at}
use Rattle.cl_redisplay.specs.Sending.{IsRunEnd, list_cell, list_ops}
use Rattle.cl_redisplay.proofs.Choices.{chosen, choice_is}
use Rattle.cl_redisplay.proofs.PartLemmas.{by_cases}

-- ---- how runs begin

-- the first of the runs, if there is one, begins in this column and has this ink
abbrev pub Begin : (x ink : ℕ) → List Run → Type 0
Begin x ink [] = ⊤
Begin x ink (r ∷ rs) = (r.x ≡ x) × (r.ink ≡ ink)

before-begin : (x : ℕ) (c : Painted) (rs : List Run) → Begin x c.ink (before x c rs)
before-begin x c [] = (refl, refl)
before-begin x c (r ∷ rs) =
    by_cases {P = Begin x c.ink (before x c (r ∷ rs))} (r.ink == c.ink)
    (λ same. rw same (refl, refl))
    (λ other. rw other (refl, refl))

pub runs-begin : (cell : ℕ → Painted) (x count : ℕ) → Begin x (cell x).ink (runs_from cell x count)
runs-begin cell x zero = tt
runs-begin cell x (suc n) = before-begin x (cell x) (runs_from cell (x + 1) n)

-- ---- what runs show

-- a span of one cell shows that cell
pub one_shown : (x y u v : ℕ) (c under : Painted)
    → cell_after (shows x y c.ink (c.glyph ∷ [])) u v under ≡ (if in_span x y 1 u v then c else under)
one_shown x y u v c under =
    choice_is (in_span x y 1 u v) (record { glyph = slice_index (c.glyph ∷ []) (u - x); ink = c.ink }) under (if in_span x y 1 u v then c else under)
    (λ yes. let at : u - x ≡ 0 = grind (arith, nat_tests, yes) in rw (yes, at) refl)
    (λ no. rw no refl)

-- one cell and the run behind it show what the longer run shows
pub over-longer : (x y u v ink glyph : ℕ) (glyphs : List ℕ) (under : Painted)
    → cell_after (shows x y ink (glyph ∷ glyphs)) u v under
    ≡ cell_after (shows (x + 1) y ink glyphs) u v (if in_span x y 1 u v then record { glyph = glyph; ink = ink } else under)
over-longer x y u v ink glyph glyphs under =
    by_cases (in_span (x + 1) y (length glyphs) u v)
    (λ behind. let all : in_span x y (suc (length glyphs)) u v ≡ true = grind (arith, nat_tests, behind) in
    let at : u - x ≡ suc (u - (x + 1)) = grind (arith, nat_tests, behind) in
    rw (behind, all, at) refl)
    (λ no. by_cases (in_span x y 1 u v)
    (λ first. let all : in_span x y (suc (length glyphs)) u v ≡ true = grind (arith, nat_tests, first) in
    let at : u - x ≡ 0 = grind (arith, nat_tests, first) in
    rw (no, first, all, at) refl)
    (λ apart. let none : in_span x y (suc (length glyphs)) u v ≡ false = grind (arith, nat_tests, no, apart) in
    rw (no, apart, none) refl))

pub same_number : (m n : ℕ) → (m == n) ≡ true → m ≡ n
same_number m n h = grind (arith, nat_tests, h)

pub moved_span : (x to y u v ink to_ink : ℕ) (glyphs : List ℕ) (under : Painted) → x ≡ to → ink ≡ to_ink
    → cell_after (shows x y ink glyphs) u v under ≡ cell_after (shows to y to_ink glyphs) u v under
moved_span x to y u v ink to_ink glyphs under e f =
    ap (λ (m : ℕ). cell_after (shows m y ink glyphs) u v under) e ∙ ap (λ (m : ℕ). cell_after (shows to y m glyphs) u v under) f

-- a cell before runs
over-before : (x y u v : ℕ) (c under : Painted) (ink : ℕ) (rs : List Run) → Begin (x + 1) ink rs
    → cell_after_all (map (run_op y) (before x c rs)) u v under ≡ cell_after_all (map (run_op y) rs) u v (if in_span x y 1 u v then c else under)
over-before x y u v c under ink [] begin = one_shown x y u v c under
over-before x y u v c under ink (r ∷ rs) begin =
    by_cases {P = cell_after_all (map (run_op y) (before x c (r ∷ rs))) u v under
    ≡ cell_after_all (map (run_op y) (r ∷ rs)) u v (if in_span x y 1 u v then c else under)}
    (r.ink == c.ink)
    (λ same. let is : r.ink ≡ c.ink = same_number r.ink c.ink same in
    rw same (ap (cell_after_all (map (run_op y) rs) u v)
    (over-longer x y u v c.ink c.glyph r.glyphs under
    ∙ moved_span (x + 1) r.x y u v c.ink r.ink r.glyphs (if in_span x y 1 u v then c else under) (sym begin.0) (sym is))))
    (λ other. rw other (ap (λ (under : Painted). cell_after_all (map (run_op y) rs) u v (cell_after (run_op y r) u v under)) (one_shown x y u v c under)))

-- the cells of a row, from a column on
pub over-runs : (cell : ℕ → Painted) (x count y u v : ℕ) (under : Painted)
    → cell_after_all (map (run_op y) (runs_from cell x count)) u v under ≡ (if in_span x y count u v then cell u else under)
over-runs cell x zero y u v under =
    let none : in_span x y 0 u v ≡ false = grind (arith, nat_tests) in rw none refl
over-runs cell x (suc n) y u v under =
    over-before x y u v (cell x) under (cell (x + 1)).ink (runs_from cell (x + 1) n) (runs-begin cell (x + 1) n)
    ∙ (over-runs cell (x + 1) n y u v (if in_span x y 1 u v then cell x else under)
    ∙ chosen (in_span x y (suc n) u v) (cell u) under (if in_span (x + 1) y n u v then cell u else (if in_span x y 1 u v then cell x else under))
    (λ all. choice_is (in_span (x + 1) y n u v) (cell u) (if in_span x y 1 u v then cell x else under) (cell u)
    (λ behind. refl)
    (λ no. let first : in_span x y 1 u v ≡ true = grind (arith, nat_tests, all, no) in
    let at : u ≡ x = grind (arith, nat_tests, all, no) in
    rw (first, at) refl))
    (λ none. let behind : in_span (x + 1) y n u v ≡ false = grind (arith, nat_tests, none) in
    let first : in_span x y 1 u v ≡ false = grind (arith, nat_tests, none) in
    rw (behind, first) refl))

-- ---- where the first run ends

-- the glyphs of so many cells, from a column on
abbrev glyphs_from : (cell : ℕ → Painted) (x count : ℕ) → List ℕ
glyphs_from cell x zero = []
glyphs_from cell x (suc more) = (cell x).glyph ∷ glyphs_from cell (x + 1) more

-- a cell before runs of another ink is a run by itself
before-other : (x at ink : ℕ) (c : Painted) (rs : List Run) → Begin at ink rs → ink ≢ c.ink → before x c rs ≡ one_cell x c ∷ rs
before-other x at ink c [] begin other = refl
before-other x at ink c (r ∷ rs) begin other =
    let test : (r.ink == c.ink) ≡ false = let is = begin.1 in grind (arith, nat_tests, is, other) in
    rw test refl

before-same : (x : ℕ) (c : Painted) (r : Run) (rs : List Run) → r.ink ≡ c.ink
    → before x c (r ∷ rs) ≡ record { x = x; ink = c.ink; glyphs = c.glyph ∷ r.glyphs } ∷ rs
before-same x c r rs same =
    let test : (r.ink == c.ink) ≡ true = grind (arith, nat_tests, same) in
    rw test refl

-- a cell before a cell of another ink, or at the end of the row
one_run : (cell : ℕ → Painted) (x m : ℕ) → (0 < m → (cell (x + 1)).ink ≢ (cell x).ink)
    → before x (cell x) (runs_from cell (x + 1) m) ≡ one_cell x (cell x) ∷ runs_from cell (x + 1) m
one_run cell x zero ends = refl
one_run cell x (suc m) ends =
    before-other x (x + 1) (cell (x + 1)).ink (cell x) (runs_from cell (x + 1) (suc m)) (runs-begin cell (x + 1) (suc m)) (ends (omega arith))

-- so many cells more have the ink of the first one, and the next one, if it is one of the row, another
first_run : (cell : ℕ → Painted) (x n m count : ℕ) → count ≡ n + m → ((k : ℕ) → k ≤ n → (cell (x + k)).ink ≡ (cell x).ink)
    → (0 < m → (cell (x + suc n)).ink ≢ (cell x).ink)
    → runs_from cell x (suc count) ≡ record { x = x; ink = (cell x).ink; glyphs = glyphs_from cell x (suc n) } ∷ runs_from cell (x + suc n) m
first_run cell x zero m count counted same ends =
    let all : count ≡ m = omega (arith, counted) in
    rw all (one_run cell x m ends)
first_run cell x (suc n) m count counted same ends =
    let all : count ≡ suc (n + m) = omega (arith, counted) in
    let one : (cell (x + 1)).ink ≡ (cell x).ink = same 1 (omega arith) in
    let step : (k : ℕ) → x + 1 + k ≡ x + suc k = λ k. omega arith in
    let rest : runs_from cell (x + 1) (suc (n + m))
    ≡ record { x = x + 1; ink = (cell (x + 1)).ink; glyphs = glyphs_from cell (x + 1) (suc n) } ∷ runs_from cell (x + 1 + suc n) m =
    first_run cell (x + 1) n m (n + m) refl (λ k less. rw step (same (suc k) (omega arith)) ∙ sym one)
    (λ some e. ends some (ap (λ (i : ℕ). (cell i).ink) (sym (step (suc n))) ∙ (e ∙ one))) in
    rw all
    (ap (before x (cell x)) rest
    ∙ (before-same x (cell x) (record { x = x + 1; ink = (cell (x + 1)).ink; glyphs = glyphs_from cell (x + 1) (suc n) }) (runs_from cell (x + 1 + suc n) m) one
    ∙ ap (λ (i : ℕ). record { x = x; ink = (cell x).ink; glyphs = (cell x).glyph ∷ glyphs_from cell (x + 1) (suc n) } ∷ runs_from cell i m) (step (suc n))))

glyphs-taken : (glyphs inks : List ℕ) (x n : ℕ) → x + n ≤ length glyphs → glyphs_from (list_cell glyphs inks) x n ≡ take n (drop x glyphs)
glyphs-taken glyphs inks x zero h = refl
glyphs-taken glyphs inks x (suc n) h =
    let within : x < length glyphs = omega (arith, h) in
    let next : suc x ≡ x + 1 = omega arith in
    rw (drop-cons glyphs x 0, next) (ap (λ (more : List ℕ). slice_index glyphs x ∷ more) (glyphs-taken glyphs inks (x + 1) n (omega (arith, h))))

-- the first operation of a row shows its first run
pub list_ops-first : (glyphs inks : List ℕ) (y x end right : ℕ) → right ≤ length glyphs → IsRunEnd inks x right end
    → list_ops glyphs inks y x (right - x) ≡ shows x y (slice_index inks x) (take (end - x) (drop x glyphs)) ∷ list_ops glyphs inks y end (right - end)
list_ops-first glyphs inks y x end right most run =
    let n = end - (x + 1) in
    let counted : right - x ≡ suc (n + (right - end)) = omega (arith, run.some, run.most) in
    let long : end - x ≡ suc n = omega (arith, run.some) in
    let behind : x + suc n ≡ end = omega (arith, run.some) in
    let first = first_run (list_cell glyphs inks) x n (right - end) (n + (right - end)) refl
    (λ k less. run.same (x + k) (omega arith) (omega (arith, less, run.some)))
    (λ some. rw behind (run.ends (omega (arith, some)))) in
    rw (counted, long)
    (ap (map (run_op y)) first
    ∙ (ap (λ (g : List ℕ). shows x y (slice_index inks x) g ∷ list_ops glyphs inks y (x + suc n) (right - end))
    (glyphs-taken glyphs inks x (suc n) (omega (arith, behind, run.most, most)))
    ∙ ap (λ (i : ℕ). shows x y (slice_index inks x) (take (suc n) (drop x glyphs)) ∷ list_ops glyphs inks y i (right - end)) behind))

-- ---- the row of a picture

pub runs-same : (c d : ℕ → Painted) (x n : ℕ) → ((u : ℕ) → x ≤ u → u < x + n → c u ≡ d u) → runs_from c x n ≡ runs_from d x n
runs-same c d x zero same = refl
runs-same c d x (suc n) same =
    let rest = runs-same c d (x + 1) n (λ u h k. same u (omega arith) (omega arith)) in
    ap (λ (one : Painted). before x one (runs_from c (x + 1) n)) (same x (omega arith) (omega arith))
    ∙ ap (before x (d x)) rest

in_row : (cells : List ℕ) (width y u : ℕ) → u < width → slice_index (row_of cells width y) u ≡ slice_index cells (y * width + u)
in_row cells width y u h =
    let wide : y * width + width - y * width ≡ width = omega arith in
    rw wide (get_or-take width (drop (y * width) cells) u 0 h ∙ get_or-drop (y * width) cells u 0)

-- the glyphs and the inks of a row give the operations of the picture
pub list_ops-row : (p : Picture) (y x n : ℕ) → x + n ≤ p.width
    → list_ops (row_of p.glyphs p.width y) (row_of p.inks p.width y) y x n ≡ row_ops (cell_at p) y x n
list_ops-row p y x n h =
    ap (map (run_op y)) (runs-same (list_cell (row_of p.glyphs p.width y) (row_of p.inks p.width y)) (row_cells (cell_at p) y) x n
    (λ u low high. let within : u < p.width = omega (arith, high, h) in
    λ k. record { glyph = in_row p.glyphs p.width y u within k; ink = in_row p.inks p.width y u within k }))
