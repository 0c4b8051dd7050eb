-- Runs of touched cells: what they show, and the runs of a stretch of a row whose cells are all touched, or of which none is.
use Rattle.std.proofs.Common.{◌≡◌, ℕ, zero, suc, ◌+◌, ◌<◌, ◌≤◌, ◌==◌, Bool, true, false, ◌&&◌, ◌||◌, if◌then◌else◌, List, [], ◌∷◌, ◌++◌, map, refl, sym, ◌∙◌, ap, arith}
use Rattle.std.specs.Prelude.{⊤}
use Rattle.std.proofs.lemmas.Bool.Decides.{nat_tests}
use Rattle.cl_medium.specs.Items.{Painted}
use Rattle.cl_outside.specs.Device.{in_span}
use Rattle.cl_region.proofs.Corners.{and_left, and_right, wrong}
use Rattle.cl_redisplay.specs.Operations.{Run, before, cell_after, cell_after_all, one_cell, run_op, runs_from}
use Rattle.cl_redisplay.specs.Touching.{before_run, touched_runs}
use Rattle.cl_redisplay.proofs.PartLemmas.{by_cases}
use Rattle.cl_redisplay.proofs.Runs.{Begin, moved_span, one_shown, over-longer, runs-begin, same_number}

-- ---- what is touched, said in two ways

-- the runs of two rows that are touched in the same columns, and have the same cells there
pub touched_runs-same : (c d : ℕ → Painted) (t u : ℕ → Bool) (x n : ℕ) → ((k : ℕ) → x ≤ k → k < x + n → t k ≡ u k)
    → ((k : ℕ) → x ≤ k → k < x + n → t k ≡ true → c k ≡ d k) → touched_runs c t x n ≡ touched_runs d u x n
touched_runs-same c d t u x zero touched cells = refl
touched_runs-same c d t u x (suc n) touched cells =
    let rest : touched_runs c t (x + 1) n ≡ touched_runs d u (x + 1) n =
    touched_runs-same c d t u (x + 1) n (λ k h l. touched k (omega arith) (omega arith)) (λ k h l yes. cells k (omega arith) (omega arith) yes) in
    let one : t x ≡ u x = touched x (omega arith) (omega arith) in
    by_cases {P = touched_runs c t x (suc n) ≡ touched_runs d u x (suc n)} (t x)
    (λ yes. let other : u x ≡ true = sym one ∙ yes in
    rw (yes, other)
    (ap (λ (p : Painted). before_run x p (touched_runs c t (x + 1) n)) (cells x (omega arith) (omega arith) yes) ∙ ap (before_run x (d x)) rest))
    (λ no. let other : u x ≡ false = sym one ∙ no in rw (no, other) rest)

-- ---- what runs of touched cells show

-- a cell before runs
over-before_run : (x y u v : ℕ) (c under : Painted) (rs : List Run)
    → cell_after_all (map (run_op y) (before_run x c rs)) u v under ≡ cell_after_all (map (run_op y) rs) u v (if in_span x y 1 u v then c else under)
over-before_run x y u v c under [] = one_shown x y u v c under
over-before_run x y u v c under (r ∷ rs) =
    by_cases {P = cell_after_all (map (run_op y) (before_run x c (r ∷ rs))) u v under
    ≡ cell_after_all (map (run_op y) (r ∷ rs)) u v (if in_span x y 1 u v then c else under)}
    ((r.x == x + 1) && (r.ink == c.ink))
    (λ same. let at : r.x ≡ x + 1 = same_number r.x (x + 1) (and_left (r.x == x + 1) (r.ink == c.ink) same) in
    let is : r.ink ≡ c.ink = same_number r.ink c.ink (and_right (r.x == x + 1) (r.ink == c.ink) same) in
    rw same (ap (cell_after_all (map (run_op y) rs) u v)
    (over-longer x y u v c.ink c.glyph r.glyphs under
    ∙ moved_span (x + 1) r.x y u v c.ink r.ink r.glyphs (if in_span x y 1 u v then c else under) (sym at) (sym is))))
    (λ other. rw other (ap (λ (under : Painted). cell_after_all (map (run_op y) rs) u v (cell_after (run_op y r) u v under)) (one_shown x y u v c under)))

-- runs with a cell before them, if it is touched
over-chosen : (touched : Bool) (x y u v : ℕ) (c under : Painted) (rs : List Run)
    → cell_after_all (map (run_op y) (if touched then before_run x c rs else rs)) u v under
    ≡ cell_after_all (map (run_op y) rs) u v (if touched then (if in_span x y 1 u v then c else under) else under)
over-chosen true x y u v c under rs = over-before_run x y u v c under rs
over-chosen false x y u v c under rs = refl

-- a place is in the first column of a span or behind it
span-next : (x y n u v : ℕ) → in_span x y (suc n) u v ≡ in_span x y 1 u v || in_span (x + 1) y n u v
span-next x y n u v = grind (arith, nat_tests)

first_column : (x y u v : ℕ) → in_span x y 1 u v ≡ true → u ≡ x
first_column x y u v h = grind (arith, nat_tests, h)

-- what is first and touched, else what is behind and touched, else what was there
combined : (first behind there here : Bool) (p q r : Painted) → (first ≡ true → there ≡ here) → (first ≡ true → p ≡ q)
    → (if behind && there then q else (if here then (if first then p else r) else r)) ≡ (if (first || behind) && there then q else r)
combined true true true here p q r f g = refl
combined true true false true p q r f g = absurd (wrong (f refl))
combined true true false false p q r f g = refl
combined true false true true p q r f g = g refl
combined true false true false p q r f g = absurd (wrong (sym (f refl)))
combined true false false true p q r f g = absurd (wrong (f refl))
combined true false false false p q r f g = refl
combined false behind there true p q r f g = refl
combined false behind there false p q r f g = refl

-- the touched cells of a row, from a column on
pub over-touched_runs : (cell : ℕ → Painted) (t : ℕ → Bool) (x count y u v : ℕ) (under : Painted)
    → cell_after_all (map (run_op y) (touched_runs cell t x count)) u v under ≡ (if in_span x y count u v && t u then cell u else under)
over-touched_runs cell t x zero y u v under =
    let none : in_span x y 0 u v ≡ false = grind (arith, nat_tests) in rw none refl
over-touched_runs cell t x (suc n) y u v under =
    over-chosen (t x) x y u v (cell x) under (touched_runs cell t (x + 1) n)
    ∙ (over-touched_runs cell t (x + 1) n y u v (if t x then (if in_span x y 1 u v then cell x else under) else under)
    ∙ (combined (in_span x y 1 u v) (in_span (x + 1) y n u v) (t u) (t x) (cell x) (cell u) under
    (λ first. ap t (first_column x y u v first)) (λ first. ap cell (sym (first_column x y u v first)))
    ∙ ap (λ (b : Bool). if b && t u then cell u else under) (sym (span-next x y n u v))))

-- ---- where runs begin

-- the first of the runs, if there is one, begins in this column or behind it
abbrev pub BeginFrom : ℕ → List Run → Type 0
BeginFrom x [] = ⊤
BeginFrom x (r ∷ rs) = x ≤ r.x

begin_sooner : (x z : ℕ) (rs : List Run) → x ≤ z → BeginFrom z rs → BeginFrom x rs
begin_sooner x z [] h b = tt
begin_sooner x z (r ∷ rs) h b = omega (arith, h, b)

before_run-begin : (x : ℕ) (c : Painted) (rs : List Run) → BeginFrom x (before_run x c rs)
before_run-begin x c [] = omega arith
before_run-begin x c (r ∷ rs) =
    by_cases {P = BeginFrom x (before_run x c (r ∷ rs))} ((r.x == x + 1) && (r.ink == c.ink))
    (λ same. rw same (omega arith))
    (λ other. rw other (omega arith))

touched-begin : (cell : ℕ → Painted) (t : ℕ → Bool) (x n : ℕ) → BeginFrom x (touched_runs cell t x n)
touched-begin cell t x zero = tt
touched-begin cell t x (suc n) =
    by_cases {P = BeginFrom x (touched_runs cell t x (suc n))} (t x)
    (λ yes. rw yes (before_run-begin x (cell x) (touched_runs cell t (x + 1) n)))
    (λ no. rw no (begin_sooner x (x + 1) (touched_runs cell t (x + 1) n) (omega arith) (touched-begin cell t (x + 1) n)))

-- from a column that is not touched on, runs begin behind it
begin-behind : (cell : ℕ → Painted) (t : ℕ → Bool) (x n : ℕ) → (0 < n → t x ≡ false) → BeginFrom (x + 1) (touched_runs cell t x n)
begin-behind cell t x zero free = tt
begin-behind cell t x (suc n) free =
    let no : t x ≡ false = free (omega arith) in rw no (touched-begin cell t (x + 1) n)

-- ---- a cell before the runs of a stretch

-- no run begins in the next column
before_run-apart : (x : ℕ) (c : Painted) (rs : List Run) → BeginFrom (x + 1 + 1) rs → before_run x c rs ≡ one_cell x c ∷ rs
before_run-apart x c [] b = refl
before_run-apart x c (r ∷ rs) b =
    let test : (r.x == x + 1) ≡ false = grind (arith, nat_tests, b) in
    rw test refl

-- runs that begin in the next column, if there are any, and others behind them
before_run-joined : (x ink : ℕ) (c : Painted) (rs more : List Run) → Begin (x + 1) ink rs → (rs ≡ [] → BeginFrom (x + 1 + 1) more)
    → before_run x c (rs ++ more) ≡ before x c rs ++ more
before_run-joined x ink c [] more begin apart = before_run-apart x c more (apart refl)
before_run-joined x ink c (r ∷ rs) more begin apart =
    let at : (r.x == x + 1) ≡ true = let is = begin.0 in grind (arith, nat_tests, is) in
    by_cases {P = before_run x c ((r ∷ rs) ++ more) ≡ before x c (r ∷ rs) ++ more} (r.ink == c.ink)
    (λ same. rw (at, same) refl)
    (λ other. rw (at, other) refl)

some_run : (x : ℕ) (c : Painted) (rs : List Run) → before x c rs ≡ [] → ⊥
some_run x c [] e = cc
some_run x c (r ∷ rs) e =
    by_cases {P = ⊥} (r.ink == c.ink)
    (λ same. let none = rw same at e in cc)
    (λ other. let none = rw other at e in cc)

-- ---- stretches of a row

-- so many cells of which none is touched
pub touched-none : (cell : ℕ → Painted) (t : ℕ → Bool) (x n m count end : ℕ) → count ≡ n + m → end ≡ x + n
    → ((u : ℕ) → x ≤ u → u < end → t u ≡ false) → touched_runs cell t x count ≡ touched_runs cell t end m
touched-none cell t x zero m count end counted ended none =
    let all : count ≡ m = omega (arith, counted) in
    let at : end ≡ x = omega (arith, ended) in
    rw (all, at) refl
touched-none cell t x (suc n) m count end counted ended none =
    let all : count ≡ suc (n + m) = omega (arith, counted) in
    let first : t x ≡ false = none x (omega arith) (omega (arith, ended)) in
    rw (all, first) (touched-none cell t (x + 1) n m (n + m) end refl (omega (arith, ended)) (λ u h k. none u (omega arith) k))

-- behind the first cell of a stretch of one cell no run begins in the next column
behind-stretch : (cell : ℕ → Painted) (t : ℕ → Bool) (x n m end : ℕ) → end ≡ x + suc n → (0 < m → t end ≡ false)
    → runs_from cell (x + 1) n ≡ [] → BeginFrom (x + 1 + 1) (touched_runs cell t end m)
behind-stretch cell t x zero m end ended free e =
    let at : end ≡ x + 1 = omega (arith, ended) in
    let no : 0 < m → t (x + 1) ≡ false = rw at at free in
    rw at (begin-behind cell t (x + 1) m no)
behind-stretch cell t x (suc n) m end ended free e = absurd (some_run (x + 1) (cell (x + 1)) (runs_from cell (x + 1 + 1) n) e)

-- so many touched cells, with a free one behind them if there are more
pub touched-stretch : (cell : ℕ → Painted) (t : ℕ → Bool) (x n m count end : ℕ) → count ≡ n + m → end ≡ x + n
    → ((u : ℕ) → x ≤ u → u < end → t u ≡ true) → (0 < m → t end ≡ false)
    → touched_runs cell t x count ≡ runs_from cell x n ++ touched_runs cell t end m
touched-stretch cell t x zero m count end counted ended each free =
    let all : count ≡ m = omega (arith, counted) in
    let at : end ≡ x = omega (arith, ended) in
    rw (all, at) refl
touched-stretch cell t x (suc n) m count end counted ended each free =
    let all : count ≡ suc (n + m) = omega (arith, counted) in
    let first : t x ≡ true = each x (omega arith) (omega (arith, ended)) in
    let rest : touched_runs cell t (x + 1) (n + m) ≡ runs_from cell (x + 1) n ++ touched_runs cell t end m =
    touched-stretch cell t (x + 1) n m (n + m) end refl (omega (arith, ended)) (λ u h k. each u (omega arith) k) free in
    rw (all, first)
    (ap (before_run x (cell x)) rest
    ∙ before_run-joined x (cell (x + 1)).ink (cell x) (runs_from cell (x + 1) n) (touched_runs cell t end m) (runs-begin cell (x + 1) n)
    (behind-stretch cell t x n m end ended free))
