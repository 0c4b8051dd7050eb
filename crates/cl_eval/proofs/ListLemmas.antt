-- Parts of lists and records: as items and as a row, from a place on, and with one of them changed.
use Rattle.std.proofs.Common.{◌≡◌, ℕ, Bool, Option, Some, None, sym, zero, suc, ◌+◌, ◌-◌, ◌<◌, ◌≤◌, List, [], ◌∷◌, ◌++◌, length, get_or, take, drop, map, if◌then◌else◌, true, false, refl, ap, ℤ, pos, ◌+ℤ◌, arith, add-one, drop-cons, nat_le, Ok, rules, tests, length-drop}
use Rattle.std.proofs.Math.Seq.{take-length}
use Rattle.std.proofs.lemmas.List.{drop_all}
use Rattle.std.proofs.lemmas.Option.{none-some}
use Rattle.std.proofs.lemmas.Int.{ints}
use Rattle.cl_value.specs.Data.{Data, int, list, items_of, size_of_items, depth_of_items}
use Rattle.cl_value.specs.Value.{data_of}
use Rattle.cl_value.specs.declared.Value.{Value}
use Rattle.cl_eval.specs.Slots.{is_name, value_named}
use Rattle.cl_eval.specs.Operators.{list_of, same_value, has_part, numbers_from, with_part, within_limits}

pub list_of_items : (ds : List Data) → list_of (items_of ds) ≡ ds
list_of_items [] = refl
list_of_items (d ∷ ds) = ap (λ es. d ∷ es) (list_of_items ds)

-- whether a part stands from a place on, by the part at that place
pub has_part_next : (d : Data) (vs : List Value) (k : ℕ) (v : Value) → k < length vs → has_part d (map data_of (drop k vs)) ≡ (if same_value (data_of (get_or vs k v)) d then true else has_part d (map data_of (drop (k + 1) vs)))
has_part_next d vs k v h = rw add-one (ap (λ ws. has_part d (map data_of ws)) (drop-cons vs k v h))

pub has_part_end : (d : Data) (vs : List Value) (k : ℕ) → length vs ≤ k → has_part d (map data_of (drop k vs)) ≡ false
has_part_end d vs k h = ap (λ ws. has_part d (map data_of ws)) (drop_all k vs h)

numbers_suc : (x : ℤ) (n : ℕ) → numbers_from x (suc n) ≡ numbers_from x n ++ int (x +ℤ pos n) ∷ []
numbers_suc x zero = let e : x +ℤ pos 0 ≡ x = omega (arith, ints) in rw e refl
numbers_suc x (suc n) =
    let e : (x +ℤ pos 1) +ℤ pos n ≡ x +ℤ pos (suc n) = omega (arith, ints) in
    let more = ap (λ ds. int x ∷ ds) (numbers_suc (x +ℤ pos 1) n) in
    rw e at more

-- one number more
pub numbers_more : (x : ℤ) (n : ℕ) → numbers_from x (n + 1) ≡ numbers_from x n ++ int (x +ℤ pos n) ∷ []
numbers_more x n = rw add-one (numbers_suc x n)

pub numbers_size : (x : ℤ) (n : ℕ) → size_of_items (items_of (numbers_from x n)) ≡ n
numbers_size x zero = refl
numbers_size x (suc n) = omega (arith, numbers_size (x +ℤ pos 1) n)

pub numbers_depth : (x : ℤ) (n : ℕ) → depth_of_items (items_of (numbers_from x n)) ≤ 1
numbers_depth x zero = omega arith
numbers_depth x (suc n) = omega (arith, numbers_depth (x +ℤ pos 1) n)

with_part_suc : (d : Data) (vs : List Value) (k : ℕ) → k < length vs → with_part k d (map data_of vs) ≡ map data_of (take k vs) ++ d ∷ map data_of (drop (suc k) vs)
with_part_suc d [] k h = absurd (omega arith)
with_part_suc d (v ∷ vs) zero h = refl
with_part_suc d (v ∷ vs) (suc k) h = ap (λ ds. data_of v ∷ ds) (with_part_suc d vs k (omega arith))

-- so many numbers are within the limits of a value
pub numbers_within : (x : ℤ) (n : ℕ) → n < 65536 → within_limits (list (items_of (numbers_from x n))) ≡ Ok (list (items_of (numbers_from x n)))
numbers_within x n h =
    let size : nat_le (1 + size_of_items (items_of (numbers_from x n))) 65536 ≡ true = rw numbers_size (search (rules, tests)) in
    let depth : nat_le (1 + depth_of_items (items_of (numbers_from x n))) 64 ≡ true = let d = numbers_depth x n in search (rules, tests) in
    rw (size, depth) refl

pub rest_whole : (vs : List Value) (k : ℕ) → take (length vs - k) (drop k vs) ≡ drop k vs
rest_whole vs k = rw (← length-drop k vs) (take-length (drop k vs))

-- the parts before a place, the new one, and the parts after it
pub with_part_split : (d : Data) (vs : List Value) (k : ℕ) → k < length vs → with_part k d (map data_of vs) ≡ map data_of (take k vs) ++ d ∷ map data_of (drop (k + 1) vs)
with_part_split d vs k h = rw add-one (with_part_suc d vs k h)

-- ---- a frame of variables in front of others

in_front : (b : Bool) (v : Data) (o o' : Option Data) (d : Data) → (o ≡ Some d → o' ≡ Some d) → (if b then Some v else o) ≡ Some d → (if b then Some v else o') ≡ Some d
in_front true v o o' d f h = h
in_front false v o o' d f h = f h

behind : (b : Bool) (v : Data) (o o' p : Option Data) → (o ≡ None → o' ≡ p) → (if b then Some v else o) ≡ None → (if b then Some v else o') ≡ p
behind true v o o' p f h = absurd (none-some v (sym h))
behind false v o o' p f h = f h

pub found_in_frame : (x : List ℕ) (e around : List (List ℕ × Data)) (d : Data) → value_named x e ≡ Some d → value_named x (e ++ around) ≡ Some d
found_in_frame x [] around d h = absurd (none-some d h)
found_in_frame x (v ∷ e) around d h = in_front (is_name v.0 x) v.1 (value_named x e) (value_named x (e ++ around)) d (found_in_frame x e around d) h

pub found_behind_frame : (x : List ℕ) (e around : List (List ℕ × Data)) → value_named x e ≡ None → value_named x (e ++ around) ≡ value_named x around
found_behind_frame x [] around h = refl
found_behind_frame x (v ∷ e) around h = behind (is_name v.0 x) v.1 (value_named x e) (value_named x (e ++ around)) (value_named x around) (found_behind_frame x e around) h
