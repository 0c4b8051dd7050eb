-- The parts from a place on, and how large one of them is.
use Rattle.std.proofs.Common.{◌≡◌, ℕ, zero, suc, ◌+◌, ◌<◌, ◌≤◌, List, [], ◌∷◌, length, get_or, drop, refl, ap, min, arith, drop-cons, add-one}
use Rattle.std.proofs.lemmas.List.{drop_all}
use Rattle.cl_value.specs.Data.{item, none, size_of, size_of_items, order_of_items}
use Rattle.std.specs.Ordering.{nat_cmp, MatchOrdering}
use Rattle.std.specs.Cmp.{nat_cmp_is}
use Rattle.std.specs.declared.cmp.Ordering.{Ordering}
use Rattle.std.specs.declared.cmp.Ordering.TheVariants.{Less, Equal, Greater}
use Rattle.cl_value.specs.Value.{data_of, parts_of}
use Rattle.cl_value.specs.declared.Value.{Value}

pub parts_next : (vs : List Value) (k : ℕ) (d : Value) → k < length vs → parts_of (drop k vs) ≡ item (data_of (get_or vs k d)) (parts_of (drop (k + 1) vs))
parts_next vs k d h = rw add-one (ap parts_of (drop-cons vs k d h))

pub parts_end : (vs : List Value) (k : ℕ) → length vs ≤ k → parts_of (drop k vs) ≡ none
parts_end vs k h = ap parts_of (drop_all k vs h)

pub part_size : (vs : List Value) (k : ℕ) (d : Value) → k < length vs → size_of (data_of (get_or vs k d)) ≤ size_of_items (parts_of vs)
part_size [] k d h = omega arith
part_size (v ∷ vs) zero d h = omega arith
part_size (v ∷ vs) (suc k) d h = omega (arith, part_size vs k d (omega arith))

ranked_suc : (r : Ordering) (m n : ℕ) → MatchOrdering r (m < n) (m ≡ n) (n < m) → MatchOrdering r (suc m < suc n) (suc m ≡ suc n) (suc n < suc m)
ranked_suc Less m n h = omega arith
ranked_suc Equal m n h = omega arith
ranked_suc Greater m n h = omega arith

ranked_end : (vs ws : List Value) (k : ℕ) → k ≤ min (length vs) (length ws) → min (length vs) (length ws) ≤ k
    → MatchOrdering (order_of_items (parts_of (drop k vs)) (parts_of (drop k ws))) (length vs < length ws) (length vs ≡ length ws) (length ws < length vs)
ranked_end [] [] zero f s = refl
ranked_end [] (w ∷ ws) zero f s = omega arith
ranked_end (v ∷ vs) [] zero f s = omega arith
ranked_end (v ∷ vs) (w ∷ ws) zero f s = absurd (omega arith)
ranked_end [] ws (suc k) f s = absurd (omega arith)
ranked_end (v ∷ vs) [] (suc k) f s = absurd (omega arith)
ranked_end (v ∷ vs) (w ∷ ws) (suc k) f s = ranked_suc _ _ _ (ranked_end vs ws k (omega arith) (omega arith))

-- where one of two lists of parts ends, and all before are equal
pub order_end : (vs ws : List Value) (k : ℕ) → k ≤ min (length vs) (length ws) → min (length vs) (length ws) ≤ k → order_of_items (parts_of (drop k vs)) (parts_of (drop k ws)) ≡ nat_cmp (length vs) (length ws)
order_end vs ws k f s = nat_cmp_is _ _ _ (ranked_end vs ws k f s)
