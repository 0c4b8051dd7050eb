-- Rows of one ink.
use Rattle.std.proofs.Common.{◌≡◌, ℕ, zero, suc, ◌+◌, ◌-◌, ◌<◌, ◌≤◌, List, length, slice_index, take, drop, refl, sym, ◌∙◌, ap, arith, get_or-take, length-take, length-drop}
use Rattle.std.specs.Prelude.{slice_range}
use Rattle.std.proofs.lemmas.List.{get_or-drop}
use Rattle.cl_redisplay.specs.Sending.{IsEven}

even_from : (row : List ℕ) (n : ℕ) → IsEven row → n < length row → slice_index row n ≡ slice_index row 0
even_from row zero h less = refl
even_from row (suc n) h less =
    let next : n + 1 ≡ suc n = omega arith in
    let step = h n (omega (arith, less)) in
    ap (slice_index row) (sym next) ∙ (step ∙ even_from row n h (omega (arith, less)))

-- a row that is the same one column later
pub even_later : (inks : List ℕ) (n m : ℕ) → n ≡ length inks - 1 → m ≡ length inks - 1 → take n inks ≡ take m (drop 1 inks) → IsEven inks
even_later inks n m is_n is_m e = λ k inside.
    let one : 1 + k ≡ k + 1 = omega arith in
    ap (slice_index inks) (sym one)
    ∙ (sym (get_or-drop 1 inks k 0)
    ∙ (sym (get_or-take m (drop 1 inks) k 0 (omega (arith, inside, is_m)))
    ∙ (ap (λ xs. slice_index xs k) (sym e) ∙ get_or-take n inks k 0 (omega (arith, inside, is_n)))))

-- the columns of a part that is so have the ink of its first one
pub even_part : (inks : List ℕ) (from right k : ℕ) → right ≤ length inks → IsEven (slice_range inks from right) → from ≤ k → k < right
    → slice_index inks k ≡ slice_index inks from
even_part inks from right k most h least less =
    let n = k - from in
    let at : from + n ≡ k = omega (arith, least) in
    let first : from + 0 ≡ from = omega arith in
    let long : length (slice_range inks from right) ≡ right - from = omega (arith, length-take (right - from) (drop from inks), length-drop from inks, most, less) in
    let place : (i : ℕ) → i < right - from → slice_index (slice_range inks from right) i ≡ slice_index inks (from + i) =
    λ i inside. get_or-take (right - from) (drop from inks) i 0 inside ∙ get_or-drop from inks i 0 in
    ap (slice_index inks) (sym at)
    ∙ (sym (place n (omega (arith, least, less)))
    ∙ (even_from (slice_range inks from right) n h (omega (arith, long, least, less))
    ∙ (place 0 (omega (arith, least, less)) ∙ ap (slice_index inks) first)))
