-- Where the first line ends.
use Rattle.std.proofs.Common.{◌≡◌, ◌+◌, ◌-◌, ◌<◌, ◌++◌, ℕ, Bool, true, false, cond, suc, List, [], length, take, drop, nat_lt, Some, None, refl, ap, ◌∙◌, arith}
use Rattle.std.specs.List.{after_first, before_first, position_or_len}
use Rattle.std.specs.Prelude.{position}
use Rattle.std.proofs.lemmas.Bool.Decides.{nat_tests}
use Rattle.std.proofs.lemmas.Grind.{common_steps}
use Rattle.cl_interactor.specs.Rows.{is_feed, reply_rows, row_bytes}

first_by : (bytes : List ℕ) (any : Bool) (k at : ℕ) → cond any (Some k) None ≡ Some at → (take at bytes ≡ take k bytes) × (drop (at + 1) bytes ≡ drop (k + 1) bytes)
first_by bytes true k at h = let same : at ≡ k = cc in (ap (λ n. take n bytes) same, ap (λ n. drop (n + 1) bytes) same)
first_by bytes false k at h = absurd (cc)

-- cut at the first line feed
pub cut-some : (bytes : List ℕ) (at : ℕ) → position is_feed bytes ≡ Some at → (take at bytes ≡ before_first is_feed bytes) × (drop (at + 1) bytes ≡ after_first is_feed bytes)
cut-some bytes at h = first_by bytes (nat_lt (position_or_len is_feed bytes) (length bytes)) (position_or_len is_feed bytes) at h

past_by : (bytes : List ℕ) (any : Bool) (k : ℕ) → any ≡ nat_lt k (length bytes) → cond any (Some k) None ≡ None → (take k bytes ≡ bytes) × (drop (k + 1) bytes ≡ [])
past_by bytes true k is h = absurd (cc)
past_by bytes false k is h = (grind (arith, nat_tests, common_steps), grind (arith, nat_tests, common_steps))

-- no line feed
pub cut-none : (bytes : List ℕ) → position is_feed bytes ≡ None → (before_first is_feed bytes ≡ bytes) × (after_first is_feed bytes ≡ [])
cut-none bytes h = past_by bytes (nat_lt (position_or_len is_feed bytes) (length bytes)) (position_or_len is_feed bytes) refl h

-- the rows from one of four on are that one and those behind it
pub rows-more : (first row : ℕ) (lines : List ℕ) → row < 4
    → row_bytes (first + row) (before_first is_feed lines) ++ reply_rows (first + (row + 1)) (4 - (row + 1)) (after_first is_feed lines) ≡ reply_rows (first + row) (4 - row) lines
rows-more first row lines h =
    let left : suc (4 - (row + 1)) ≡ 4 - row = omega (arith, h) in
    let y : first + (row + 1) ≡ first + row + 1 = omega arith in
    ap (λ n. row_bytes (first + row) (before_first is_feed lines) ++ reply_rows n (4 - (row + 1)) (after_first is_feed lines)) y
    ∙ ap (λ n. reply_rows (first + row) n lines) left
