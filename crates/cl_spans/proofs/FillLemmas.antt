-- The order of rectangles, and empty rows.
use Rattle.std.proofs.Common.{◌≡◌, ℕ, zero, suc, ℤ, ◌≤ℤ◌, false, List, [], ◌∷◌, ◌++◌, refl, arith, add-one}
use Rattle.std.specs.Ordering.{int_cmp, is_lt}
use Rattle.std.specs.Global.{Vec}
use Rattle.std.specs.List.Sorted.{IsSortedByKey}
use Rattle.std.proofs.lemmas.Int.{by_lt_z}
use Rattle.cl_region.specs.declared.rects.Rect.{Rect}
use Rattle.cl_spans.specs.declared.runs.Span.{Span}
use Rattle.cl_region.proofs.Corners.{false_holds}
use Rattle.cl_spans.proofs.RowLemmas.{lt_true}
use Rattle.cl_spans.specs.Filling.{IsAscending, row_in}

not_less : (x y : ℤ) → is_lt (int_cmp x y) ≡ false → y ≤ℤ x
not_less x y h =
    by_lt_z {P = y ≤ℤ x} x y
    (λ less. absurd (false_holds (is_lt (int_cmp x y)) h (rw (lt_true x y less) refl)))
    (λ more. more)

pub ascending : (rs : List Rect) → IsSortedByKey (λ r. r.x1) int_cmp rs → IsAscending rs
ascending [] h = tt
ascending (r ∷ []) h = (tt, tt)
ascending (r ∷ s ∷ rest) h = (
  not_less s.x1 r.x1 (h 0 r (omega arith) (omega arith)),
  ascending (s ∷ rest) (λ k d l m. rw add-one (rw add-one at (h (suc k) d (omega arith) (omega arith)))),
)

pub empty_more : (vs : List (Vec Span)) (v : Vec Span) → v.items ≡ [] → ((i : ℕ) → row_in vs i ≡ []) → (i : ℕ) → row_in (vs ++ v ∷ []) i ≡ []
empty_more [] v h f zero = h
empty_more [] v h f (suc i) = refl
empty_more (u ∷ us) v h f zero = f 0
empty_more (u ∷ us) v h f (suc i) = empty_more us v h (λ j. f (suc j)) i
