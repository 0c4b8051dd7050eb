-- Stretches of a row, place by place.
use Rattle.std.proofs.Common.{◌≡◌, ℕ, ◌+◌, ◌<◌, ◌≤◌, ℤ, pos, ◌+ℤ◌, List, Option, None, length, length-set, inl, inr, ◌⊎◌, ⊎_elim, get_or, set, ap, ◌∙◌, refl, sym, arith}
use Rattle.std.specs.Prelude.{option_map}
use Rattle.std.proofs.lemmas.Bool.{cases_lt}
use Rattle.std.proofs.lemmas.List.{get_or-set_other, get_or-set_same}
use Rattle.std.proofs.lemmas.Option.{get_or_from_slice_get, slice_get_within}
use Rattle.cl_outside.specs.declared.cells.Cell.{Cell}
use Rattle.cl_medium.specs.Items.{AreCells, Painted, painted_of}

-- the first places have what is painted there
pub record FilledTo (cell : ℤ → ℤ → Option Painted) (x y : ℤ) (old now : List (Option Cell)) (place : ℕ) : Type 0 where
  pub count : length now ≡ length old
  pub cells : (n : ℕ) → n < place → option_map painted_of (get_or now n None) ≡ cell (x +ℤ pos n) y

pub filled-all : (cell : ℤ → ℤ → Option Painted) (x y : ℤ) (old now : List (Option Cell)) (place : ℕ) → length old ≤ place → FilledTo cell x y old now place
    → AreCells cell x y old now
filled-all cell x y old now place end h = record {
  count = h.count;
  cells = λ n found at.
      ap (λ (c : Option Cell). option_map painted_of c) (sym (get_or_from_slice_get now n found None at))
      ∙ h.cells n (omega (arith, end, h.count, slice_get_within now n found at));
}

pub filled-none : (cell : ℤ → ℤ → Option Painted) (x y : ℤ) (old : List (Option Cell)) → FilledTo cell x y old old 0
filled-none cell x y old = record { count = refl; cells = λ n h. absurd (omega (arith, h)) }

last_or_before : (n place : ℕ) → n < place + 1 → (n ≡ place) ⊎ (n < place)
last_or_before n place h = ⊎_elim (λ less. inr less) (λ more. inl (omega (arith, h, more))) (cases_lt n place)

pub filled-more : (cell : ℤ → ℤ → Option Painted) (x y : ℤ) (old now : List (Option Cell)) (place : ℕ) (found : Option Cell) → FilledTo cell x y old now place
    → place < length old → option_map painted_of found ≡ cell (x +ℤ pos place) y → FilledTo cell x y old (set now place found) (place + 1)
filled-more cell x y old now place found h inside is = record {
  count = length-set now place found ∙ h.count;
  cells = λ n below. ⊎_elim
      (λ same. ap (λ (c : Option Cell). option_map painted_of c) (ap (λ (k : ℕ). get_or (set now place found) k None) same ∙ get_or-set_same now place found None (omega (arith, h.count, inside)))
      ∙ (is ∙ ap (λ (k : ℕ). cell (x +ℤ pos k) y) (sym same)))
      (λ less. ap (λ (c : Option Cell). option_map painted_of c) (get_or-set_other now place n found None (λ e. absurd (omega (arith, less, e)))) ∙ h.cells n less)
      (last_or_before n place below);
}
