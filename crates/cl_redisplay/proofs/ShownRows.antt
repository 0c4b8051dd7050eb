-- A row of a picture that shows panes is the row of these panes.
use Rattle.std.proofs.Common.{◌≡◌, ℕ, zero, suc, ◌+◌, ◌-◌, ◌*◌, ◌<◌, List, ◌∷◌, length, slice_index, take, drop, map, refl, sym, ◌∙◌, ap, arith, add-zero, zero-add, drop-cons, length-drop}
use Rattle.std.proofs.lemmas.List.{length-take}
use Rattle.cl_medium.specs.Items.{Painted}
use Rattle.cl_raster.specs.Raster.{Picture, row_of}
use Rattle.cl_redisplay.specs.Shown.{Shown, Shows, digit_in, glyph_in, ink_digit, row_from, rows_from, shown_at, shown_ink_row, shown_row, told_row}

abbrev ink_in : Painted → ℕ
ink_in cell = cell.ink

take-row_from : (tell : Painted → ℕ) (panes : List Shown) (cells : List ℕ) (y k x n : ℕ) → length (take n (drop k cells)) ≡ n
    → ((i : ℕ) → i < n → slice_index cells (k + i) ≡ tell (shown_at panes (x + i) y))
    → take n (drop k cells) ≡ row_from tell panes y x n
take-row_from tell panes cells y k x zero h f = refl
take-row_from tell panes cells y k x (suc n) h f =
    let within : k < length cells = omega (arith, h, length-take (suc n) (drop k cells), length-drop k cells) in
    let first : slice_index cells k ≡ tell (shown_at panes x y) = rw (add-zero k, add-zero x) at (f 0 (omega arith)) in
    let counted : length (take n (drop (k + 1) cells)) ≡ n =
    omega (arith, h, length-take (suc n) (drop k cells), length-drop k cells, length-take n (drop (k + 1) cells), length-drop (k + 1) cells) in
    let rest : take n (drop (k + 1) cells) ≡ row_from tell panes y (x + 1) n =
    take-row_from tell panes cells y (k + 1) (x + 1) n counted
    (λ i less. let one : k + 1 + i ≡ k + (i + 1) = omega arith in
    let two : x + 1 + i ≡ x + (i + 1) = omega arith in
    rw (one, two) (f (i + 1) (omega arith))) in
    let next : suc k ≡ k + 1 = omega arith in
    rw (drop-cons cells k 0, next, first, rest)

told : (tell : Painted → ℕ) (panes : List Shown) (cells : List ℕ) (width y : ℕ) (row : List ℕ)
    → ((i : ℕ) → i < width → slice_index cells (y * width + i) ≡ tell (shown_at panes i y))
    → row ≡ row_of cells width y → length row ≡ width → row ≡ told_row tell panes width y
told tell panes cells width y row f is count =
    let wide : y * width + width - y * width ≡ width = omega arith in
    let here = rw wide at is in
    let counted : length (take width (drop (y * width) cells)) ≡ width = sym (ap length here) ∙ count in
    here ∙ take-row_from tell panes cells y (y * width) 0 width counted (λ i within. rw zero-add (f i within))

pub row-shown_row : (panes : List Shown) (p : Picture) (y : ℕ) (row : List ℕ) → Shows p panes → y < p.height
    → row ≡ row_of p.glyphs p.width y → length row ≡ p.width → row ≡ shown_row panes p.width y
row-shown_row panes p y row shows less is count =
    told glyph_in panes p.glyphs p.width y row (λ i within. ap glyph_in (shows.cells i y within less)) is count

digits_from : (panes : List Shown) (y x n : ℕ) → map ink_digit (row_from ink_in panes y x n) ≡ row_from digit_in panes y x n
digits_from panes y x zero = refl
digits_from panes y x (suc n) = ap (λ (row : List ℕ). ink_digit (shown_at panes x y).ink ∷ row) (digits_from panes y (x + 1) n)

pub row-shown_ink_row : (panes : List Shown) (p : Picture) (y : ℕ) (row : List ℕ) → Shows p panes → y < p.height
    → row ≡ row_of p.inks p.width y → length row ≡ p.width → map ink_digit row ≡ shown_ink_row panes p.width y
row-shown_ink_row panes p y row shows less is count =
    ap (λ (r : List ℕ). map ink_digit r) (told ink_in panes p.inks p.width y row (λ i within. ap ink_in (shows.cells i y within less)) is count)
    ∙ digits_from panes y 0 p.width

pub rows_from-next : (tell : Painted → ℕ) (panes : List Shown) (width y end : ℕ) → y < end
    → rows_from tell panes width y (end - y) ≡ told_row tell panes width y ∷ rows_from tell panes width (y + 1) (end - (y + 1))
rows_from-next tell panes width y end h =
    let next : end - y ≡ suc (end - (y + 1)) = omega arith in
    rw next
