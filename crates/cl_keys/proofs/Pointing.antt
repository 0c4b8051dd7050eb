-- The pane in which a cell lies.
use Rattle.std.proofs.Common.{◌≡◌, ℕ, ◌+◌, ◌<◌, ◌≤◌, Bool, true, false, nat_le, nat_lt, suc, zero, List, [], ◌∷◌, length, drop, get_or, map, Some, refl, sym, ap, subst, ◌∙◌, arith, inl, inr, add-one}
use Rattle.std.specs.Prelude.{Contains}
use Rattle.std.proofs.lemmas.Bool.{and_parts, cond-false, cond-true, leb-true, or_cases}
use Rattle.std.proofs.lemmas.List.Elements.{All-contains}
use Rattle.cl_application.specs.Panes.{LieApart, are_parted, declared_by, lie_apart}
use Rattle.cl_application.specs.declared.declarations.PaneDecl.{PaneDecl}
use Rattle.cl_table.specs.Names.{declared_at}
use Rattle.cl_keys.specs.Gestures.{OnePaneIsPointedAt, has_cell, lies_in, pane_at}

-- ---- the panes from a place on

panes-from : (table : List (List ℕ × PaneDecl)) (k : ℕ) (p : PaneDecl) → Some p ≡ declared_at k table
    → map declared_by (drop k table) ≡ p ∷ map declared_by (drop (suc k) table)
panes-from [] k p e = absurd (cc)
panes-from (x ∷ xs) zero p e = let same : p ≡ x.1 = cc in ap (λ q. q ∷ map declared_by xs) (sym same)
panes-from (x ∷ xs) (suc k) p e = panes-from xs k p e

-- the pane at a place has the cell
pub found-at : (column row : ℕ) (table : List (List ℕ × PaneDecl)) (k : ℕ) (p : PaneDecl) → Some p ≡ declared_at k table → has_cell column row p ≡ true
    → pane_at column row (map declared_by (drop k table)) ≡ Some p
found-at column row table k p e has =
    ap (pane_at column row) (panes-from table k p e)
    ∙ cond-true (has_cell column row p) (Some p) (pane_at column row (map declared_by (drop (suc k) table))) has

-- the pane at a place has it not
pub passed-at : (column row : ℕ) (table : List (List ℕ × PaneDecl)) (k : ℕ) (p : PaneDecl) → Some p ≡ declared_at k table → has_cell column row p ≡ false
    → pane_at column row (map declared_by (drop k table)) ≡ pane_at column row (map declared_by (drop (k + 1) table))
passed-at column row table k p e has =
    let next = pane_at column row (map declared_by (drop (suc k) table)) in
    ap (pane_at column row) (panes-from table k p e)
    ∙ (cond-false (has_cell column row p) (Some p) next has ∙ rw add-one refl)

-- ---- panes that lie apart

lies : (start count number : ℕ) → lies_in start count number ≡ true → (start ≤ number) × (number < start + count)
lies start count number h =
    let parts = and_parts (nat_le start number) (nat_lt number (start + count)) h in
    (leb-true start number parts.0, leb-true (suc number) (start + count) parts.1)

-- no number lies in two stretches that are parted
parted : (from count other other_count number : ℕ) → are_parted from count other other_count ≡ true → lies_in from count number ≡ true
    → lies_in other other_count number ≡ true → ⊥
parted from count other other_count number h one two =
    let first = lies from count number one in let second = lies other other_count number two in
    elim (or_cases (nat_le (from + count) other) (nat_le (other + other_count) from) h) [
      | inl e ↦ let order = leb-true (from + count) other e in omega (arith, first, second, order)
      | inr e ↦ let order = leb-true (other + other_count) from e in omega (arith, first, second, order)
    ]

-- no cell lies in two panes that lie apart
not-in-both : (column row : ℕ) (p q : PaneDecl) → lie_apart p q ≡ true → has_cell column row p ≡ true → has_cell column row q ≡ true → ⊥
not-in-both column row p q h one two =
    let first = and_parts (lies_in p.x p.width column) (lies_in p.y p.height row) one in
    let second = and_parts (lies_in q.x q.width column) (lies_in q.y q.height row) two in
    elim (or_cases (are_parted p.x p.width q.x q.width) (are_parted p.y p.height q.y q.height) h) [
      | inl e ↦ parted p.x p.width q.x q.width column e first.0 second.0
      | inr e ↦ parted p.y p.height q.y q.height row e first.1 second.1
    ]

other-by : (has : Bool) → (has ≡ true → ⊥) → has ≡ false
other-by true h = absurd (h refl)
other-by false h = refl

only-one : (column row : ℕ) (panes : List PaneDecl) (p : PaneDecl) (k : ℕ) → LieApart panes → k < length panes → get_or panes k p ≡ p
    → has_cell column row p ≡ true → pane_at column row panes ≡ Some p
only-one column row [] p k apart within is has = absurd (omega arith)
only-one column row (q ∷ qs) p zero apart within is has =
    cond-true (has_cell column row q) (Some q) (pane_at column row qs) (subst (λ r. has_cell column row r ≡ true) (sym is) has) ∙ ap Some is
only-one column row (q ∷ qs) p (suc k) apart within is has =
    let rest : k < length qs = omega arith in
    let among : Contains qs p = (k, rest, is) in
    let from = All-contains (λ r. lie_apart q r ≡ true) qs p apart.0 among in
    let no = other-by (has_cell column row q) (λ has_q. not-in-both column row q p from has_q has) in
    cond-false (has_cell column row q) (Some q) (pane_at column row qs) no ∙ only-one column row qs p k apart.1 rest is has

pub one_pane_is_pointed_at : OnePaneIsPointedAt
one_pane_is_pointed_at column row panes p apart (k, within, is) has = only-one column row panes p k apart within is has
