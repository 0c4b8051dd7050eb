-- What is kept of an old history has no more items than the history, where no level of the walk opens a site and an id twice.
use Rattle.std.proofs.Common.{◌≡◌, ap, refl, ℕ, ◌+◌, ◌≤◌, Bool, true, false, if◌then◌else◌, List, [], ◌∷◌, ◌++◌, Option, Some, None, arith}
use Rattle.std.specs.Prelude.{◌||◌}
use Rattle.cl_region.specs.declared.rects.Shift.{Shift}
use Rattle.cl_medium.specs.Items.{Item, move_item}
use Rattle.cl_record.specs.Counts.{count_of}
use Rattle.cl_record.specs.Marks.{Mark, close, draw, history_marks, marks_of, marks_of_all, move_marks, open_presentation, open_update}
use Rattle.cl_record.specs.Shifts.{join_shifts, still}
use Rattle.cl_record.specs.Trees.{Tree, Trees, leaf, none, presentation, tree, trees_of, update}
use Rattle.cl_display.specs.Outcomes.{DrawOutcome}
use Rattle.cl_display.specs.Walks.{OpeningAt, Walk, done, met}
use Rattle.cl_reuse.specs.Keeping.{may_keep}
use Rattle.cl_reuse.specs.Kept.{KeptAt, OldUpdate, found, found_in, is_that, items_kept, kept, kept_at, kept_here, kept_of, or_then}
use Rattle.cl_reuse.specs.Once.{OpensOnce, is_opened}
use Rattle.cl_reuse.proofs.OnceForms.{name-holds, name-itself, same_name}
use Rattle.cl_reuse.proofs.PayLemmas.{none-kept}

-- ---- items

pub count-behind : (ms ns : List (Mark Item)) → count_of (ms ++ ns) ≡ count_of ms + count_of ns
count-behind [] ns = omega arith
count-behind (draw a ∷ ms) ns = omega (arith, count-behind ms ns)
count-behind (open_presentation l ∷ ms) ns = count-behind ms ns
count-behind (open_update h ∷ ms) ns = count-behind ms ns
count-behind (close ∷ ms) ns = count-behind ms ns

pub count-moved : (v : Shift) (ms : List (Mark Item)) → count_of (move_marks move_item v ms) ≡ count_of ms
count-moved v [] = refl
count-moved v (draw a ∷ ms) = omega (arith, count-moved v ms)
count-moved v (open_presentation l ∷ ms) = count-moved v ms
count-moved v (open_update h ∷ ms) = count-moved v ms
count-moved v (close ∷ ms) = count-moved v ms

pub items-behind : (ks js : List KeptAt) → items_kept (ks ++ js) ≡ items_kept ks + items_kept js
items-behind [] js = omega arith
items-behind (k ∷ ks) js = omega (arith, items-behind ks js)

-- a branch has the items that it holds
count-inside : (p : Shift) (m : Mark Item) (ms : List (Mark Item)) → count_of (m ∷ []) ≡ 0
    → count_of (move_marks move_item p (m ∷ (ms ++ close ∷ []))) ≡ count_of ms
count-inside p m ms e =
    let moved = count-moved p (m ∷ (ms ++ close ∷ [])) in
    let first = count-behind (m ∷ []) (ms ++ close ∷ []) in
    let last = count-behind ms (close ∷ []) in
    omega (arith, e, moved, first, last)

-- ---- the items of those old updates of a level that are opened

abbrev mutual
  opened_items : Walk → Tree Item → ℕ
  opened_items w (leaf a) = 0
  opened_items w (presentation l p ts) = opened_row w ts
  opened_items w (update h p ts) = if is_opened h.site h.id w then count_of (marks_of_all move_item ts) else 0

  opened_row : Walk → Trees Item → ℕ
  opened_row w none = 0
  opened_row w (tree t ts) = opened_items w t + opened_row w ts

some-items : (b : Bool) (n : ℕ) → (if b then n else 0) ≤ n
some-items true n = omega arith
some-items false n = omega arith

mutual
  few-items : (w : Walk) (t : Tree Item) → opened_items w t ≤ count_of (marks_of move_item t)
  few-items w (leaf a) = omega arith
  few-items w (presentation l p ts) =
      let same = count-inside p (open_presentation l) (marks_of_all move_item ts) refl in
      let inside = few-in-row w ts in
      omega (arith, same, inside)
  few-items w (update h p ts) =
      let same = count-inside p (open_update h) (marks_of_all move_item ts) refl in
      let inside = some-items (is_opened h.site h.id w) (count_of (marks_of_all move_item ts)) in
      omega (arith, same, inside)

  few-in-row : (w : Walk) (ts : Trees Item) → opened_row w ts ≤ count_of (marks_of_all move_item ts)
  few-in-row w none = omega arith
  few-in-row w (tree t ts) =
      let sum = count-behind (marks_of move_item t) (marks_of_all move_item ts) in
      let first = few-items w t in
      let rest = few-in-row w ts in
      omega (arith, sum, first, rest)

-- ---- one opening more

-- the items of what is found
abbrev items_found : Option OldUpdate → ℕ
items_found None = 0
items_found (Some u) = count_of (marks_of_all move_item u.inside)

module _ (o : OpeningAt) (inside rest : Walk) (new : is_opened o.site o.id rest ≡ false) where
  more-items : (b c : Bool) (n : ℕ) → (if c then n else 0) ≤ (if b || c then n else 0)
  more-items true true n = omega arith
  more-items true false n = omega arith
  more-items false c n = omega arith

  mutual
    grown-items : (t : Tree Item) → opened_items rest t ≤ opened_items (met o inside rest) t
    grown-items (leaf a) = omega arith
    grown-items (presentation l p ts) = grown-row ts
    grown-items (update h p ts) =
        more-items (same_name h.site h.id o.site o.id) (is_opened h.site h.id rest) (count_of (marks_of_all move_item ts))

    grown-row : (ts : Trees Item) → opened_row rest ts ≤ opened_row (met o inside rest) ts
    grown-row none = omega arith
    grown-row (tree t ts) =
        let first = grown-items t in
        let more = grown-row ts in
        omega (arith, first, more)

  one-more : (u : OldUpdate) (that b c : Bool) → (that ≡ true → b ≡ true) → (that ≡ true → c ≡ false)
      → items_found (if that then Some u else None) + (if c then count_of (marks_of_all move_item u.inside) else 0)
      ≤ (if b || c then count_of (marks_of_all move_item u.inside) else 0)
  one-more u true true true g h = absurd (wrong (h refl))
    where
      wrong : true ≡ false → ⊥
      wrong e = cc
  one-more u true true false g h = omega arith
  one-more u true false c g h = absurd (wrong (g refl))
    where
      wrong : false ≡ true → ⊥
      wrong e = cc
  one-more u false b c g h =
      let more = more-items b c (count_of (marks_of_all move_item u.inside)) in
      omega (arith, more)

  mutual
    one-found : (at : Shift) (t : Tree Item) → items_found (found_in o.site o.id at t) + opened_items rest t ≤ opened_items (met o inside rest) t
    one-found at (leaf a) = omega arith
    one-found at (presentation l p ts) = row-found (join_shifts p at) ts
    one-found at (update h p ts) =
        one-more (record { head = h; place = join_shifts p at; inside = ts }) (is_that o.site o.id h) (same_name h.site h.id o.site o.id)
        (is_opened h.site h.id rest)
        (λ e. name-holds (λ s d. same_name s d o.site o.id ≡ true) o.site o.id h.site h.id e (name-itself o.site o.id))
        (λ e. name-holds (λ s d. is_opened s d rest ≡ false) o.site o.id h.site h.id e new)

    row-found : (at : Shift) (ts : Trees Item) → items_found (found o.site o.id at ts) + opened_row rest ts ≤ opened_row (met o inside rest) ts
    row-found at none = omega arith
    row-found at (tree t ts) = either-found (found_in o.site o.id at t) (found o.site o.id at ts) (one-found at t) (row-found at ts)
      where
        either-found : (a b : Option OldUpdate) → items_found a + opened_items rest t ≤ opened_items (met o inside rest) t
            → items_found b + opened_row rest ts ≤ opened_row (met o inside rest) ts
            → items_found (or_then a b) + (opened_items rest t + opened_row rest ts) ≤ opened_items (met o inside rest) t + opened_row (met o inside rest) ts
        either-found None b h k = omega (arith, h, k)
        either-found (Some u) b h k =
            let more = grown-row ts in
            omega (arith, h, more)

-- ---- what is kept

kept-inside : (o : OpeningAt) (old : OldUpdate) (keep : Bool) (w : Walk)
    → items_kept (kept_of old.place old.inside w) ≤ opened_row w old.inside
    → items_kept (if keep then kept_here old o ∷ [] else kept_of old.place old.inside w) ≤ count_of (marks_of_all move_item old.inside)
kept-inside o old true w h = omega arith
kept-inside o old false w h =
    let few = few-in-row w old.inside in
    omega (arith, h, few)

kept-found : (o : OpeningAt) (u : Option OldUpdate) (w : Walk) → ((at : Shift) (old : Trees Item) → items_kept (kept_of at old w) ≤ opened_row w old)
    → items_kept (kept_at u o (λ there olds. kept_of there olds w)) ≤ items_found u
kept-found o None w h =
    let nothing : items_kept (kept_of still none w) ≡ 0 = ap (λ (ks : List KeptAt). items_kept ks) (none-kept still w) in
    omega (arith, nothing)
kept-found o (Some old) w h = kept-inside o old (may_keep old.head o) w (h old.place old.inside)

kept-few : (w : Walk) → OpensOnce w → (at : Shift) (old : Trees Item) → items_kept (kept_of at old w) ≤ opened_row w old
kept-few done h at old = omega arith
kept-few (met o inside rest) h at old =
    let u = found o.site o.id at old in
    let here = kept_at u o (λ there olds. kept_of there olds inside) in
    let sum = items-behind here (kept_of at old rest) in
    let first : items_kept here ≤ items_found u = kept-found o u inside (kept-few inside h.1.0) in
    let more = kept-few rest h.1.1 at old in
    let all = row-found o inside rest h.0 at old in
    omega (arith, sum, first, more, all)

pub old-bounds : (old : List (Tree Item)) (o : DrawOutcome) → OpensOnce o.walk → items_kept (kept old o) ≤ count_of (history_marks move_item old)
old-bounds old o h =
    let few = kept-few o.walk h still (trees_of old) in
    let all = few-in-row o.walk (trees_of old) in
    omega (arith, few, all)
