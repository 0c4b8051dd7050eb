-- Rows of trees by their marks: where two rows that stand somewhere draw the same, they have the same parts.
use Rattle.std.proofs.Common.{◌≡◌, ◌∙◌, ap, sym, subst, refl, pos, neg_ℤ, ◌+ℤ◌, List, [], ◌∷◌, ◌++◌, append_assoc, append-nil, arith}
use Rattle.std.proofs.lemmas.Int.{ints}
use Rattle.cl_region.specs.declared.rects.Shift.{Shift}
use Rattle.cl_medium.specs.ItemLaws.{item_moves_twice, item_stays}
use Rattle.cl_medium.specs.Items.{Item, move_item}
use Rattle.cl_record.specs.Heads.{move_head}
use Rattle.cl_record.specs.Marks.{Mark, close, draw, marks_of, marks_of_all, move_marks, open_presentation, open_update}
use Rattle.cl_record.specs.Shifts.{join_shifts, still}
use Rattle.cl_record.specs.Trees.{Tree, Trees, leaf, none, presentation, tree, update}
use Rattle.cl_record.proofs.Moves.{all-still, all_moved-append, all_twice}

-- ---- the marks of rows that stand somewhere, before other marks

abbrev mutual
  pub one_flat : Shift → Tree Item → List (Mark Item) → List (Mark Item)
  one_flat v (leaf a) rest = draw (move_item v a) ∷ rest
  one_flat v (presentation l p ts) rest = open_presentation l ∷ flat (join_shifts p v) ts (close ∷ rest)
  one_flat v (update h p ts) rest = open_update (move_head (join_shifts p v) h) ∷ flat (join_shifts p v) ts (close ∷ rest)

  pub flat : Shift → Trees Item → List (Mark Item) → List (Mark Item)
  flat v none rest = rest
  flat v (tree t ts) rest = one_flat v t (flat v ts rest)

-- a branch that stands at its place, moved, with what is behind it
branch-flat : (v p : Shift) (first : Mark Item) (inside rest : List (Mark Item))
    → move_marks move_item v (move_marks move_item p (first ∷ (inside ++ close ∷ []))) ++ rest
    ≡ move_marks move_item (join_shifts p v) (first ∷ []) ++ (move_marks move_item (join_shifts p v) inside ++ close ∷ rest)
branch-flat v p first inside rest =
    let there = join_shifts p v in
    ap (λ (ms : List (Mark Item)). ms ++ rest) (all_twice move_item item_moves_twice p v (first ∷ (inside ++ close ∷ [])))
    ∙ ap (λ (ms : List (Mark Item)). move_marks move_item there (first ∷ []) ++ (ms ++ rest)) (all_moved-append move_item there inside (close ∷ []))
    ∙ ap (λ (ms : List (Mark Item)). move_marks move_item there (first ∷ []) ++ ms) (append_assoc (move_marks move_item there inside) (close ∷ []) rest)

mutual
  one-flat : (v : Shift) (t : Tree Item) (rest : List (Mark Item)) → move_marks move_item v (marks_of move_item t) ++ rest ≡ one_flat v t rest
  one-flat v (leaf a) rest = refl
  one-flat v (presentation l p ts) rest =
      branch-flat v p (open_presentation l) (marks_of_all move_item ts) rest
      ∙ ap (λ (ms : List (Mark Item)). open_presentation l ∷ ms) (all-flat (join_shifts p v) ts (close ∷ rest))
  one-flat v (update h p ts) rest =
      branch-flat v p (open_update h) (marks_of_all move_item ts) rest
      ∙ ap (λ (ms : List (Mark Item)). open_update (move_head (join_shifts p v) h) ∷ ms) (all-flat (join_shifts p v) ts (close ∷ rest))

  pub all-flat : (v : Shift) (ts : Trees Item) (rest : List (Mark Item)) → move_marks move_item v (marks_of_all move_item ts) ++ rest ≡ flat v ts rest
  all-flat v none rest = refl
  all-flat v (tree t ts) rest =
      ap (λ (ms : List (Mark Item)). ms ++ rest) (all_moved-append move_item v (marks_of move_item t) (marks_of_all move_item ts))
      ∙ append_assoc (move_marks move_item v (marks_of move_item t)) (move_marks move_item v (marks_of_all move_item ts)) rest
      ∙ ap (λ (ms : List (Mark Item)). move_marks move_item v (marks_of move_item t) ++ ms) (all-flat v ts rest)
      ∙ one-flat v t (flat v ts rest)

-- the same without other marks behind them
pub row-flat : (v : Shift) (ts : Trees Item) → flat v ts [] ≡ move_marks move_item v (marks_of_all move_item ts)
row-flat v ts = sym (all-flat v ts []) ∙ append-nil (move_marks move_item v (marks_of_all move_item ts))

-- ---- equal marks split into the same parts

-- marks behind a row: none, or such as begin with a closing
abbrev pub AreBehind : List (Mark Item) → Type 0
AreBehind [] = Unit {0}
AreBehind (close ∷ ms) = Unit {0}
AreBehind (m ∷ ms) = ⊥

-- two rows are the same as they stand, and so is what is behind them
pub record SameRows (v w : Shift) (ts us : Trees Item) (rest others : List (Mark Item)) : Type 0 where
  pub marks : (more : List (Mark Item)) → flat v ts more ≡ flat w us more
  pub behind : rest ≡ others

-- two trees are
pub record SameTrees (v w : Shift) (t u : Tree Item) (rest others : List (Mark Item)) : Type 0 where
  pub marks : (more : List (Mark Item)) → one_flat v t more ≡ one_flat w u more
  pub behind : rest ≡ others

-- the first mark alone
abbrev pub first : List (Mark Item) → List (Mark Item)
first [] = []
first (m ∷ ms) = m ∷ []

-- the marks behind it
abbrev pub behind : List (Mark Item) → List (Mark Item)
behind [] = []
behind (m ∷ ms) = ms

-- no tree begins with a closing
begins : (v : Shift) (t : Tree Item) (ms : List (Mark Item)) → AreBehind (one_flat v t ms) → ⊥
begins v (leaf a) ms h = h
begins v (presentation l p ts) ms h = h
begins v (update h p ts) ms k = k

-- a tree draws something
pub no-branch : (v : Shift) (t : Tree Item) (ms : List (Mark Item)) → [] ≡ one_flat v t ms → ⊥
no-branch v (leaf a) ms e = cc
no-branch v (presentation l p ts) ms e = cc
no-branch v (update h p ts) ms e = cc

mutual
  pub split-tree : (v w : Shift) (t u : Tree Item) (rest others : List (Mark Item)) → one_flat v t rest ≡ one_flat w u others → SameTrees v w t u rest others
  split-tree v w (leaf a) (leaf b) rest others e = record {
    marks = λ more. λ i. ap first e i ++ more;
    behind = ap behind e;
  }
  split-tree v w (presentation l p ts) (presentation m q us) rest others e =
      let inside = split-row (join_shifts p v) (join_shifts q w) ts us (close ∷ rest) (close ∷ others) tt tt (ap behind e) in
      record { marks = λ more. λ i. ap first e i ++ inside.marks (close ∷ more) i; behind = ap behind inside.behind }
  split-tree v w (update h p ts) (update k q us) rest others e =
      let inside = split-row (join_shifts p v) (join_shifts q w) ts us (close ∷ rest) (close ∷ others) tt tt (ap behind e) in
      record { marks = λ more. λ i. ap first e i ++ inside.marks (close ∷ more) i; behind = ap behind inside.behind }
  split-tree v w (leaf a) (presentation m q us) rest others e = cc
  split-tree v w (leaf a) (update k q us) rest others e = cc
  split-tree v w (presentation l p ts) (leaf b) rest others e = cc
  split-tree v w (presentation l p ts) (update k q us) rest others e = cc
  split-tree v w (update h p ts) (leaf b) rest others e = cc
  split-tree v w (update h p ts) (presentation m q us) rest others e = cc

  pub split-row : (v w : Shift) (ts us : Trees Item) (rest others : List (Mark Item)) → AreBehind rest → AreBehind others
      → flat v ts rest ≡ flat w us others → SameRows v w ts us rest others
  split-row v w none none rest others b c e = record { marks = λ more. refl; behind = e }
  split-row v w none (tree u us) rest others b c e =
      absurd (begins w u (flat w us others) (subst (λ (ms : List (Mark Item)). AreBehind ms) e b))
  split-row v w (tree t ts) none rest others b c e =
      absurd (begins v t (flat v ts rest) (subst (λ (ms : List (Mark Item)). AreBehind ms) (sym e) c))
  split-row v w (tree t ts) (tree u us) rest others b c e =
      let one = split-tree v w t u (flat v ts rest) (flat w us others) e in
      let more = split-row v w ts us rest others b c one.behind in
      record {
        marks = λ ms. one.marks (flat v ts ms) ∙ ap (λ (ns : List (Mark Item)). one_flat w u ns) (more.marks ms);
        behind = more.behind;
      }

-- ---- the same marks of rows that stand elsewhere

-- from where the second stands back to where it stood
abbrev pub turned_back : Shift → Shift
turned_back v = record { dx = neg_ℤ v.dx; dy = neg_ℤ v.dy }

-- how far the first are moved to be the second, which stand moved so far
abbrev pub apart_by : Shift → Shift → Shift
apart_by v w = join_shifts v (turned_back w)

there-and-back : (w : Shift) → join_shifts w (turned_back w) ≡ still
there-and-back w =
    let across : w.dx +ℤ neg_ℤ w.dx ≡ pos 0 = omega (arith, ints) in
    let down : w.dy +ℤ neg_ℤ w.dy ≡ pos 0 = omega (arith, ints) in
    λ i. record { dx = across i; dy = down i }

pub moved-apart : (v w : Shift) (ms ns : List (Mark Item)) → move_marks move_item v ms ≡ move_marks move_item w ns
    → move_marks move_item (apart_by v w) ms ≡ ns
moved-apart v w ms ns e =
    sym (all_twice move_item item_moves_twice v (turned_back w) ms)
    ∙ ap (λ (ks : List (Mark Item)). move_marks move_item (turned_back w) ks) e
    ∙ all_twice move_item item_moves_twice w (turned_back w) ns
    ∙ ap (λ (u : Shift). move_marks move_item u ns) (there-and-back w)
    ∙ all-still move_item item_stays ns
