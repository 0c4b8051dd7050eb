-- The lines of trees that stand moved, behind a margin.
use Rattle.std.specs.Prelude.{ℕ, List, [], ◌∷◌, ◌++◌}
use Rattle.cl_region.specs.declared.rects.Shift.{Shift}
use Rattle.cl_record.specs.Lines.{head_line, label_line}
use Rattle.cl_record.specs.Shifts.{join_shifts}
use Rattle.cl_record.specs.Trees.{Tree, Trees, leaf, none, update, presentation, tree}

module _ {A : Type 0} (line_of : A → List ℕ) (move : Shift → A → A) where
  abbrev mutual
    -- the lines of a tree with its margin
    pub tree_lines : List ℕ → Shift → Tree A → List (List ℕ)
    tree_lines margin v (leaf a) = (margin ++ line_of (move v a)) ∷ []
    tree_lines margin v (presentation l p ts) = (margin ++ label_line l) ∷ row_lines (margin ++ 32 ∷ 32 ∷ []) (join_shifts p v) ts
    tree_lines margin v (update h p ts) = (margin ++ head_line h) ∷ row_lines (margin ++ 32 ∷ 32 ∷ []) (join_shifts p v) ts

    -- the lines of a row of trees, each with the same margin
    pub row_lines : List ℕ → Shift → Trees A → List (List ℕ)
    row_lines margin v none = []
    row_lines margin v (tree t ts) = tree_lines margin v t ++ row_lines margin v ts
