-- The lines of trees are those of their marks.
use Rattle.std.proofs.Common.{◌≡◌, ℕ, zero, suc, pos, ◌+ℤ◌, List, [], ◌∷◌, ◌++◌, refl, ◌∙◌, ap, sym, append_assoc}
use Rattle.std.proofs.lemmas.List.{append-nil}
use Rattle.cl_region.specs.declared.rects.Shift.{Shift}
use Rattle.cl_record.specs.Lines.{head_line, history_lines, label_line, lines_from, margin}
use Rattle.cl_record.specs.Marks.{Mark, move_marks, close, history_marks, marks_of, marks_of_all}
use Rattle.cl_record.specs.Shifts.{join_shifts, still}
use Rattle.cl_record.specs.TreeLines.{row_lines, tree_lines}
use Rattle.cl_record.specs.Trees.{Tree, Trees, leaf, none, update, presentation, tree, trees_of}
use Rattle.cl_record.proofs.Moves.{all-still, all_moved-append, all_twice}

margin_deeper : (depth : ℕ) → margin (suc depth) ≡ margin depth ++ 32 ∷ 32 ∷ []
margin_deeper zero = refl
margin_deeper (suc depth) = ap (λ (bytes : List ℕ). 32 ∷ 32 ∷ bytes) (margin_deeper depth)

module _ {A : Type 0} (line_of : A → List ℕ) (move : Shift → A → A)
    (twice : (v w : Shift) (a : A) → move w (move v a) ≡ move (record { dx = v.dx +ℤ w.dx; dy = v.dy +ℤ w.dy }) a)
    (stays : (a : A) → move (record { dx = pos 0; dy = pos 0 }) a ≡ a) where
  -- the marks of a branch behind its opening
  inside_marks : (p v : Shift) (ms rest : List (Mark A))
      → move_marks move v (move_marks move p (ms ++ close ∷ [])) ++ rest ≡ move_marks move (join_shifts p v) ms ++ close ∷ rest
  inside_marks p v ms rest =
      ap (λ (ks : List (Mark A)). ks ++ rest) (all_twice move twice p v (ms ++ close ∷ []) ∙ all_moved-append move (join_shifts p v) ms (close ∷ []))
      ∙ append_assoc (move_marks move (join_shifts p v) ms) (close ∷ []) rest

  lines-inside : (depth : ℕ) (v : Shift) (ts : Trees A) (rest : List (Mark A))
      → lines_from line_of (suc depth) (move_marks move v (marks_of_all move ts) ++ close ∷ rest) ≡ row_lines line_of move (margin (suc depth)) v ts ++ lines_from line_of depth rest
      → lines_from line_of (suc depth) (move_marks move v (marks_of_all move ts) ++ close ∷ rest)
      ≡ row_lines line_of move (margin depth ++ 32 ∷ 32 ∷ []) v ts ++ lines_from line_of depth rest
  lines-inside depth v ts rest h = h ∙ ap (λ (bytes : List ℕ). row_lines line_of move bytes v ts ++ lines_from line_of depth rest) (margin_deeper depth)

  mutual
    lines-tree : (depth : ℕ) (v : Shift) (t : Tree A) (rest : List (Mark A))
        → lines_from line_of depth (move_marks move v (marks_of move t) ++ rest) ≡ tree_lines line_of move (margin depth) v t ++ lines_from line_of depth rest
    lines-tree depth v (leaf a) rest = refl
    lines-tree depth v (presentation l p ts) rest =
        ap (λ (ks : List (Mark A)). (margin depth ++ label_line l) ∷ lines_from line_of (suc depth) ks) (inside_marks p v (marks_of_all move ts) rest)
        ∙ ap (λ (lines : List (List ℕ)). (margin depth ++ label_line l) ∷ lines) (lines-inside depth (join_shifts p v) ts rest (lines-row (suc depth) (join_shifts p v) ts (close ∷ rest)))
    lines-tree depth v (update h p ts) rest =
        ap (λ (ks : List (Mark A)). (margin depth ++ head_line h) ∷ lines_from line_of (suc depth) ks) (inside_marks p v (marks_of_all move ts) rest)
        ∙ ap (λ (lines : List (List ℕ)). (margin depth ++ head_line h) ∷ lines) (lines-inside depth (join_shifts p v) ts rest (lines-row (suc depth) (join_shifts p v) ts (close ∷ rest)))

    lines-row : (depth : ℕ) (v : Shift) (ts : Trees A) (rest : List (Mark A))
        → lines_from line_of depth (move_marks move v (marks_of_all move ts) ++ rest) ≡ row_lines line_of move (margin depth) v ts ++ lines_from line_of depth rest
    lines-row depth v none rest = refl
    lines-row depth v (tree t ts) rest =
        let first = move_marks move v (marks_of move t) in
        let others = move_marks move v (marks_of_all move ts) in
        ap (λ (ks : List (Mark A)). lines_from line_of depth (ks ++ rest)) (all_moved-append move v (marks_of move t) (marks_of_all move ts))
        ∙ (ap (λ (ks : List (Mark A)). lines_from line_of depth ks) (append_assoc first others rest)
        ∙ (lines-tree depth v t (others ++ rest)
        ∙ (ap (λ (lines : List (List ℕ)). tree_lines line_of move (margin depth) v t ++ lines) (lines-row depth v ts rest)
        ∙ sym (append_assoc (tree_lines line_of move (margin depth) v t) (row_lines line_of move (margin depth) v ts) (lines_from line_of depth rest)))))

  pub row_lines-history : (ts : List (Tree A)) → row_lines line_of move [] still (trees_of ts) ≡ history_lines line_of move ts
  row_lines-history ts =
      sym (append-nil (row_lines line_of move [] still (trees_of ts)))
      ∙ (sym (lines-row 0 still (trees_of ts) [])
      ∙ ap (λ (ks : List (Mark A)). lines_from line_of 0 ks)
      (append-nil (move_marks move still (history_marks move ts)) ∙ all-still move stays (history_marks move ts)))
