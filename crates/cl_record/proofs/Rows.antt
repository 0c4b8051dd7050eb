-- Nodes in a row.
use Rattle.std.proofs.Common.{◌≡◌, List, [], ◌∷◌, ◌++◌, refl, ◌∙◌, ap, sym, append_assoc}
use Rattle.std.proofs.lemmas.List.{append-nil}
use Rattle.cl_medium.specs.declared.leaves.Leaf.{Ghosts}
use Rattle.cl_region.specs.declared.rects.Rect.{Rect}
use Rattle.cl_region.specs.declared.rects.Shift.{Shift}
use Rattle.cl_record.specs.Boxes.{join_summaries, summary_of}
use Rattle.cl_record.specs.Marks.{Mark, marks_of, marks_of_all}
use Rattle.cl_record.specs.Ranges.{AreSound, IsRow, IsSound}
use Rattle.cl_record.specs.Seen.{forest_of, tree_of}
use Rattle.cl_record.specs.declared.nodes.Node.{Node}
use Rattle.cl_record.specs.declared.summaries.Summary.{Summary}
use Rattle.cl_record.proofs.Boxes.{summary-append}

module _ {A : Type 0} (bounds : A → Rect) (move : Shift → A → A) where
  sound-append : (ns ms : List (Node A)) → AreSound bounds move (forest_of ns) → AreSound bounds move (forest_of ms) → AreSound bounds move (forest_of (ns ++ ms))
  sound-append [] ms h k = k
  sound-append (n ∷ ns) ms h k = (h.0, sound-append ns ms h.1 k)

  pub marks-append : (ns ms : List (Node A))
      → marks_of_all move (forest_of (ns ++ ms)) ≡ marks_of_all move (forest_of ns) ++ marks_of_all move (forest_of ms)
  marks-append [] ms = refl
  marks-append (n ∷ ns) ms =
      ap (λ (ks : List (Mark A)). marks_of move (tree_of n) ++ ks) (marks-append ns ms)
      ∙ sym (append_assoc (marks_of move (tree_of n)) (marks_of_all move (forest_of ns)) (marks_of_all move (forest_of ms)))

module _ {A : Type 0} (g : Ghosts A) where
  pub row-append : (ns ms : List (Node A)) (a b c : Summary) → IsRow g (forest_of ns) a → IsRow g (forest_of ms) b → c ≡ join_summaries a b
      → IsRow g (forest_of (ns ++ ms)) c
  row-append ns ms a b c h k e = record {
    sound = sound-append g.bounds g.moved_by ns ms h.sound k.sound;
    summary_is = e ∙ rw (h.summary_is, k.summary_is, marks-append g.bounds g.moved_by ns ms) (sym (summary-append g.bounds (marks_of_all g.moved_by (forest_of ns)) (marks_of_all g.moved_by (forest_of ms))));
  }

  pub row-push : (ns : List (Node A)) (n : Node A) (a b c : Summary) → IsRow g (forest_of ns) a → IsSound g.bounds g.moved_by (tree_of n) → b ≡ summary_of g.bounds (marks_of g.moved_by (tree_of n))
      → c ≡ join_summaries a b → IsRow g (forest_of (ns ++ n ∷ [])) c
  row-push ns n a b c h k e f =
      row-append ns (n ∷ []) a b c h (record { sound = (k, tt); summary_is = e ∙ ap (λ (ms : List (Mark A)). summary_of g.bounds ms) (sym (append-nil (marks_of g.moved_by (tree_of n)))) }) f
