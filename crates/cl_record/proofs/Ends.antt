-- The last of records in a row, and those before it.
use Rattle.std.proofs.Common.{◌≡◌, ◌+◌, List, [], ◌∷◌, ◌++◌, Option, ◌∙◌, ap, subst, arith}
use Rattle.std.proofs.lemmas.List.{append-nil}
use Rattle.cl_region.specs.declared.rects.Rect.{Rect}
use Rattle.cl_region.specs.declared.rects.Shift.{Shift}
use Rattle.cl_record.specs.Boxes.{corner_box, extent_box, join_boxes}
use Rattle.cl_record.specs.Marks.{Mark, marks_of, marks_of_all}
use Rattle.cl_record.specs.Ranges.{ArePlaced, AreSound, IsPlaced, IsSound}
use Rattle.cl_record.specs.Seen.{forest_of, tree_of}
use Rattle.cl_record.specs.Trees.{size_of, size_of_all}
use Rattle.cl_record.specs.declared.nodes.Node.{Node}
use Rattle.cl_record.proofs.Boxes.{extent_box-append}
use Rattle.cl_record.proofs.Ranges.{Fits, fits-first, fits-second}
use Rattle.cl_record.proofs.Rows.{marks-append}

module _ {A : Type 0} where
  pub size-last : (ns : List (Node A)) (n : Node A) → size_of_all (forest_of (ns ++ n ∷ [])) ≡ size_of_all (forest_of ns) + size_of (tree_of n)
  size-last [] n = omega arith
  size-last (m ∷ ns) n = omega (arith, size-last ns n)

module _ {A : Type 0} (bounds : A → Rect) (move : Shift → A → A) where
  pub marks-last : (ns : List (Node A)) (n : Node A) → marks_of_all move (forest_of (ns ++ n ∷ [])) ≡ marks_of_all move (forest_of ns) ++ marks_of move (tree_of n)
  marks-last ns n =
      marks-append bounds move ns (n ∷ [])
      ∙ ap (λ (ms : List (Mark A)). marks_of_all move (forest_of ns) ++ ms) (append-nil (marks_of move (tree_of n)))

  sound-last : (ns : List (Node A)) (n : Node A) → AreSound bounds move (forest_of (ns ++ n ∷ [])) → AreSound bounds move (forest_of ns) × IsSound bounds move (tree_of n)
  sound-last [] n h = (tt, h.0)
  sound-last (m ∷ ns) n h = ((h.0, (sound-last ns n h.1).0), (sound-last ns n h.1).1)

  range-last : (v : Shift) (ns : List (Node A)) (n : Node A) → ArePlaced bounds move v (forest_of (ns ++ n ∷ []))
      → Fits v (join_boxes corner_box (extent_box bounds (marks_of_all move (forest_of ns))) (extent_box bounds (marks_of move (tree_of n))))
  range-last v ns n h =
      subst (λ (o : Option Rect). Fits v o)
      (ap (λ (ms : List (Mark A)). extent_box bounds ms) (marks-last ns n) ∙ extent_box-append bounds (marks_of_all move (forest_of ns)) (marks_of move (tree_of n)))
      h.range

  pub placed-last : (v : Shift) (ns : List (Node A)) (n : Node A) → ArePlaced bounds move v (forest_of (ns ++ n ∷ [])) → IsPlaced bounds move v (tree_of n)
  placed-last v ns n h = record {
    shift = h.shift;
    sound = (sound-last ns n h.sound).1;
    range = fits-second v (extent_box bounds (marks_of_all move (forest_of ns))) (extent_box bounds (marks_of move (tree_of n))) (range-last v ns n h);
  }

  pub placed-before : (v : Shift) (ns : List (Node A)) (n : Node A) → ArePlaced bounds move v (forest_of (ns ++ n ∷ [])) → ArePlaced bounds move v (forest_of ns)
  placed-before v ns n h = record {
    shift = h.shift;
    sound = (sound-last ns n h.sound).0;
    range = fits-first v (extent_box bounds (marks_of_all move (forest_of ns))) (extent_box bounds (marks_of move (tree_of n))) (range-last v ns n h);
  }
