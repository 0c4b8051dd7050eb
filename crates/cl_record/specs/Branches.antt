-- What presentations and updates are seen as.
use Rattle.std.specs.Prelude.{List, refl}
use Rattle.std.specs.Coded.{Coded, code_by, coded_list, coded×}
use Rattle.cl_region.specs.declared.rects.Shift.{Shift}
use Rattle.cl_record.specs.Heads.{HeadAt, head_code}
use Rattle.cl_record.specs.Labels.{LabelAt, label_code}
use Rattle.cl_record.specs.Trees.{Tree, shift_code, tree_code}

-- a presentation's label, its place, and what it holds, relative to the place
pub record PresentationAt (A : Type 0) : Type 0 where
  pub label : LabelAt
  pub place : Shift
  pub inside : List (Tree A)

-- an update's head, its place, and what it holds, relative to the place
pub record UpdateAt (A : Type 0) : Type 0 where
  pub head : HeadAt
  pub place : Shift
  pub inside : List (Tree A)

-- ---- how the logic stores them

module _ {A : Type 0} (c : Coded A) where
  -- how the logic stores a presentation
  abbrev pub presentation_code : Coded (PresentationAt A)
  presentation_code =
      code_by (LabelAt × (Shift × List (Tree A))) (coded× label_code (coded× shift_code (coded_list (tree_code c))))
      (λ s. (s.label, (s.place, s.inside))) (λ p. record { label = p.0; place = p.1.0; inside = p.1.1 }) (λ _. refl)

  -- how the logic stores an update
  abbrev pub update_code : Coded (UpdateAt A)
  update_code =
      code_by (HeadAt × (Shift × List (Tree A))) (coded× head_code (coded× shift_code (coded_list (tree_code c))))
      (λ p. (p.head, (p.place, p.inside))) (λ p. record { head = p.0; place = p.1.0; inside = p.1.1 }) (λ _. refl)
