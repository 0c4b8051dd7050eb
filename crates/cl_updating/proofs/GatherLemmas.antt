-- The steps of a walk that gathers the updates of a level.
use Rattle.std.proofs.Common.{◌≡◌, ◌≤◌, List, ◌++◌, ap, sym, ◌∙◌, append_assoc, arith}
use Rattle.std.proofs.lemmas.List.{append-nil}
use Rattle.cl_region.specs.Places.{move_rect}
use Rattle.cl_region.specs.declared.rects.Rect.{Rect}
use Rattle.cl_region.specs.declared.rects.Shift.{Shift}
use Rattle.cl_record.specs.Ranges.{ArePlaced}
use Rattle.cl_record.specs.Trees.{Tree, Trees, none, size_of_all, tree}
use Rattle.cl_record.proofs.Ranges.{placed-rest}
use Rattle.cl_updating.specs.Gathers.{UpdateIn, updates_in, updates_of}

module _ {A : Type 0} (bounds : A → Rect) (move : Shift → A → A) where
  -- what is gathered, and behind it the updates of what is left of the trees, is what was there and the updates of all of them
  pub record GathersOn (v : Shift) (was now : List (UpdateIn A)) (all left : Trees A) : Type 0 where
    pub placed : ArePlaced bounds move v left
    pub fewer : size_of_all left ≤ size_of_all all
    pub whole : now ++ updates_of v left ≡ was ++ updates_of v all

  pub gathers_on : ((v : Shift) (a : A) → bounds (move v a) ≡ move_rect v (bounds a))
      → (v : Shift) (was now : List (UpdateIn A)) (all : Trees A) (t : Tree A) (left : Trees A) → GathersOn v was now all (tree t left)
      → (more : List (UpdateIn A)) → more ≡ now ++ updates_in v t → GathersOn v was more all left
  gathers_on bounds_move v was now all t left h more e = record {
    placed = placed-rest bounds move bounds_move v t left h.placed;
    fewer = omega (arith, h.fewer);
    whole = ap (λ (us : List (UpdateIn A)). us ++ updates_of v left) e ∙ (append_assoc now (updates_in v t) (updates_of v left) ∙ h.whole);
  }

  pub gathers_all : (v : Shift) (was now : List (UpdateIn A)) (all : Trees A) → GathersOn v was now all none → now ≡ was ++ updates_of v all
  gathers_all v was now all h = sym (append-nil now) ∙ h.whole
