-- The steps of a walk that meets the children of a level.
use Rattle.std.proofs.Common.{◌≡◌, ℕ, zero, suc, ◌<◌, ◌≤◌, List, [], ◌∷◌, ◌++◌, refl, length, map, drop, ◌∙◌, sym, subst, arith}
use Rattle.cl_region.specs.Places.{move_rect}
use Rattle.cl_region.specs.declared.rects.Rect.{Rect}
use Rattle.cl_region.specs.declared.rects.Shift.{Shift}
use Rattle.cl_record.specs.Ranges.{ArePlaced}
use Rattle.cl_record.specs.Trees.{Tree, Trees, size_of_all, tree}
use Rattle.cl_record.proofs.Ranges.{placed-rest}
use Rattle.cl_damage.specs.Children.{Children, list_of}
use Rattle.cl_damage.specs.KeepRows.{keeps_of}
use Rattle.cl_damage.specs.Keeps.{Keeps}
use Rattle.cl_damage.specs.Lents.{AllStand, Stands, all_but_first, child_lent}
use Rattle.cl_damage.specs.NewChildren.{new_child_before, new_children_before}
use Rattle.cl_damage.specs.declared.keeps.Keep.{Keep}
use Rattle.cl_damage.specs.declared.lents.Lent.{Lent}
use Rattle.cl_damage.proofs.EachLemmas.{each_both}

-- the keeps behind one
pub rest-drop : (ks : List Keep) (n : ℕ) → n < length ks → keeps_of (drop (suc n) ks) ≡ all_but_first (keeps_of (drop n ks))
rest-drop [] n h = absurd (omega arith)
rest-drop (k ∷ ks) zero h = refl
rest-drop (k ∷ ks) (suc n) h = rest-drop ks n (omega arith)

module _ {A : Type 0} (bounds : A → Rect) (move : Shift → A → A) where
  -- one more that stands
  pub stand-last : (ls news : List (Lent A)) (l : Lent A) → AllStand bounds move ls → Stands bounds move l → news ≡ ls ++ l ∷ [] → AllStand bounds move news
  stand-last ls news l h k e =
      subst (λ (ms : List (Lent A)). AllStand bounds move ms) (sym e) (each_both (Stands bounds move) ls (l ∷ []) h (k, tt))

  -- the children that were met, and behind them those of what is left of the records, are those that were there and those of all
  pub record MeetsOn (v : Shift) (ks : List Keep) (was now : List (Lent A)) (first next : ℕ) (all left : Trees A) : Type 0 where
    pub placed : ArePlaced bounds move v left
    pub fewer : size_of_all left ≤ size_of_all all
    pub stand : AllStand bounds move now
    pub whole : (rest : Keeps → Children A)
        → map (child_lent move) was ++ list_of (new_children_before move v all (keeps_of (drop first ks)) rest)
        ≡ map (child_lent move) now ++ list_of (new_children_before move v left (keeps_of (drop next ks)) rest)

  pub meets_on : ((v : Shift) (a : A) → bounds (move v a) ≡ move_rect v (bounds a))
      → (v : Shift) (ks : List Keep) (was now : List (Lent A)) (first next : ℕ) (all : Trees A) (t : Tree A) (left : Trees A)
      → MeetsOn v ks was now first next all (tree t left) → (more : List (Lent A)) (after : ℕ) → AllStand bounds move more
      → ((rest : Keeps → Children A) → map (child_lent move) now ++ list_of (new_child_before move v t (keeps_of (drop next ks)) rest)
      ≡ map (child_lent move) more ++ list_of (rest (keeps_of (drop after ks))))
      → MeetsOn v ks was more first after all left
  meets_on bounds_move v ks was now first next all t left h more after stand step = record {
    placed = placed-rest bounds move bounds_move v t left h.placed;
    fewer = omega (arith, h.fewer);
    stand = stand;
    whole = λ rest. h.whole rest ∙ step (λ behind. new_children_before move v left behind rest);
  }
