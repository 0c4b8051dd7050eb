-- The items of children, and the steps of a walk that gives their bounds.
use Rattle.std.proofs.Common.{◌≡◌, ◌≤◌, List, ◌∷◌, ◌++◌, None, refl, map, ◌∙◌, ap, sym, append_assoc, arith}
use Rattle.std.proofs.lemmas.List.{append-nil, map-append}
use Rattle.cl_region.specs.Places.{move_rect}
use Rattle.cl_region.specs.declared.rects.Rect.{Rect}
use Rattle.cl_region.specs.declared.rects.Shift.{Shift}
use Rattle.cl_record.specs.Ranges.{ArePlaced}
use Rattle.cl_record.specs.Shifts.{join_shifts}
use Rattle.cl_record.specs.Trees.{Tree, Trees, leaf, presentation, size_of_all, tree, update}
use Rattle.cl_record.specs.Trees as trees
use Rattle.cl_record.proofs.Ranges.{placed-rest}
use Rattle.cl_damage.specs.Children.{Children, child, child_before, children_before, items_in, none, updated}
use Rattle.cl_damage.specs.Keeps.{Keeps, opened}
use Rattle.cl_damage.specs.Keeps as keeps
use Rattle.cl_damage.specs.NewChildren.{new_child_before, new_children_before}

module _ {A : Type 0} (move : Shift → A → A) where
  -- the items of a record, and then those of the children behind it
  mutual
    pub child-behind : (at : Shift) (t : Tree A) (rest : Children A)
        → items_in (child_before move at t rest) ≡ items_in (child_before move at t none) ++ items_in rest
    child-behind at (leaf a) rest = refl
    child-behind at (presentation l p ts) rest = children-behind (join_shifts p at) ts rest
    child-behind at (update h p ts) rest =
        ap (λ (items : List A). items ++ items_in rest) (sym (append-nil (items_in (children_before move (join_shifts p at) ts none))))

    pub children-behind : (at : Shift) (ts : Trees A) (rest : Children A)
        → items_in (children_before move at ts rest) ≡ items_in (children_before move at ts none) ++ items_in rest
    children-behind at trees.none rest = refl
    children-behind at (tree t ts) rest =
        child-behind at t (children_before move at ts rest)
        ∙ (ap (λ (items : List A). items_in (child_before move at t none) ++ items) (children-behind at ts rest)
        ∙ (sym (append_assoc (items_in (child_before move at t none)) (items_in (children_before move at ts none)) (items_in rest))
        ∙ ap (λ (items : List A). items ++ items_in rest) (sym (child-behind at t (children_before move at ts none)))))

  -- where something was kept, the items are the same
  mutual
    child-items : (at : Shift) (t : Tree A) (ks : Keeps) (rest : Keeps → Children A) (other : Children A)
        → ((left : Keeps) → items_in (rest left) ≡ items_in other)
        → items_in (new_child_before move at t ks rest) ≡ items_in (child_before move at t other)
    child-items at (leaf a) ks rest other h = ap (λ (items : List A). move at a ∷ items) (h ks)
    child-items at (presentation l p ts) ks rest other h = children-items (join_shifts p at) ts ks rest other h
    child-items at (update l p ts) (opened v inside more) rest other h =
        let within = children-items (join_shifts p at) ts inside (λ _. none) none (λ _. refl) in
        λ i. within i ++ h more i
    child-items at (update l p ts) keeps.none rest other h =
        let within = children-items (join_shifts p at) ts keeps.none (λ _. none) none (λ _. refl) in
        λ i. within i ++ h keeps.none i

    pub children-items : (at : Shift) (ts : Trees A) (ks : Keeps) (rest : Keeps → Children A) (other : Children A)
        → ((left : Keeps) → items_in (rest left) ≡ items_in other)
        → items_in (new_children_before move at ts ks rest) ≡ items_in (children_before move at ts other)
    children-items at trees.none ks rest other h = h ks
    children-items at (tree t ts) ks rest other h =
        child-items at t ks (λ left. new_children_before move at ts left rest) (children_before move at ts other)
        (λ left. children-items at ts left rest other h)

  -- where nothing was kept, the children of old records and of new ones are the same
  mutual
    child-unkept : (at : Shift) (t : Tree A) (rest : Keeps → Children A)
        → new_child_before move at t keeps.none rest ≡ child_before move at t (rest keeps.none)
    child-unkept at (leaf a) rest = refl
    child-unkept at (presentation l p ts) rest = children-unkept (join_shifts p at) ts rest
    child-unkept at (update h p ts) rest =
        ap (λ (ks : Children A). child (updated (h.site, h.id) None ks) (rest keeps.none)) (children-unkept (join_shifts p at) ts (λ _. none))

    pub children-unkept : (at : Shift) (ts : Trees A) (rest : Keeps → Children A)
        → new_children_before move at ts keeps.none rest ≡ children_before move at ts (rest keeps.none)
    children-unkept at trees.none rest = refl
    children-unkept at (tree t ts) rest =
        child-unkept at t (λ left. new_children_before move at ts left rest)
        ∙ ap (λ (ks : Children A). child_before move at t ks) (children-unkept at ts rest)

module _ {A : Type 0} (bounds : A → Rect) (move : Shift → A → A) where
  -- the bounds of the items of a record
  abbrev pub bounds_before : (at : Shift) → Tree A → List Rect
  bounds_before at t = map bounds (items_in (child_before move at t none))

  -- of records in a row
  abbrev pub all_bounds : (at : Shift) → Trees A → List Rect
  all_bounds at ts = map bounds (items_in (children_before move at ts none))

  bounds-first : (at : Shift) (t : Tree A) (ts : Trees A) → all_bounds at (tree t ts) ≡ bounds_before at t ++ all_bounds at ts
  bounds-first at t ts =
      ap (λ (items : List A). map bounds items) (child-behind move at t (children_before move at ts none))
      ∙ map-append bounds (items_in (child_before move at t none)) (items_in (children_before move at ts none))

  -- what was given, and behind it what is left of the records, is what was there and what all of them give
  pub record GivesOn (v : Shift) (was now : List Rect) (all left : Trees A) : Type 0 where
    pub placed : ArePlaced bounds move v left
    pub fewer : size_of_all left ≤ size_of_all all
    pub whole : now ++ all_bounds v left ≡ was ++ all_bounds v all

  pub gives_on : ((v : Shift) (a : A) → bounds (move v a) ≡ move_rect v (bounds a))
      → (v : Shift) (was now : List Rect) (all : Trees A) (t : Tree A) (left : Trees A) → GivesOn v was now all (tree t left)
      → (more : List Rect) → more ≡ now ++ bounds_before v t → GivesOn v was more all left
  gives_on bounds_move v was now all t left h more e = record {
    placed = placed-rest bounds move bounds_move v t left h.placed;
    fewer = omega (arith, h.fewer);
    whole = ap (λ (rs : List Rect). rs ++ all_bounds v left) e
        ∙ (append_assoc now (bounds_before v t) (all_bounds v left)
        ∙ (ap (λ (rs : List Rect). now ++ rs) (sym (bounds-first v t left)) ∙ h.whole));
  }
