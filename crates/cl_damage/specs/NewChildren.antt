-- The children that old and new records are, where some updates of the new ones were kept.
use Rattle.std.specs.Prelude.{List, None}
use Rattle.cl_region.specs.declared.rects.Shift.{Shift}
use Rattle.cl_record.specs.Shifts.{join_shifts, still}
use Rattle.cl_record.specs.Trees.{Tree, Trees, leaf, presentation, tree, trees_of, update}
use Rattle.cl_record.specs.Trees as records
use Rattle.cl_damage.specs.Children.{Children, child, children_before, item, none, updated}
use Rattle.cl_damage.specs.Keeps.{Keeps, opened}
use Rattle.cl_damage.specs.Keeps as keeps

module _ {A : Type 0} (move : Shift → A → A) where
  -- the children that new records are which stand so far from the start, before those that the rest of the keeps gives; an update for which no
  -- keep is left was not kept
  abbrev mutual
    pub new_child_before : (at : Shift) → Tree A → Keeps → (Keeps → Children A) → Children A
    new_child_before at (leaf a) ks rest = child (item (move at a)) (rest ks)
    new_child_before at (presentation l p ts) ks rest = new_children_before (join_shifts p at) ts ks rest
    new_child_before at (update h p ts) (opened v inside more) rest =
        child (updated (h.site, h.id) v (new_children_before (join_shifts p at) ts inside (λ _. none))) (rest more)
    new_child_before at (update h p ts) keeps.none rest =
        child (updated (h.site, h.id) None (new_children_before (join_shifts p at) ts keeps.none (λ _. none))) (rest keeps.none)

    -- the children of new trees, in front of others, with what was kept of them
    pub new_children_before : (at : Shift) → Trees A → Keeps → (Keeps → Children A) → Children A
    new_children_before at records.none ks rest = rest ks
    new_children_before at (tree t ts) ks rest = new_child_before at t ks (λ left. new_children_before at ts left rest)

  -- of a history, where these were kept
  abbrev pub new_children : List (Tree A) → Keeps → Children A
  new_children history ks = new_children_before still (trees_of history) ks (λ _. none)

  -- of an old history
  abbrev pub old_children : List (Tree A) → Children A
  old_children history = children_before move still (trees_of history) none
