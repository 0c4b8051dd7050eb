-- What a level of records holds, with presentations taken apart: items, and updates with their sites and ids.
use Rattle.std.specs.Prelude.{◌==◌, ℤ, Bool, false, ◌&&◌, List, [], ◌∷◌, ◌++◌, Option, Some, None}
use Rattle.std.specs.List.{filter}
use Rattle.std.specs.Ordering.{is_eq}
use Rattle.cl_value.specs.Data.{Data, order_of}
use Rattle.cl_region.specs.Places.{holds}
use Rattle.cl_region.specs.declared.rects.Rect.{Rect}
use Rattle.cl_region.specs.declared.rects.Shift.{Shift}
use Rattle.cl_syntax.specs.declared.sites.Site.{Site}
use Rattle.cl_record.specs.Shifts.{join_shifts}
use Rattle.cl_record.specs.Trees.{Tree, Trees, leaf, presentation, tree, update}
use Rattle.cl_record.specs.Trees as trees

mutual
  -- over the items A: an item, or an update with its site and id, how far it was moved if it was kept, and what it holds
  pub data Child (A : Type 0) : Type 0 where
    item : A → Child A
    updated : Site × Data → Option Shift → Children A → Child A

  -- in a row
  pub data Children (A : Type 0) : Type 0 where
    none : Children A
    child : Child A → Children A → Children A

-- two names of updates, each a site and an id, are the same
abbrev pub is_same_name : Site × Data → Site × Data → Bool
is_same_name a b = ((a.0.form == b.0.form) && (a.0.query == b.0.query)) && is_eq (order_of a.1 b.1)

module _ {A : Type 0} where
  -- as a list
  abbrev pub list_of : Children A → List (Child A)
  list_of none = []
  list_of (child k ks) = k ∷ list_of ks

  -- what it holds
  abbrev pub inside_of : Child A → List (Child A)
  inside_of (item a) = []
  inside_of (updated name kept ks) = list_of ks

  -- the site and the id; an item has none
  abbrev pub name_of : Child A → Option (Site × Data)
  name_of (item a) = None
  name_of (updated name kept ks) = Some name

  -- it is an update of this site and id
  abbrev pub has_name : Site × Data → Child A → Bool
  has_name name (item a) = false
  has_name name (updated other kept ks) = is_same_name name other

  -- the items, at any depth, in order
  abbrev mutual
    pub items_of : Child A → List A
    items_of (item a) = a ∷ []
    items_of (updated name kept ks) = items_in ks

    -- the items of children, in their order
    pub items_in : Children A → List A
    items_in none = []
    items_in (child k ks) = items_of k ++ items_in ks

-- the items that hold a place, in order
abbrev pub items_at : {A : Type 0} → (A → Rect) → (x y : ℤ) → List A → List A
items_at bounds x y items = filter (λ a. holds (bounds a) x y) items

module _ {A : Type 0} (move : Shift → A → A) where
  -- the children that records which stand so far from the start are, before others; none of them is kept
  abbrev mutual
    pub child_before : (at : Shift) → Tree A → Children A → Children A
    child_before at (leaf a) rest = child (item (move at a)) rest
    child_before at (presentation l p ts) rest = children_before (join_shifts p at) ts rest
    child_before at (update h p ts) rest = child (updated (h.site, h.id) None (children_before (join_shifts p at) ts none)) rest

    -- the children of trees, in front of others
    pub children_before : (at : Shift) → Trees A → Children A → Children A
    children_before at trees.none rest = rest
    children_before at (tree t ts) rest = child_before at t (children_before at ts rest)
