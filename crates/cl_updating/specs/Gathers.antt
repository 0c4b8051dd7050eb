-- The updates of a level in a row, and what is found among them.
use Rattle.std.specs.Prelude.{if◌then◌else◌, List, [], ◌∷◌, ◌++◌, Option, Some, None}
use Rattle.cl_value.specs.Data.{Data}
use Rattle.cl_region.specs.declared.rects.Shift.{Shift}
use Rattle.cl_syntax.specs.declared.sites.Site.{Site}
use Rattle.cl_medium.specs.Items.{Item}
use Rattle.cl_record.specs.Heads.{HeadAt}
use Rattle.cl_record.specs.Shifts.{join_shifts}
use Rattle.cl_record.specs.Trees.{Tree, Trees, leaf, none, presentation, tree, trees_of, update}
use Rattle.cl_reuse.specs.Kept.{OldUpdate, is_that}
use Rattle.cl_updating.specs.declared.levels.Met.{Met}

-- an update, where it stands, and what it holds
pub record UpdateIn (A : Type 0) : Type 0 where
  pub head : HeadAt
  pub place : Shift
  pub inside : Trees A

module _ {A : Type 0} where
  -- what is seen of an update that was met
  abbrev pub update_of : Met A → UpdateIn A
  update_of m = record { head = m.piece.now.head; place = m.place; inside = trees_of m.piece.now.inside }

  -- the updates of a level in their order; what presentations hold stands at their level
  abbrev mutual
    pub updates_in : (at : Shift) → Tree A → List (UpdateIn A)
    updates_in at (leaf a) = []
    updates_in at (presentation l p ts) = updates_of (join_shifts p at) ts
    updates_in at (update h p ts) = record { head = h; place = join_shifts p at; inside = ts } ∷ []

    -- of trees in a row
    pub updates_of : (at : Shift) → Trees A → List (UpdateIn A)
    updates_of at none = []
    updates_of at (tree t ts) = updates_in at t ++ updates_of at ts

-- an update of the items of a pane
abbrev pub old_in : UpdateIn Item → OldUpdate
old_in u = record { head = u.head; place = u.place; inside = u.inside }

-- the first of these updates with this site and this id
abbrev pub first_of : Site → Data → List (UpdateIn Item) → Option OldUpdate
first_of site id [] = None
first_of site id (u ∷ us) = if is_that site id u.head then Some (old_in u) else first_of site id us
