-- Walks and histories in which no level has two updates of one site and id.
use Rattle.std.specs.Prelude.{◌≡◌, ◌&&◌, ◌||◌, Bool, false, List, [], ◌∷◌, ◌++◌}
use Rattle.std.specs.Ordering.{is_eq}
use Rattle.cl_value.specs.Data.{Data, order_of}
use Rattle.cl_syntax.specs.declared.sites.Site.{Site}
use Rattle.cl_medium.specs.Items.{Item}
use Rattle.cl_record.specs.Trees.{Tree, Trees, leaf, none, presentation, tree, trees_of, update}
use Rattle.cl_display.specs.Siblings.{same_site}
use Rattle.cl_display.specs.Walks.{Walk, done, met}

-- an update of this site and this id is opened at the level
abbrev pub is_opened : Site → Data → Walk → Bool
is_opened site id done = false
is_opened site id (met o inside rest) = (same_site site o.site && is_eq (order_of id o.id)) || is_opened site id rest

-- no level of a walk opens a site and an id twice
abbrev pub OpensOnce : Walk → Type 0
OpensOnce done = Unit {0}
OpensOnce (met o inside rest) = (is_opened o.site o.id rest ≡ false) × (OpensOnce inside × OpensOnce rest)

-- ---- histories

-- the sites and ids of the updates of a level, in order; what presentations hold stands at their level
abbrev mutual
  pub names_in : Tree Item → List (Site × Data)
  names_in (leaf a) = []
  names_in (presentation l p ts) = names ts
  names_in (update h p ts) = (h.site, h.id) ∷ []

  -- of trees in a row
  pub names : Trees Item → List (Site × Data)
  names none = []
  names (tree t ts) = names_in t ++ names ts

-- one of them is this site and this id
abbrev pub is_named : Site → Data → List (Site × Data) → Bool
is_named site id [] = false
is_named site id (n ∷ ns) = (same_site site n.0 && is_eq (order_of id n.1)) || is_named site id ns

-- none of them is there twice
abbrev pub AreOnce : List (Site × Data) → Type 0
AreOnce [] = Unit {0}
AreOnce (n ∷ ns) = (is_named n.0 n.1 ns ≡ false) × AreOnce ns

-- in each update, at any depth, none is there twice at the level
abbrev mutual
  pub HoldsOnce : Tree Item → Type 0
  HoldsOnce (leaf a) = Unit {0}
  HoldsOnce (presentation l p ts) = HoldOnce ts
  HoldsOnce (update h p ts) = AreOnce (names ts) × HoldOnce ts

  -- of trees in a row
  pub HoldOnce : Trees Item → Type 0
  HoldOnce none = Unit {0}
  HoldOnce (tree t ts) = HoldsOnce t × HoldOnce ts

-- no level of a history has a site and an id twice
pub record IsNamedOnce (history : List (Tree Item)) : Type 0 where
  pub top : AreOnce (names (trees_of history))
  pub inside : HoldOnce (trees_of history)
