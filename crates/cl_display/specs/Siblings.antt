-- The updates so far at a level: for each site its ids, in the order of values.
use Rattle.std.specs.Prelude.{ℕ, ◌==◌, ◌&&◌, Bool, if◌then◌else◌, List, [], ◌∷◌, length}
use Rattle.std.specs.BTreeSet.{insert_key}
use Rattle.std.specs.List.{list_any}
use Rattle.std.specs.Ordering.{is_eq}
use Rattle.cl_syntax.specs.declared.sites.Site.{Site}
use Rattle.cl_value.specs.Data.{Data, order_of}

-- the sites and ids of the updates of a level so far
abbrev pub Siblings : Type 0
Siblings = List (Site × List Data)

-- two places are the same
abbrev pub same_site : Site → Site → Bool
same_site a b = (a.form == b.form) && (a.query == b.query)

-- the ids of a site
abbrev pub ids_at : Site → Siblings → List Data
ids_at site [] = []
ids_at site (e ∷ more) = if same_site site e.0 then e.1 else ids_at site more

-- these are the ids of a site from now on
abbrev pub with_ids : Site → List Data → Siblings → Siblings
with_ids site ids [] = (site, ids) ∷ []
with_ids site ids (e ∷ more) = if same_site site e.0 then (e.0, ids) ∷ more else e ∷ with_ids site ids more

-- an update of the site has the id
abbrev pub is_taken : Site → Data → Siblings → Bool
is_taken site id siblings = list_any (λ d. is_eq (order_of id d)) (ids_at site siblings)

-- one update more
abbrev pub note : Site → Data → Siblings → Siblings
note site id siblings = with_ids site (insert_key order_of (ids_at site siblings) id) siblings

-- how many updates of the site there are
abbrev pub count_at : Site → Siblings → ℕ
count_at site siblings = length (ids_at site siblings)
