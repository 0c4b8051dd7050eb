-- Where updates stand among the children of their level, and where the program finds it.
use Rattle.std.specs.Prelude.{◌≡◌, ◌==◌, ℕ, suc, ◌<◌, ◌≤◌, nat_le, Bool, true, false, ◌&&◌, if◌then◌else◌, List, [], ◌∷◌, length, take, drop, Option, Some, None, option_map}
use Rattle.std.specs.BTreeMap.{BTreeMap}
use Rattle.std.specs.Map.{lookup}
use Rattle.std.specs.Ordering.{is_eq}
use Rattle.cl_value.specs.Data.{Data, order_of}
use Rattle.cl_value.specs.Value.{data_of}
use Rattle.cl_value.specs.declared.Value.{Value}
use Rattle.cl_syntax.specs.declared.sites.Site.{Site}
use Rattle.cl_damage.specs.Children.{Child, has_name}
use Rattle.cl_damage.specs.Touched.{Partner}

-- ---- places

-- the first place, or the second where there is no first
abbrev pub or_place : Option ℕ → Option ℕ → Option ℕ
or_place None other = other
or_place (Some n) other = Some n

-- 0 or no place
abbrev pub place_here : Bool → Option ℕ
place_here false = None
place_here true = Some 0

-- a place, unless it is before another
abbrev pub not_before : ℕ → Option ℕ → Option ℕ
not_before next None = None
not_before next (Some n) = if nat_le next n then Some n else None

module _ {A : Type 0} where
  -- where the last update of this site and id stands
  abbrev pub last_place : Site × Data → List (Child A) → Option ℕ
  last_place name [] = None
  last_place name (o ∷ os) = or_place (option_map suc (last_place name os)) (place_here (has_name name o))

  -- a child stands at this place, from the next one on; and so do those before it and behind it
  pub record StandsAt (next : ℕ) (os : List (Child A)) (p : Partner A) (place : ℕ) : Type 0 where
    pub from : next ≤ place
    pub within : place < length os
    pub front : p.before ≡ drop next (take place os)
    pub there : drop place os ≡ p.it ∷ p.after

  -- a child and its place, or neither
  abbrev pub IsNext : ℕ → List (Child A) → Option (Partner A) → Option ℕ → Type 0
  IsNext next os None None = Unit {0}
  IsNext next os None (Some n) = ⊥
  IsNext next os (Some p) None = ⊥
  IsNext next os (Some p) (Some n) = StandsAt next os p n

-- ---- the map

-- two sites are the same
abbrev pub same_site : Site → Site → Bool
same_site a b = (a.form == b.form) && (a.query == b.query)

-- the place of the update of a site that has this id
abbrev pub with_id : Value → BTreeMap Value ℕ → Option ℕ
with_id id ids = lookup (λ v. is_eq (order_of (data_of id) (data_of v))) ids.entries

-- the same, where the site may have none
abbrev pub with_id_in : Value → Option (BTreeMap Value ℕ) → Option ℕ
with_id_in id None = None
with_id_in id (Some ids) = with_id id ids

-- the place of the update of this site that has this id
abbrev pub placed_at : Site → Value → List (Site × BTreeMap Value ℕ) → Option ℕ
placed_at site id sites = with_id_in id (lookup (same_site site) sites)

-- at each site and id is the place of the last update that has them
abbrev pub KnowsPlaces : {A : Type 0} → List (Site × BTreeMap Value ℕ) → List (Child A) → Type 0
KnowsPlaces sites os = (site : Site) (id : Value) → placed_at site id sites ≡ last_place (site, data_of id) os
