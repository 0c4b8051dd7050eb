-- The updates of a level by their sites and ids, as the program keeps them.
use Rattle.std.specs.Prelude.{◌≡◌, List, Option, None, Some, IfSome, option_map}
use Rattle.std.specs.BTreeMap.{BTreeMap}
use Rattle.std.specs.Map.{lookup}
use Rattle.std.specs.Ordering.{is_eq}
use Rattle.cl_value.specs.Data.{Data, order_of}
use Rattle.cl_value.specs.Value.{data_of}
use Rattle.cl_value.specs.declared.Value.{Value}
use Rattle.cl_region.specs.Places.{IsInRange, move_rect}
use Rattle.cl_region.specs.declared.rects.Shift.{Shift}
use Rattle.cl_syntax.specs.declared.sites.Site.{Site}
use Rattle.cl_medium.specs.Items.{Item}
use Rattle.cl_record.specs.Trees.{Trees}
use Rattle.cl_display.specs.Siblings.{same_site}
use Rattle.cl_reuse.specs.Kept.{OldUpdate, found}
use Rattle.cl_updating.specs.declared.levels.Old.{Old}
use Rattle.cl_updating.specs.Levels.{old_of}

-- the update of a site that has this id
abbrev pub with_id : Value → BTreeMap Value Old → Option Old
with_id id ids = lookup (λ v. is_eq (order_of (data_of id) (data_of v))) ids.entries

-- the same, where the site may have none
abbrev pub with_id_in : Value → Option (BTreeMap Value Old) → Option Old
with_id_in id None = None
with_id_in id (Some ids) = with_id id ids

-- the update of this site that has this id
abbrev pub placed_at : Site → Value → List (Site × BTreeMap Value Old) → Option Old
placed_at site id sites = with_id_in id (lookup (same_site site) sites)

-- an update stands in the range
abbrev pub StandsInRange : OldUpdate → Type 0
StandsInRange u = IsInRange (move_rect u.place u.head.measures.extent)

-- at each site and id is the first update of a level that has them, and what is found stands in the range
pub record AreOf (at : Shift) (old : Trees Item) (sites : List (Site × BTreeMap Value Old)) : Type 0 where
  pub finds : (site : Site) (id : Value) → option_map old_of (placed_at site id sites) ≡ found site (data_of id) at old
  pub range : (site : Site) (id : Data) → IfSome (found site id at old) StandsInRange
