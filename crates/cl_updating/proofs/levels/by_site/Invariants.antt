use Rattle.std.proofs.Common.{◌≡◌, vec_len, map, option_map}
use Rattle.cl_value.specs.Value.{data_of}
use Rattle.cl_value.specs.declared.Value.{Value}
use Rattle.cl_syntax.specs.declared.sites.Site.{Site}
use Rattle.cl_reuse.specs.Kept.{or_then}
use Rattle.cl_updating.specs.Gathers.{first_of, update_of}
use Rattle.cl_updating.specs.Levels.{old_of}
use Rattle.cl_updating.specs.Places.{placed_at}
use Rattle.cl_updating.proofs.levels.by_site.Given as goal

abbrev pub invariant-loop-place : goal.invariant-loop-place
invariant-loop-place l = (site : Site) (id : Value)
    → or_then (first_of site (data_of id) (map update_of l.met.items)) (option_map old_of (placed_at site id l.sites.entries))
    ≡ first_of site (data_of id) (map update_of l.initial.met.items)

abbrev pub decreases-loop-place : goal.decreases-loop-place
decreases-loop-place l = vec_len l.met
