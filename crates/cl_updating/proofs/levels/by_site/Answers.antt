use Rattle.std.proofs.Common.{◌≡◌, List, map, option_map, subst}
use Rattle.cl_medium.specs.Items.{Item}
use Rattle.cl_reuse.specs.Kept.{or_then}
use Rattle.cl_updating.specs.Gathers.{first_of, update_of}
use Rattle.cl_updating.specs.Levels.{old_of}
use Rattle.cl_updating.specs.declared.levels.Met.{Met}
use Rattle.cl_value.specs.Value.{data_of}
use Rattle.cl_updating.specs.Places.{placed_at}
use Rattle.cl_updating.proofs.PlaceLemmas.{put-last}
use Rattle.cl_updating.proofs.levels.by_site.Goals as goal

pub loop-place-preserved : goal.loop-place-preserved
loop-place-preserved c = λ site id.
    put-last site (data_of id) c.pop.new.self.items c.in-Some.field-0 (placed_at site id c.loop-place.sites.entries) (placed_at site id c.put.new.sites.entries) _
    (subst (λ (ms : List (Met Item)). or_then (first_of site (data_of id) (map update_of ms)) (option_map old_of (placed_at site id c.loop-place.sites.entries))
    ≡ first_of site (data_of id) (map update_of c.args.met.items)) c.in-Some.ensures.items (c.loop-place.invariant site id))
    (c.in_ok-put.ensures site id)
