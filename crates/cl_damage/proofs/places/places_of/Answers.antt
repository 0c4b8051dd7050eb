use Rattle.std.proofs.Common.{◌∙◌}
use Rattle.cl_value.specs.Value.{data_of}
use Rattle.cl_damage.specs.Lents.{child_lent}
use Rattle.cl_damage.proofs.NextLemmas.{last_place-next}
use Rattle.cl_damage.proofs.places.places_of.Goals as goal

pub loop-place-preserved : goal.loop-place-preserved
loop-place-preserved g c = λ site id.
    let see = child_lent g.L.Leaf.moved_by in
    c.in_ok-put_child.ensures site id
    ∙ last_place-next see (site, data_of id) c.args.children.now c.loop-place.place c.index-children-place.result _ c.loop-place-test.true c.index-children-place.is
    (c.loop-place.invariant site id)
