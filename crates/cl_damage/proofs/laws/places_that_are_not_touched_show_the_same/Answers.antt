use Rattle.std.proofs.Common.{◌∙◌, ap, sym}
use Rattle.cl_record.specs.Replays.{cell_after}
use Rattle.cl_damage.specs.Children.{items_in}
use Rattle.cl_damage.proofs.DepthLemmas.{touched-items}
use Rattle.cl_damage.proofs.PlaceLemmas.{cell-at}
use Rattle.cl_damage.proofs.laws.places_that_are_not_touched_show_the_same.Goals as goal

pub returns-clause-items : goal.returns-clause-items
returns-clause-items g c = λ same sound old new h x y e. touched-items g.L.Leaf.bounds x y same sound old new h e

pub returns-clause-cells : goal.returns-clause-cells
returns-clause-cells g c = λ same sound old new h x y e under.
    sym (cell-at g.L.Leaf.bounds x y g.L.Leaf.cell (λ a c f. g.met.L.Leaf.within a x y c f) (items_in old) under)
    ∙ (ap (λ items. cell_after g.L.Leaf.cell items x y under) (touched-items g.L.Leaf.bounds x y same sound old new h e)
    ∙ cell-at g.L.Leaf.bounds x y g.L.Leaf.cell (λ a c f. g.met.L.Leaf.within a x y c f) (items_in new) under)
