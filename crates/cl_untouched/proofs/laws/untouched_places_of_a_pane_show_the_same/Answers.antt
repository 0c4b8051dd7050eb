use Rattle.cl_untouched.proofs.PaneLemmas.{pane-cells, pane-items}
use Rattle.cl_untouched.proofs.laws.untouched_places_of_a_pane_show_the_same.Goals as goal

pub returns-clause-items : goal.returns-clause-items
returns-clause-items c = pane-items

pub returns-clause-cells : goal.returns-clause-cells
returns-clause-cells c = pane-cells
