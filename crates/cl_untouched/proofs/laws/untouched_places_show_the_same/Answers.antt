use Rattle.cl_untouched.proofs.Untouched.{untouched-cells, untouched-items}
use Rattle.cl_untouched.proofs.laws.untouched_places_show_the_same.Goals as goal

pub returns-clause-items : goal.returns-clause-items
returns-clause-items c = untouched-items

pub returns-clause-cells : goal.returns-clause-cells
returns-clause-cells c = untouched-cells
