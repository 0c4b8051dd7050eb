use Rattle.cl_reuse.proofs.DisplayPays.{all-counted, display-pays, display-works, nothing-kept}
use Rattle.cl_reuse.proofs.laws.what_is_kept_costs_no_more_than_the_display.Goals as goal

pub returns-clause-none : goal.returns-clause-none
returns-clause-none c = nothing-kept

pub returns-clause-pays : goal.returns-clause-pays
returns-clause-pays c = display-pays

pub returns-clause-work : goal.returns-clause-work
returns-clause-work c = display-works

pub returns-clause-counts : goal.returns-clause-counts
returns-clause-counts c = all-counted
